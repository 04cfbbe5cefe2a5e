-- Demand 3 on bytes, part by part (the whole is stated in Demands): what the calls' outcome definitions say on the table that stands
-- after a list of calls from the bytes of fresh. Assumes N from 2 to 8 and a buffer of the table's length.
use Rattle.std.specs.Prelude.{◌≡◌, ◌↔◌, true, false, ◌&&◌, ◌||◌, ℕ, ◌≤◌, ◌<◌, length, eqb}
use Rattle.std.proofs.Math.Path.{refl, ap, ap₂}
use Rattle.std.proofs.Common.{sym, ◌∙◌}
use Rattle.std.proofs.Math.Bool.{not}
use mathlib.Core.List.{List, [], ◌∷◌, ◌++◌, map}
use native.Mathlib.Omega.{arith}
use Rattle.std.proofs.Math.Dec.{leb}
use Rattle.std.specs.Int.Count.{ones}
use borrow.Author.Tests.{lt-leb, leb-false}
use Rattle.model.specs.Tests.{head, is_in}
use Rattle.model.specs.Steps.{fresh_rows, is_covered, is_superfluous, mask_of}
use Rattle.model.specs.Answers.{Said, done, ordered, listed, answer, accepted, number_of_order}
use Rattle.model.specs.Bytes.{table_size, table_rows}
use Rattle.model.specs.Calls.{table_reasons, fresh_reasons, fresh_says, fresh_leaves, check_says, update_says, update_leaves, meet_says, copy_order, compare_says, lend_reasons, lend_says, superfluous_reasons, superfluous_mask_of, superfluous_says}
use Rattle.model.specs.Vectors.{Vectors, initial_vectors, vector_order}
use Rattle.model.specs.History.{Call, update, meet, call_says, call_leaves, run_bytes, run_vectors}
use Rattle.model.specs.declared.Order.{Order}
use Rattle.facts.specs.Cases.{by_test, clash, neither→}
use Rattle.facts.specs.Numbers.{any_same}
use Rattle.laws.specs.Layout.{table_rows_back}
use Rattle.laws.specs.WellFormed.{WellTable, table_copies}
use Rattle.laws.specs.RoundTrip.{table_fits}
use Rattle.laws.specs.UpdateKept.{fresh-kept}
use Rattle.laws.specs.Reasons.{answer-accepted}
use Rattle.laws.specs.Grounds.{→unrelated}
use Rattle.laws.specs.Accepted.{→table_accepted, →fresh-accepted, →lend_accepted, →superfluous_accepted}
use Rattle.laws.specs.Leaves.{fresh_leaves_lem, fresh_well, update_rows}
use Rattle.laws.specs.Depends.{update_by, meet_by, compare_by}
use Rattle.laws.specs.Superfluous.{mask_same}
use Rattle.history.specs.Demand.{Agreement}
use Rattle.history.proofs.Demand.{demand_viewed}
use Rattle.demands.specs.Viewed.{keeps, bytes}
use Rattle.demands.specs.Counted.{Valid, by_numbers, accepted_of, vectors_after, table_after, answers_of, vectors_of, run_next, →by_numbers, by_numbers→, vectors_accepted}

run_well : (n : ℕ) (l : List Call) (t : List ℕ) → WellTable n t → WellTable n (run_bytes t l).table
unfolding run_bytes
run_well n [] t w = w
run_well n (c ∷ l) t w = run_well n l (call_leaves t c) (keeps n t c w)

-- ---- A table whose rows are in agreement with vectors

module _ (n : ℕ) (t : List ℕ) (w : WellTable n t) (v : Vectors) (g : Agreement n (table_rows n t) v) where
  numbers_say : (c : Call) → call_says t c ≡ by_numbers n c
  unfolding call_says by_numbers answer
  numbers_say (update p) = update_by n t w p
  numbers_say (meet a b) =
      meet_by n t w a b
      ∙ by_test (leb n a || leb n b)
      (λ e. rw e)
      (λ e.
      let x = neither→ (leb n a) (leb n b) e in
      rw (e, g.related a b (leb-false n a x.0) (leb-false n b x.1)) (by_test (eqb a b) (λ q. rw q) (λ q. rw q)))

  vectors_say : (a b : ℕ) → a < n → b < n → compare_says t a b ≡ ordered (number_of_order (vector_order n v a b))
  unfolding answer
  vectors_say a b ha hb =
      compare_by n t w a b
      ∙ rw (lt-leb n a ha, lt-leb n b hb, g.related a b ha hb) (ap (λ (o : Order). ordered (number_of_order o)) (g.agrees a b ha hb))

  check_says_lem : check_says t ≡ done
  unfolding check_says
  check_says_lem = answer-accepted (table_reasons t) done (→table_accepted n t w)

  lend_says_lem : (i : ℕ) → i < n → lend_says t i ≡ done
  unfolding lend_says
  lend_says_lem i h = answer-accepted (lend_reasons t i) done (→lend_accepted n t i w h)

  order_says : (a b : ℕ) → a < n → b < n → copy_order t a b ≡ vector_order n v a b
  unfolding copy_order
  order_says a b ha hb = rw (table_copies w) (g.agrees a b ha hb)

  vectors_mask : superfluous_mask_of t ≡ mask_of n (is_superfluous n (vector_order n v))
  unfolding superfluous_mask_of is_superfluous
  vectors_mask =
      rw (table_copies w)
      (mask_same n (is_superfluous n (copy_order t)) (is_superfluous n (vector_order n v))
      (λ i h. any_same n (λ j. not (eqb j i) && is_covered (copy_order t i j)) (λ j. not (eqb j i) && is_covered (vector_order n v i j))
      (λ j l. ap (λ (o : Order). not (eqb j i) && is_covered o) (order_says i j h l))))

  list_says : superfluous_says t ≡ listed (mask_of n (is_superfluous n (vector_order n v))) (ones (mask_of n (is_superfluous n (vector_order n v))))
  unfolding superfluous_says
  list_says =
      answer-accepted (superfluous_reasons t) (listed (superfluous_mask_of t) (ones (superfluous_mask_of t)))
      (→superfluous_accepted n t w
      (λ i j l h. rw (table_copies w) (λ u. let hi : i < n = omega arith in clash (→unrelated n i j (table_rows n t i) (table_rows n t j) u) (g.related i j hi h))))
      ∙ ap (λ (m : ℕ). listed m (ones m)) vectors_mask

  new_says : (p c : ℕ) → p < n → c < n → is_in (head (table_rows n (update_leaves t p) p p p)) (table_rows n t c p c) ≡ false
  new_says p c hp hc = rw (update_rows n t p w hp p p p hp hp hp) (g.unseen p c hp hc)

-- ---- After every list of calls from the bytes of fresh

module _ (n : ℕ) (low : 2 ≤ n) (high : n ≤ 8) (b : List ℕ) (room : length b ≡ table_size n) where
  fresh_taken : accepted (fresh_reasons b n) ≡ true
  fresh_taken = →fresh-accepted b n low high room

  pub start_done : fresh_says b n ≡ done
  unfolding fresh_says
  start_done = answer-accepted (fresh_reasons b n) done fresh_taken

  start_rows : (c p k : ℕ) → c < n → p < n → k < n → table_rows n (fresh_leaves b n) c p k ≡ fresh_rows c p k
  start_rows c p k hc hp hk =
      rw (fresh_leaves_lem b n fresh_taken) (table_rows_back n fresh_rows c p k (table_fits (fresh-kept n (omega arith))) hc hp hk)

  module _ (l : List Call) where
    pub stays_well : WellTable n (table_after n b l)
    stays_well = run_well n l (fresh_leaves b n) (fresh_well b n fresh_taken)

    in_agreement : Agreement n (table_rows n (table_after n b l)) (run_vectors n initial_vectors l)
    unfolding bytes
    in_agreement = demand_viewed low (bytes n) (fresh_leaves b n) (fresh_well b n fresh_taken) start_rows l

    -- The answer of any further call: by its numbers alone.
    pub by_numbers_lem : (c : Call) → call_says (table_after n b l) c ≡ by_numbers n c
    by_numbers_lem = numbers_say n _ stays_well _ in_agreement

  -- The answers of a list of calls, from the table after another list on.
  answers_after : (m l : List Call) → (run_bytes (table_after n b m) l).answers ≡ map (by_numbers n) l
  unfolding run_bytes
  answers_after m [] = refl
  answers_after m (c ∷ l) =
      ap₂ ◌∷◌ (by_numbers_lem m c)
      (ap (λ (t : List ℕ). (run_bytes t l).answers) (sym (run_next (fresh_leaves b n) m c)) ∙ answers_after (m ++ (c ∷ [])) l)

  module _ (l : List Call) where
    pub answers : answers_of n b l ≡ map (by_numbers n) l
    unfolding run_bytes
    answers = answers_after [] l

    -- The vectors after the same accepted calls.
    same_vectors : run_vectors n initial_vectors l ≡ vectors_of n b l
    same_vectors = vectors_accepted n l initial_vectors ∙ ap (λ (s : List Said). vectors_after initial_vectors (accepted_of l s)) (sym answers)

    agree : Agreement n (table_rows n (table_after n b l)) (vectors_of n b l)
    agree = rw same_vectors at (in_agreement l)

    -- A call is accepted exactly when its numbers are valid.
    pub valid_done : (c : Call) → (call_says (table_after n b l) c ≡ done) ↔ Valid n c
    valid_done c = (λ e. by_numbers→ n c (sym (by_numbers_lem l c) ∙ e), λ h. by_numbers_lem l c ∙ →by_numbers n c h)

    pub compares : (a c : ℕ) → a < n → c < n
        → compare_says (table_after n b l) a c
        ≡ ordered (number_of_order (vector_order n (vectors_of n b l) a c))
    compares = vectors_say n _ (stays_well l) _ agree

    pub checks : check_says (table_after n b l) ≡ done
    checks = check_says_lem n _ (stays_well l) _ agree

    pub updates : (p : ℕ) → p < n → update_says (table_after n b l) p ≡ done
    unfolding call_says
    updates p h = (valid_done (update p)).1 h

    pub meets : (a c : ℕ) → a < n → c < n → (a ≡ c → ⊥) → meet_says (table_after n b l) a c ≡ done
    unfolding call_says
    meets a c ha hc ne = (valid_done (meet a c)).1 (ha, hc, ne)

    pub lends : (i : ℕ) → i < n → lend_says (table_after n b l) i ≡ done
    lends = lend_says_lem n _ (stays_well l) _ agree

    pub lists :
        let m : ℕ = mask_of n (is_superfluous n (vector_order n (vectors_of n b l))) in
        superfluous_says (table_after n b l) ≡ listed m (ones m)
    lists = list_says n _ (stays_well l) _ agree

    pub unseen : (p c : ℕ) → p < n → c < n
        → is_in (head (table_rows n (update_leaves (table_after n b l) p) p p p)) (table_rows n (table_after n b l) c p c) ≡ false
    unseen = new_says n _ (stays_well l) _ agree
