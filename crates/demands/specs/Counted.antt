-- Which calls of a history count: those that were answered 'done'. The bytes stand after the whole list as they stand after the
-- accepted calls alone, whatever table it starts from; and version vectors that are told of the accepted calls alone are the model's.
-- Assumes nothing.
use Rattle.std.specs.Prelude.{◌≡◌, refl, ◌⊎◌, true, false, not, ◌&&◌, ◌||◌, List, [], ◌∷◌, ◌++◌, map, ℕ, ◌<◌, eqb, ltb, leb}
use Rattle.std.proofs.Common.{sym, ap, ◌∙◌, inl, inr, ⊎_elim, ltb-true, lt-ltb, le-leb, eq-eqb, ne_eqb}
use Rattle.std.proofs.Math.Path.{fun_ext}
use Rattle.std.proofs.lemmas.Bool.{lt-leb, eqb-false, not-true}
use Rattle.model.specs.Answers.{Said, refused, done, ordered, listed, refuse, answer}
use Rattle.model.specs.Calls.{fresh_leaves}
use Rattle.model.specs.Vectors.{Vectors, initial_vectors}
use Rattle.model.specs.History.{Call, update, meet, call_says, call_leaves, run_bytes, is_valid, step_vectors, call_vectors, run_vectors}
use Rattle.facts.specs.Cases.{by_eq, by_lt, by_test, clash, both→, →both, true_not, cond_true, cond_false}
use Rattle.laws.specs.Reasons.{is_own}
use Rattle.laws.specs.Refusals.{update_ruled, update_refused, meet_ruled, meet_refused}

-- ---- Definitions

-- The numbers of a call are valid: below N, and two different ones for a meeting.
abbrev pub Valid : ℕ → Call → Type 0
Valid n (update p) = p < n
Valid n (meet a b) = (a < n) × (b < n) × (a ≡ b → ⊥)

-- What the numbers alone make of a call: 5 for a copy number of N or more, 6 for one copy named twice, else done.
unfoldable pub by_numbers : ℕ → Call → Said
by_numbers n (update p) = answer (refuse (leb n p) 5 ∷ []) done
by_numbers n (meet a b) = answer (refuse (leb n a || leb n b) 5 ∷ refuse (eqb a b) 6 ∷ []) done

-- The accepted calls: those that were answered 'done'.
abbrev pub accepted_of : List Call → List Said → List Call
accepted_of [] s = []
accepted_of (c ∷ l) [] = []
accepted_of (c ∷ l) (done ∷ s) = c ∷ accepted_of l s
accepted_of (c ∷ l) (refused k ∷ s) = accepted_of l s
accepted_of (c ∷ l) (ordered k ∷ s) = accepted_of l s
accepted_of (c ∷ l) (listed m k ∷ s) = accepted_of l s

-- Version vectors after calls that all count.
unfoldable pub vectors_after : Vectors → List Call → Vectors
vectors_after v [] = v
vectors_after v (c ∷ l) = vectors_after (step_vectors v c) l

-- From the bytes of fresh, made in the buffer b: the table after a list of calls, the answers of these, and the version vectors after
-- those of them that were accepted.
abbrev pub table_after : ℕ → List ℕ → List Call → List ℕ
table_after n b l = (run_bytes (fresh_leaves b n) l).table

abbrev pub answers_of : ℕ → List ℕ → List Call → List Said
answers_of n b l = (run_bytes (fresh_leaves b n) l).answers

abbrev pub vectors_of : ℕ → List ℕ → List Call → Vectors
vectors_of n b l = vectors_after initial_vectors (accepted_of l (answers_of n b l))

-- ---- One call more

pub run_next : (t : List ℕ) (l : List Call) (c : Call) → (run_bytes t (l ++ (c ∷ []))).table ≡ call_leaves (run_bytes t l).table c
unfolding run_bytes
run_next t [] c = refl
run_next t (d ∷ l) c = run_next (call_leaves t d) l c

-- ---- Refused calls count for nothing

call_either : (t : List ℕ) (c : Call) → (call_says t c ≡ done) ⊎ ((k : ℕ) × (call_says t c ≡ refused k))
unfolding call_says
call_either t (update p) = ⊎_elim inl (λ w. inr (w.0, w.2)) (update_ruled t p).nothing_else
call_either t (meet a b) = ⊎_elim inl (λ w. inr (w.0, w.2)) (meet_ruled t a b).nothing_else

call_refused : (t : List ℕ) (c : Call) (k : ℕ) → call_says t c ≡ refused k → call_leaves t c ≡ t
unfolding call_says call_leaves
call_refused t (update p) k e = update_refused t p k e
call_refused t (meet a b) k e = meet_refused t a b k e

pub refused_uncounted : (l : List Call) (t : List ℕ) → (run_bytes t (accepted_of l (run_bytes t l).answers)).table ≡ (run_bytes t l).table
unfolding run_bytes
refused_uncounted [] t = refl
refused_uncounted (c ∷ l) t =
    ⊎_elim
    (λ e. rw e (refused_uncounted l (call_leaves t c)))
    (λ w.
    let same : call_leaves t c ≡ t = call_refused t c w.0 w.1 in
    let front : (run_bytes t (accepted_of (c ∷ l) (call_says t c ∷ (run_bytes (call_leaves t c) l).answers))).table ≡ (run_bytes t l).table = rw (w.1, same) (refused_uncounted l t) in
    front ∙ ap (λ (u : List ℕ). (run_bytes u l).table) (sym same))
    (call_either t c)

-- ---- The numbers decide

valid→ : (n : ℕ) (c : Call) → is_valid n c ≡ true → Valid n c
unfolding is_valid
valid→ n (update p) e = ltb-true p n e
valid→ n (meet a b) e =
    let x = both→ (ltb a n && ltb b n) (not (eqb a b)) e in
    let y = both→ (ltb a n) (ltb b n) x.0 in
    (ltb-true a n y.0, ltb-true b n y.1, eqb-false a b (not-true (eqb a b) x.1))

→valid : (n : ℕ) (c : Call) → Valid n c → is_valid n c ≡ true
unfolding is_valid
→valid n (update p) v = lt-ltb p n v
→valid n (meet a b) v = →both (→both (lt-ltb a n v.0) (lt-ltb b n v.1)) (true_not (ne_eqb a b v.2))

pub →by_numbers : (n : ℕ) (c : Call) → Valid n c → by_numbers n c ≡ done
unfolding by_numbers answer
→by_numbers n (update p) v = rw (lt-leb n p v)
→by_numbers n (meet a b) v = rw (lt-leb n a v.0, lt-leb n b v.1, ne_eqb a b v.2)

-- Not valid: refused.
by_numbers-not : (n : ℕ) (c : Call) → (Valid n c → ⊥) → (k : ℕ) × (by_numbers n c ≡ refused k)
unfolding by_numbers answer
by_numbers-not n (update p) h = by_lt p n (λ l. absurd (h l)) (λ l. (5, rw (le-leb n p l)))
by_numbers-not n (meet a b) h =
    by_lt a n
    (λ la. by_lt b n
    (λ lb. by_eq a b (λ e. (6, rw (lt-leb n a la, lt-leb n b lb, eq-eqb a b e))) (λ ne. absurd (h (la, lb, ne))))
    (λ lb. (5, rw (lt-leb n a la, le-leb n b lb))))
    (λ la. (5, rw (le-leb n a la)))

pub by_numbers→ : (n : ℕ) (c : Call) → by_numbers n c ≡ done → Valid n c
by_numbers→ n c e =
    by_test (is_valid n c) (valid→ n c)
    (λ f. let w = by_numbers-not n c (λ h. clash (→valid n c h) f) in absurd (clash refl (ap is_own (sym e ∙ w.1))))

-- ---- Vectors told of the accepted calls alone

module _ (n : ℕ) (v : Vectors) (c : Call) where
  counts : is_valid n c ≡ true → call_vectors n v c ≡ step_vectors v c
  unfolding call_vectors
  counts e = fun_ext (λ i. fun_ext (λ k. cond_true (step_vectors v c i k) (v i k) e))

  counts_not : is_valid n c ≡ false → call_vectors n v c ≡ v
  unfolding call_vectors
  counts_not e = fun_ext (λ i. fun_ext (λ k. cond_false (step_vectors v c i k) (v i k) e))

pub vectors_accepted : (n : ℕ) (l : List Call) (v : Vectors) → run_vectors n v l ≡ vectors_after v (accepted_of l (map (by_numbers n) l))
unfolding run_vectors vectors_after
vectors_accepted n [] v = refl
vectors_accepted n (c ∷ l) v =
    by_test (is_valid n c)
    (λ e. rw (counts n v c e, →by_numbers n c (valid→ n c e)) (vectors_accepted n l (step_vectors v c)))
    (λ e.
    let w = by_numbers-not n c (λ h. clash (→valid n c h) e) in
    rw (counts_not n v c e, w.1) (vectors_accepted n l v))
