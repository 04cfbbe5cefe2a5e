-- The list of superfluous copies on a well-formed table (stated in Demands): it is refused exactly when a pair compares as refusal 7,
-- and the mask and the count that it answers follow from the comparisons. Assumes a well-formed table.
use Rattle.std.specs.Prelude.{◌≡◌, refl, ◌⊎◌, ◌↔◌, cond, List, ℕ, ◌/◌, ◌%◌, ◌^◌, ◌<◌, eqb}
use Rattle.std.proofs.Common.{sym, ◌∙◌, inl, inr, ⊎_elim}
use Rattle.std.proofs.Math.Path.{ap}
use native.Mathlib.Omega.{arith}
use Rattle.std.specs.Int.Count.{ones}
use Rattle.model.specs.Tests.{count}
use Rattle.model.specs.Steps.{unrelated, comparison, is_superfluous, mask_of}
use Rattle.model.specs.Answers.{refused, ordered, listed, number_of_order, order_once}
use Rattle.model.specs.Bytes.{copies_in, table_rows}
use Rattle.model.specs.Calls.{copy_order, compare_says, superfluous_reasons, superfluous_mask_of, superfluous_says}
use Rattle.model.specs.declared.Order.{Order}
use Rattle.model.specs.declared.Order.TheVariants.{Equal, Newer}
use Rattle.facts.specs.Cases.{by_eq, by_lt, by_test, clash}
use Rattle.facts.specs.Numbers.{count_same}
use Rattle.laws.specs.WellFormed.{WellTable, table_copies}
use Rattle.laws.specs.Reasons.{First, is_own, answer-accepted}
use Rattle.laws.specs.Grounds.{SomeUnrelated, CopiesUnrelated, table_grounds, superfluous_rest, unrelated→, →unrelated}
use Rattle.laws.specs.Refusals.{superfluous_ruled}
use Rattle.laws.specs.Accepted.{→table_none, →superfluous_accepted}
use Rattle.laws.specs.Mirror.{mirrored_order, unrelated-mirrored, comparison-mirrored}
use Rattle.laws.specs.Superfluous.{Covered, mask_below, mask_ones, mask_bit}
use Rattle.demands.specs.Behind.{first_behind, behind_first}
use Rattle.demands.specs.OnTables.{compare_related, compare-unrelated, compare_itself}

-- Copy j compares equal to copy i or newer than it.
abbrev pub EqualOrNewer : List ℕ → ℕ → ℕ → Type 0
EqualOrNewer t j i = (compare_says t j i ≡ ordered 0) ⊎ (compare_says t j i ≡ ordered 2)

same_order : (k m : ℕ) → ordered k ≡ ordered m → k ≡ m
same_order k m e = cc

not_ordered : (k m : ℕ) → ordered k ≡ refused m → ⊥
not_ordered k m e = clash refl (ap is_own e)

module _ {n : ℕ} {t : List ℕ} (w : WellTable n t) where
  -- ---- Refusal 7

  refused→ : (i j : ℕ) → i < n → j < n → compare_says t i j ≡ refused 7 → SomeUnrelated n i j (table_rows n t i) (table_rows n t j)
  refused→ i j hi hj e =
      by_test (unrelated n i j (table_rows n t i) (table_rows n t j)) (unrelated→ n i j (table_rows n t i) (table_rows n t j))
      (λ f. absurd (not_ordered _ 7 (sym (compare_related w i j hi hj (λ u. clash (→unrelated n i j (table_rows n t i) (table_rows n t j) u) f)) ∙ e)))

  turned : (i j : ℕ) → SomeUnrelated n i j (table_rows n t i) (table_rows n t j) → SomeUnrelated n j i (table_rows n t j) (table_rows n t i)
  turned i j u =
      unrelated→ n j i (table_rows n t j) (table_rows n t i)
      (unrelated-mirrored n i j (table_rows n t i) (table_rows n t j) ∙ →unrelated n i j (table_rows n t i) (table_rows n t j) u)

  -- An unrelated pair refuses the whole call.
  pair_refuses : (i j : ℕ) → i < j → j < n → SomeUnrelated n i j (table_rows n t i) (table_rows n t j) → superfluous_says t ≡ refused 7
  pair_refuses i j l h u =
      let here : CopiesUnrelated t i j = rw (table_copies w) u in
      let below : j < copies_in t = rw (table_copies w) h in
      ((superfluous_ruled t).refuses 7).1
      (first_behind (table_grounds t) (superfluous_rest t) 7 (→table_none n t w) (inl ((i, j, l, below, here), refl)))

  pub list_refused : (superfluous_says t ≡ refused 7) ↔ ((i : ℕ) × (j : ℕ) × (i < n) × (j < n) × (compare_says t i j ≡ refused 7))
  unfolding superfluous_says
  list_refused = (to, λ q. from q.0 q.1 q.2 q.3 (refused→ q.0 q.1 q.2 q.3 q.4) q.4)
    where
      from : (i j : ℕ) → i < n → j < n → SomeUnrelated n i j (table_rows n t i) (table_rows n t j) → compare_says t i j ≡ refused 7 → superfluous_says t ≡ refused 7
      from i j hi hj u e =
          by_lt i j (λ l. pair_refuses i j l hj u)
          (λ l. by_eq i j
          (λ q. absurd (not_ordered 0 7 (sym (compare_itself w i hi) ∙ ap (compare_says t i) q ∙ e)))
          (λ ne. pair_refuses j i (omega arith) hi (turned i j u)))

      found : First (superfluous_rest t) 7 → (i : ℕ) × (j : ℕ) × (i < n) × (j < n) × (compare_says t i j ≡ refused 7)
      found (inl f) =
          let (i, j, l, h, u) = f.0 in
          let hj : j < n = rw (table_copies w) at h in
          let hi : i < n = omega arith in
          (i, j, hi, hj, compare-unrelated w i j hi hj (rw (table_copies w) at u))
      found (inr f) = absurd f.1

      to : superfluous_says t ≡ refused 7 → (i : ℕ) × (j : ℕ) × (i < n) × (j < n) × (compare_says t i j ≡ refused 7)
      to e = found (behind_first (table_grounds t) (superfluous_rest t) 7 (→table_none n t w) (((superfluous_ruled t).refuses 7).0 e))

  -- ---- The answer

  -- Where the call answers, no pair of different copies has an unrelated slice.
  module _ (e : superfluous_says t ≡ listed (superfluous_mask_of t) (ones (superfluous_mask_of t))) where
    all_related : (i j : ℕ) → i < n → j < n → (j ≡ i → ⊥) → SomeUnrelated n i j (table_rows n t i) (table_rows n t j) → ⊥
    all_related i j hi hj ne u =
        by_lt i j (λ l. off (pair_refuses i j l hj u)) (λ l. off (pair_refuses j i (omega arith) hi (turned i j u)))
      where
        off : superfluous_says t ≡ refused 7 → ⊥
        off r = clash refl (ap is_own (sym e ∙ r))

    module _ (i j : ℕ) (hi : i < n) (hj : j < n) (ne : j ≡ i → ⊥) where
      says : compare_says t j i ≡ ordered (number_of_order (comparison n j i (table_rows n t j) (table_rows n t i)))
      says = compare_related w j i hj hi (λ u. all_related i j hi hj ne (turned j i u))

      order_is : copy_order t i j ≡ comparison n i j (table_rows n t i) (table_rows n t j)
      unfolding copy_order
      order_is = rw (table_copies w)

      -- The other's comparison, read from this copy's side.
      pub covered→ : Covered (copy_order t i j) → EqualOrNewer t j i
      covered→ c =
          let m = comparison-mirrored n i j (table_rows n t i) (table_rows n t j) in
          ⊎_elim
          (λ q. inl (says ∙ ap (λ (o : Order). ordered (number_of_order o)) (m ∙ ap mirrored_order (sym order_is ∙ q))))
          (λ q. inr (says ∙ ap (λ (o : Order). ordered (number_of_order o)) (m ∙ ap mirrored_order (sym order_is ∙ q))))
          c

      pub →covered : EqualOrNewer t j i → Covered (copy_order t i j)
      →covered c =
          let m = comparison-mirrored n j i (table_rows n t j) (table_rows n t i) in
          ⊎_elim
          (λ q. inl (order_is ∙ m ∙ ap mirrored_order (order_once (comparison n j i (table_rows n t j) (table_rows n t i)) Equal (same_order _ 0 (sym says ∙ q)))))
          (λ q. inr (order_is ∙ m ∙ ap mirrored_order (order_once (comparison n j i (table_rows n t j) (table_rows n t i)) Newer (same_order _ 2 (sym says ∙ q)))))
          c

    mask_is : superfluous_mask_of t ≡ mask_of n (is_superfluous n (copy_order t))
    unfolding superfluous_mask_of
    mask_is = rw (table_copies w)

    pub bit_is : (i : ℕ) → i < n → superfluous_mask_of t / 2 ^ i % 2 ≡ cond (is_superfluous n (copy_order t) i) 1 0
    bit_is i h = rw mask_is (mask_bit n (is_superfluous n (copy_order t)) i h)

    own-count : ones (superfluous_mask_of t) ≡ count n (λ i. eqb (superfluous_mask_of t / 2 ^ i % 2) 1)
    own-count =
        ap ones mask_is
        ∙ mask_ones n (is_superfluous n (copy_order t))
        ∙ count_same n (is_superfluous n (copy_order t)) (λ i. eqb (superfluous_mask_of t / 2 ^ i % 2) 1)
        (λ i h. by_test (is_superfluous n (copy_order t) i)
        (λ s. rw (bit_is i h, s))
        (λ s. rw (bit_is i h, s)))

  -- What it answers is the mask and the number of its ones.
  pub own-list : (m c : ℕ) → superfluous_says t ≡ listed m c → (superfluous_says t ≡ listed (superfluous_mask_of t) (ones (superfluous_mask_of t))) × (superfluous_mask_of t ≡ m) × (ones (superfluous_mask_of t) ≡ c)
  own-list m c e =
      ⊎_elim
      (λ s. let q : listed (superfluous_mask_of t) (ones (superfluous_mask_of t)) ≡ listed m c = sym s ∙ e in (s, same_mask q, same_count q))
      (λ r. absurd (clash refl (ap is_own (sym e ∙ r.2))))
      (superfluous_ruled t).nothing_else
    where
      same_mask : {i j k l : ℕ} → listed i j ≡ listed k l → i ≡ k
      same_mask q = cc

      same_count : {i j k l : ℕ} → listed i j ≡ listed k l → j ≡ l
      same_count q = cc

  module _ (m c : ℕ) (e : superfluous_says t ≡ listed m c) where
    pub list_below : m < 2 ^ n
    list_below = let q = own-list m c e in rw (sym q.1 ∙ mask_is q.0) (mask_below n (is_superfluous n (copy_order t)))

    pub list_ones : c ≡ ones m
    list_ones = let q = own-list m c e in sym q.2 ∙ ap ones q.1

    pub list-count : c ≡ count n (λ i. eqb (m / 2 ^ i % 2) 1)
    list-count = let q = own-list m c e in sym q.2 ∙ own-count q.0 ∙ ap (λ (x : ℕ). count n (λ i. eqb (x / 2 ^ i % 2) 1)) q.1

  -- It answers where no pair compares as refusal 7.
  pub list_answers : ((i j : ℕ) → i < n → j < n → compare_says t i j ≡ refused 7 → ⊥) → (m : ℕ) × (c : ℕ) × (superfluous_says t ≡ listed m c)
  unfolding superfluous_says
  list_answers h = (
    superfluous_mask_of t,
    ones (superfluous_mask_of t),
    answer-accepted (superfluous_reasons t) (listed (superfluous_mask_of t) (ones (superfluous_mask_of t)))
        (→superfluous_accepted n t w
        (λ i j l hj. rw (table_copies w) (λ u. let hi : i < n = omega arith in h i j hi hj (compare-unrelated w i j hi hj u)))),
  )
