-- The bits of the mask of superfluous copies, by the comparisons (stated in Demands): bit i is one exactly when some other copy compares
-- equal to copy i or newer than it. Assumes a well-formed table.
use Rattle.std.specs.Prelude.{◌≡◌, ◌↔◌, List, ℕ, ◌/◌, ◌%◌, ◌^◌, ◌<◌}
use Rattle.std.proofs.Common.{◌∙◌, arith}
use Rattle.std.specs.Int.Count.{ones}
use Rattle.model.specs.Steps.{is_superfluous}
use Rattle.model.specs.Answers.{listed}
use Rattle.model.specs.Calls.{copy_order, superfluous_mask_of, superfluous_says}
use Rattle.facts.specs.Cases.{by_test, cond_true, cond_false}
use Rattle.laws.specs.WellFormed.{WellTable}
use Rattle.laws.specs.Superfluous.{superfluous→, →superfluous}
use Rattle.demands.specs.Listing.{EqualOrNewer, covered→, →covered, bit_is, own-list}

module _ {n : ℕ} {t : List ℕ} (w : WellTable n t) where
  -- Where the call answers.
  module _ (e : superfluous_says t ≡ listed (superfluous_mask_of t) (ones (superfluous_mask_of t))) where
    own_bit : (i : ℕ) → i < n → (superfluous_mask_of t / 2 ^ i % 2 ≡ 1) ↔ ((j : ℕ) × (j < n) × (j ≡ i → ⊥) × EqualOrNewer t j i)
    own_bit i hi = (to, from)
      where
        to : superfluous_mask_of t / 2 ^ i % 2 ≡ 1 → (j : ℕ) × (j < n) × (j ≡ i → ⊥) × EqualOrNewer t j i
        to b =
            by_test (is_superfluous n (copy_order t) i)
            (λ s. let (j, hj, ne, c) = superfluous→ n (copy_order t) i s in (j, hj, ne, covered→ w e i j hi hj ne c))
            (λ s. let z : superfluous_mask_of t / 2 ^ i % 2 ≡ 0 = bit_is w e i hi ∙ cond_false 1 0 s in absurd (omega arith))

        from : (j : ℕ) × (j < n) × (j ≡ i → ⊥) × EqualOrNewer t j i → superfluous_mask_of t / 2 ^ i % 2 ≡ 1
        from q =
            let (j, hj, ne, c) = q in
            bit_is w e i hi ∙ cond_true 1 0 (→superfluous n (copy_order t) i j hj ne (→covered w e i j hi hj ne c))

  module _ (m c : ℕ) (e : superfluous_says t ≡ listed m c) where
    pub list_bit : (i : ℕ) → i < n → (m / 2 ^ i % 2 ≡ 1) ↔ ((j : ℕ) × (j < n) × (j ≡ i → ⊥) × EqualOrNewer t j i)
    list_bit i h = let q = own-list w m c e in rw q.1 at (own_bit q.0 i h)
