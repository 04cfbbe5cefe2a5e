-- Laws for the loop that looks at the other copies of a copy. Assumes nothing.
use Rattle.std.specs.Prelude.{◌≡◌, Bool, false, not, ◌&&◌, ◌||◌, ℕ, ◌+◌, ◌<◌, eqb, Ok, Err}
use Rattle.std.proofs.Math.Path.{refl, sym}
use Rattle.std.proofs.Math.Bool.{or-false}
use Rattle.std.proofs.Common.{◌∙◌, eq-eqb}
use borrow.Author.Tests.{ne_eqb}
use Rattle.model.specs.Tests.{any}
use Rattle.model.specs.Steps.{Table, is_covered}
use Rattle.model.specs.declared.Order.{Order}
use Rattle.model.specs.declared.Refusal.{Refusal}
use Rattle.facts.specs.Numbers.{any_next, →any}
use Rattle.pair.specs.Pair.{pair_compared, compared_ok, compared_err}
use Rattle.copies.specs.Copies.{apart, order, apart_from, covered_by, cover_of}

-- The first m copies are looked at: none of them is apart from copy i, and covered says whether one covers it.
pub record Looked (n : ℕ) (t : Table) (i m : ℕ) (covered : Bool) : Type 0 where
  pub related : apart_from n t i m ≡ false
  pub covers : covered ≡ covered_by n t i m

module _ (n : ℕ) (t : Table) (i : ℕ) where
  pub looked_start : Looked n t i 0 false
  unfolding apart_from covered_by any
  looked_start = record { related = refl; covers = refl }

  module _ {m : ℕ} {covered : Bool} (so_far : Looked n t i m covered) where
    -- Copy i itself is passed over.
    pub looked_itself : m ≡ i → Looked n t i (m + 1) covered
    unfolding apart_from covered_by
    looked_itself e = record {
      related = any_next m (λ j. not (eqb j i) && apart n t i j) ∙ rw (so_far.related, eq-eqb m i e) refl;
      covers = so_far.covers ∙ sym (any_next m (λ j. not (eqb j i) && is_covered (order n t i j)) ∙ rw (eq-eqb m i e) (or-false (covered_by n t i m)));
    }

    module _ (other : m ≡ i → ⊥) where
      -- Another copy, whose order is known.
      pub looked_next : (o : Order) → Ok o ≡ pair_compared n i m (t i) (t m) → Looked n t i (m + 1) (covered || is_covered o)
      unfolding apart order apart_from covered_by
      looked_next o e = let near = compared_ok n i m (t i) (t m) o e in record {
        related = any_next m (λ j. not (eqb j i) && apart n t i j) ∙ rw (so_far.related, ne_eqb m i other, near.0) refl;
        covers = rw (so_far.covers, near.1) (sym (any_next m (λ j. not (eqb j i) && is_covered (order n t i j)) ∙ rw (ne_eqb m i other) refl));
      }

      -- One copy that is unrelated decides.
      pub looked_apart : m < n → (r : Refusal) → Err r ≡ pair_compared n i m (t i) (t m) → Err r ≡ cover_of (apart_from n t i n) (covered_by n t i n)
      unfolding apart apart_from
      looked_apart less r e =
          let far = compared_err n i m (t i) (t m) r e in
          rw (far.1, →any n (λ j. not (eqb j i) && apart n t i j) m less (rw (ne_eqb m i other, far.0) refl)) refl
