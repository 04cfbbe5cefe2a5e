-- Laws for the comparison of two records: the counts of the slices looked at so far. Assumes nothing.
use Rattle.std.specs.Prelude.{◌≡◌, false, cond, ℕ, ◌+◌, ◌≤◌, ◌<◌, Ok, Err}
use Rattle.std.proofs.Common.{refl, sym, ap, ap₂, ◌∙◌, arith}
use Rattle.model.specs.Tests.{count}
use Rattle.model.specs.Steps.{Record, answer_at_slice, is_unrelated, is_behind, is_ahead, unrelated, order_of, comparison}
use Rattle.model.specs.declared.SliceAnswer.{SliceAnswer}
use Rattle.model.specs.declared.SliceAnswer.TheVariants.{Unrelated}
use Rattle.model.specs.declared.Order.{Order}
use Rattle.model.specs.declared.Refusal.TheVariants.{UnrelatedSlice}
use Rattle.facts.specs.Numbers.{count_next, count_le, →any, →none, below_next}
use Rattle.pair.specs.Pair.{pair_compared}

-- The slices below p are looked at: none is unrelated, so many are behind and so many ahead.
pub record Counted (n a b : ℕ) (x y : Record) (p behind ahead : ℕ) : Type 0 where
  pub related : (q : ℕ) → q < p → is_unrelated (answer_at_slice a b x y q) ≡ false
  pub behinds : behind ≡ count p (λ q. is_behind (answer_at_slice a b x y q))
  pub aheads : ahead ≡ count p (λ q. is_ahead (answer_at_slice a b x y q))

module _ (n a b : ℕ) (x y : Record) where
  pub counted_start : Counted n a b x y 0 0 0
  unfolding count
  counted_start = record { related = λ q h. absurd (omega arith); behinds = refl; aheads = refl }

  module _ {p behind ahead : ℕ} (so_far : Counted n a b x y p behind ahead) where
    pub counts_fit : (behind ≤ p) × (ahead ≤ p)
    counts_fit = (
      omega (arith, so_far.behinds, count_le p (λ q. is_behind (answer_at_slice a b x y q))),
      omega (arith, so_far.aheads, count_le p (λ q. is_ahead (answer_at_slice a b x y q))),
    )

    pub counted_next : (s : SliceAnswer) → s ≡ answer_at_slice a b x y p → is_unrelated s ≡ false → {i j : ℕ} → i ≡ cond (is_behind s) 1 0
        → j ≡ cond (is_ahead s) 1 0 → Counted n a b x y (p + 1) (behind + i) (ahead + j)
    counted_next s e known ei ej = record {
      related = λ q h. below_next (λ r. is_unrelated (answer_at_slice a b x y r) ≡ false) so_far.related (rw (← e) known) q (omega arith);
      behinds =
          ap₂ ◌+◌ so_far.behinds (ei ∙ ap (λ (t : SliceAnswer). cond (is_behind t) 1 0) e)
          ∙ sym (count_next p (λ q. is_behind (answer_at_slice a b x y q)));
      aheads =
          ap₂ ◌+◌ so_far.aheads (ej ∙ ap (λ (t : SliceAnswer). cond (is_ahead t) 1 0) e)
          ∙ sym (count_next p (λ q. is_ahead (answer_at_slice a b x y q)));
    }

    -- At an unrelated slice the comparison is refused.
    pub counted_unrelated : answer_at_slice a b x y p ≡ Unrelated → p < n → Err UnrelatedSlice ≡ pair_compared n a b x y
    unfolding pair_compared unrelated
    counted_unrelated e less = rw (→any n (λ q. is_unrelated (answer_at_slice a b x y q)) p less (ap is_unrelated e)) refl

    -- With every slice looked at, the order stands in the counts.
    pub counted_done : p ≡ n → {o : Order} → o ≡ order_of behind ahead → Ok o ≡ pair_compared n a b x y
    unfolding pair_compared unrelated comparison
    counted_done all e =
        rw (→none n (λ q. is_unrelated (answer_at_slice a b x y q)) (λ q h. so_far.related q (omega arith)), e, so_far.behinds, so_far.aheads, all) refl
