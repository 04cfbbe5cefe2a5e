-- The symbols in use as bits of a word: one row more, and the smallest that is free. Assumes nothing.
use mathlib.Core.Path.{◌≡◌, refl, sym, ◌∙◌}
use mathlib.Core.Bool.{Bool, true, false, cond, not}
use Prim.Native.Nat.{ℕ, zero, suc, ◌+◌, ◌-◌, ◌*◌, ◌<◌, ◌≤◌, ◌^◌, min}
use native.Mathlib.Nat.{zero-div}
use native.Mathlib.Omega.{arith}
use native.Mathlib.Numerals.{add-one}
use lib.Dec.{eqb}
use borrow.Author.Tests.{eq-eqb, ne_eqb}
use Rattle.std.specs.Int.{trailing_ones}
use Rattle.std.specs.Int.Count.{count_trailing_zeros}
use Rattle.std.proofs.Common.{w64}
use Rattle.std.proofs.lemmas.Nat.Bits.{bit_at-trailing_ones, bit_at_ones}
use Rattle.parts.specs.Parts.{join}
use Rattle.model.specs.Tests.{any, least, is_in}
use Rattle.model.specs.Steps.{Slice, in_use, new_symbol}
use Rattle.facts.specs.Cases.{by_lt}
use Rattle.facts.specs.Members.{is_in-append}
use Rattle.facts.specs.Numbers.{least_same, least_at, least_none}
use Rattle.symbols.specs.Marks.{digit, marks}
use Rattle.symbols.proofs.Digits.{digit-marks, marks-append}

pub row_marked : (f : Slice) (k : ℕ) → marks (marks 0 (join k f)) (f k) ≡ marks 0 (join (k + 1) f)
unfolding join
row_marked f k = rw (add-one k) (sym (marks-append 0 (join k f) (f k)))

-- A symbol stands in the join exactly where it stands in some row.
is_in-join : (n : ℕ) (f : Slice) (x : ℕ) → is_in x (join n f) ≡ any n (λ k. is_in x (f k))
unfolding join is_in any
is_in-join zero f x = refl
is_in-join (suc n) f x = is_in-append x (join n f) (f n) ∙ rw (is_in-join n f x)

pub unset_free : (n : ℕ) (f : Slice) → least (n * n) (λ x. eqb (digit (marks 0 (join n f)) x) 0) ≡ new_symbol n f
unfolding new_symbol in_use
unset_free n f = least_same (n * n) (λ x. eqb (digit (marks 0 (join n f)) x) 0) (λ x. not (any n (λ k. is_in x (f k)))) each
  where
    bit : (b : Bool) → eqb (cond b 1 0) 0 ≡ not b
    bit true = refl
    bit false = refl

    each : (x : ℕ) → x < n * n → eqb (digit (marks 0 (join n f)) x) 0 ≡ not (any n (λ k. is_in x (f k)))
    each x h =
        let none : digit 0 x ≡ 0 = rw (zero-div (2 ^ x)) in
        rw (digit-marks 0 (join n f) x, none, is_in-join n f x) (bit (any n (λ k. is_in x (f k))))

-- ---- The lowest bit that is not set

module _ (w : ℕ) (fits : w < 2 ^ 64) where
  -- Each bit below it is set, and it isn't, if it is one of the 64.
  lowest : ((j : ℕ) → j < 64 → j < trailing_ones w64 w → digit w j ≡ 1) × (trailing_ones w64 w < 64 → digit w (trailing_ones w64 w) ≡ 0)
  unfolding count_trailing_zeros
  lowest =
      by_lt (w + 1) (2 ^ 64)
      (λ l. let t = bit_at-trailing_ones w64 w l in (λ j h. t.2 j, λ h. t.1))
      (λ l. let full : w ≡ 2 ^ 64 - 1 = omega arith in
      let all : trailing_ones w64 w ≡ 64 = rw full in
      (λ j h i. rw full (bit_at_ones 64 j h), λ h. absurd (omega (arith, all))))

  pub least_unset : (m : ℕ) → m ≤ 64 → least m (λ x. eqb (digit w x) 0) ≡ min (trailing_ones w64 w) m
  least_unset m h =
      let k : ℕ = trailing_ones w64 w in
      let set : (j : ℕ) → j < m → j < k → eqb (digit w j) 0 ≡ false = (λ j l i. ne_eqb _ _ (λ e. (let one = lowest.0 j (omega arith) i in absurd (omega arith)))) in
      by_lt k m
      (λ l. let end : min k m ≡ k = omega arith in
      rw end (least_at m (λ x. eqb (digit w x) 0) k l (eq-eqb _ _ (lowest.1 (omega arith))) (λ j i. set j (omega arith) i)))
      (λ l. let end : min k m ≡ m = omega arith in
      rw end (least_none m (λ x. eqb (digit w x) 0) (λ j i. set j i (omega arith))))
