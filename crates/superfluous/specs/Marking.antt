-- Laws for the loop that marks the superfluous copies one by one. Assumes nothing.
use Rattle.std.specs.Prelude.{◌≡◌, refl, ◌⊎◌, Bool, true, false, cond, not, ◌&&◌, ℕ, ◌+◌, ◌*◌, ◌%◌, ◌^◌, ◌<◌, eqb, bit_or, Ok, Err}
use Rattle.std.proofs.Common.{ap, ◌∙◌, inl, inr, arith, eqb-true, add-one}
use Rattle.std.proofs.lemmas.Bool.{eqb-false, not-true, not-false}
use Rattle.std.specs.Int.Bits.{or_shifted_r}
use lib.Pow.{shl_exact}
use Rattle.model.specs.Tests.{any_pair}
use Rattle.model.specs.Steps.{Table, mask_of, is_superfluous}
use Rattle.model.specs.declared.Refusal.{Refusal}
use Rattle.facts.specs.Cases.{by_lt, both→, unless→}
use Rattle.facts.specs.Numbers.{any→, none→, →pair, →no_pair, below_next}
use Rattle.pair.specs.Pair.{ok_told, err_told}
use Rattle.copies.specs.Copies.{apart, order, apart_from, covered_by, cover_of}
use Rattle.superfluous.specs.Mask.{masked}
use Rattle.laws.specs.Superfluous.{mask_below}
use Rattle.laws.specs.Mirror.{unrelated-mirrored}

-- ---- One copy and all others

apart_swap : (n : ℕ) (t : Table) (a b : ℕ) → apart n t a b ≡ apart n t b a
unfolding apart
apart_swap n t a b = unrelated-mirrored n b a (t b) (t a)

-- A copy that is apart from some other copy makes a pair.
pub apart_pair : (n : ℕ) (t : Table) (i : ℕ) → i < n → apart_from n t i n ≡ true → any_pair n (apart n t) ≡ true
unfolding apart_from
apart_pair n t i less e =
    let found = any→ n (λ j. not (eqb j i) && apart n t i j) e in
    let j = found.0 in
    let both = both→ (not (eqb j i)) (apart n t i j) found.2 in
    let other : j ≡ i → ⊥ = eqb-false j i (not-true (eqb j i) both.0) in
    by_lt i j (λ h. →pair n (apart n t) i j h found.1 both.1)
    (λ h. →pair n (apart n t) j i (omega (arith, other)) less (apart_swap n t j i ∙ both.1))

-- Where no copy is apart from another, no pair is.
pub no_apart_pair : (n : ℕ) (t : Table) → ((i : ℕ) → i < n → apart_from n t i n ≡ false) → any_pair n (apart n t) ≡ false
unfolding apart_from
no_apart_pair n t near = →no_pair n (apart n t) each
  where
    each : (i j : ℕ) → i < j → j < n → apart n t i j ≡ false
    each i j less h = go (unless→ (not (eqb j i)) (apart n t i j) (none→ n (λ k. not (eqb k i) && apart n t i k) (near i (omega arith)) j h))
      where
        go : (not (eqb j i) ≡ false) ⊎ (apart n t i j ≡ false) → apart n t i j ≡ false
        go (inl e) = absurd (let same : j ≡ i = eqb-true j i (not-false (eqb j i) e) in omega arith)
        go (inr e) = e

-- ---- The loop

-- The first i copies are marked, and none of them is apart from another copy.
pub record Marking (n : ℕ) (t : Table) (i mask : ℕ) : Type 0 where
  pub near : (k : ℕ) → k < i → apart_from n t k n ≡ false
  pub marks : mask ≡ mask_of i (is_superfluous n (order n t))

-- What one copy adds to the mask, in the machine's bits: its own bit, which no copy before it has.
marked : (i mask : ℕ) → i < 8 → mask < 2 ^ i → (c : Bool) → cond c (bit_or mask (1 * 2 ^ i % 2 ^ 8)) mask ≡ mask + cond c (2 ^ i) 0
marked i mask less low true = rw (shl_exact {a = 1} 1 i 8 (omega arith) (omega arith), or_shifted_r 1 i mask low) (omega arith)
marked i mask less low false = omega arith

module _ (n : ℕ) (t : Table) where
  pub marking_start : Marking n t 0 0
  unfolding mask_of
  marking_start = record { near = λ k h. absurd (omega arith); marks = refl }

  module _ {i mask : ℕ} (so_far : Marking n t i mask) where
    -- Copy i is marked by its bit exactly if another copy covers it.
    pub marking_next : i < 8 → (c : Bool) → Ok c ≡ cover_of (apart_from n t i n) (covered_by n t i n)
        → Marking n t (i + 1) (cond c (bit_or mask (1 * 2 ^ i % 2 ^ 8)) mask)
    unfolding mask_of is_superfluous covered_by
    marking_next less c e =
        let told = ok_told (apart_from n t i n) e in
        let low : mask < 2 ^ i = rw so_far.marks (mask_below i (is_superfluous n (order n t))) in
        record {
          near = λ k l. below_next (λ j. apart_from n t j n ≡ false) so_far.near told.0 k (omega arith);
          marks = rw (told.1, add-one i) (marked i mask less low (covered_by n t i n) ∙ ap (λ (m : ℕ). m + cond (covered_by n t i n) (2 ^ i) 0) so_far.marks);
        }

    -- One copy that is apart from another decides.
    pub marking_apart : i < n → (r : Refusal) → Err r ≡ cover_of (apart_from n t i n) (covered_by n t i n) → Err r ≡ masked n t
    unfolding masked
    marking_apart less r e =
        let told = err_told (apart_from n t i n) (covered_by n t i n) e in
        rw (told.1, apart_pair n t i less told.0) refl

  -- With every copy looked at, the mask is the answer.
  pub marking_done : {i mask : ℕ} → Marking n t i mask → i ≡ n → Ok mask ≡ masked n t
  unfolding masked
  marking_done {mask = mask} l e = let all : Marking n t n mask = rw e at l in rw (no_apart_pair n t all.near, ← all.marks) refl
