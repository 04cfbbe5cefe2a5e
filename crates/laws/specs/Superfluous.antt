-- The superfluous copies: who is one, as a proposition; bit i of the mask is copy i's, and the ones of the mask are as many as the
-- superfluous copies. Assumes nothing.
use Rattle.std.specs.Prelude.{◌≡◌, refl, ◌⊎◌, Bool, true, false, cond, not, ◌&&◌, ℕ, zero, suc, ◌+◌, ◌*◌, ◌-◌, ◌/◌, ◌%◌, ◌^◌, ◌≤◌, ◌<◌, eqb}
use Rattle.std.proofs.Common.{sym, ap, ap₂, ◌∙◌, inl, inr, zero-mul, one-mul, mul_assoc, pow-suc, arith, pow_pos, pow-add, ne_eqb}
use Rattle.std.proofs.Math.Nat.{mul-add-div_right}
use Rattle.std.proofs.Math.Pow.{high}
use Rattle.std.specs.Int.Bits.{block_odd}
use Rattle.std.specs.Int.Count.{ones, ones_in}
use Rattle.std.proofs.lemmas.Nat.{ones_cat}
use Rattle.std.proofs.lemmas.Bool.{eqb-false, not-true}
use Rattle.model.specs.Tests.{count}
use Rattle.model.specs.Steps.{is_covered, is_superfluous, mask_of}
use Rattle.model.specs.declared.Order.{Order}
use Rattle.model.specs.declared.Order.TheVariants.{Equal, Older, Newer, Conflicting}
use Rattle.facts.specs.Cases.{by_eq, by_test, clash, both→, →both, true_not}
use Rattle.facts.specs.Numbers.{any→, →any}

-- ---- Who is superfluous

-- Of this copy's order against the other: the other compares equal to it or newer than it.
abbrev pub Covered : Order → Type 0
Covered o = (o ≡ Equal) ⊎ (o ≡ Older)

covered→ : (o : Order) → is_covered o ≡ true → Covered o
covered→ Equal e = inl refl
covered→ Older e = inr refl
covered→ Newer e = absurd (clash e refl)
covered→ Conflicting e = absurd (clash e refl)

→covered : (o : Order) → Covered o → is_covered o ≡ true
→covered o (inl e) = ap is_covered e
→covered o (inr e) = ap is_covered e

-- Some other copy compares equal to copy i or newer than it.
pub superfluous→ : (n : ℕ) (order : ℕ → ℕ → Order) (i : ℕ) → is_superfluous n order i ≡ true → (j : ℕ) × (j < n) × (j ≡ i → ⊥) × Covered (order i j)
unfolding is_superfluous
superfluous→ n order i e =
    let w = any→ n (λ j. not (eqb j i) && is_covered (order i j)) e in
    let b = both→ (not (eqb w.0 i)) (is_covered (order i w.0)) w.2 in
    (w.0, w.1, eqb-false w.0 i (not-true (eqb w.0 i) b.0), covered→ (order i w.0) b.1)

pub →superfluous : (n : ℕ) (order : ℕ → ℕ → Order) (i j : ℕ) → j < n → (j ≡ i → ⊥) → Covered (order i j) → is_superfluous n order i ≡ true
unfolding is_superfluous
→superfluous n order i j h ne c =
    →any n (λ j. not (eqb j i) && is_covered (order i j)) j h (→both (true_not (ne_eqb j i ne)) (→covered (order i j) c))

-- ---- The mask

-- The digit that a test sets.
bit : Bool → ℕ
bit b = cond b 1 0

bit_le : (b : Bool) → bit b ≤ 1
unfolding bit
bit_le true = omega arith
bit_le false = omega arith

mask_next : (n : ℕ) (f : ℕ → Bool) → mask_of (suc n) f ≡ bit (f n) * 2 ^ n + mask_of n f
unfolding mask_of bit
mask_next n f = by_test (f n) (λ t. rw (t, one-mul) (omega arith)) (λ t. rw (t, zero-mul) (omega arith))

pub mask_below : (n : ℕ) (f : ℕ → Bool) → mask_of n f < 2 ^ n
unfolding mask_of
mask_below zero f = omega arith
mask_below (suc n) f =
    let h = mask_below n f in
    let p : 2 ^ suc n ≡ 2 ^ n * 2 = pow-suc 2 n in
    by_test (f n) (λ t. rw t (omega arith)) (λ t. rw t (omega arith))

-- Its ones are as many as pass.
pub mask_ones : (n : ℕ) (f : ℕ → Bool) → ones (mask_of n f) ≡ count n f
unfolding mask_of count ones ones_in bit
mask_ones zero f = refl
mask_ones (suc n) f =
    ap ones (mask_next n f)
    ∙ ones_cat n (bit (f n)) (mask_of n f) (mask_below n f)
    ∙ by_test (f n)
    (λ t. rw t (let r = mask_ones n f in omega arith))
    (λ t. rw t (let r = mask_ones n f in omega arith))

-- Bit i for copy i.
pub mask_bit : (n : ℕ) (f : ℕ → Bool) (i : ℕ) → i < n → mask_of n f / 2 ^ i % 2 ≡ cond (f i) 1 0
unfolding bit
mask_bit zero f i h = absurd (omega arith)
mask_bit (suc n) f i h = by_eq i n top (λ ne. lower (mask_bit n f i) (omega arith))
  where
    top : i ≡ n → mask_of (suc n) f / 2 ^ i % 2 ≡ cond (f i) 1 0
    top e =
        rw e
        (ap (λ (m : ℕ). m / 2 ^ n % 2) (mask_next n f)
        ∙ ap (λ (m : ℕ). m % 2) (high (bit (f n)) n (mask_below n f))
        ∙ (let b = bit_le (f n) in omega arith))

    lower : (i < n → mask_of n f / 2 ^ i % 2 ≡ cond (f i) 1 0) → i < n → mask_of (suc n) f / 2 ^ i % 2 ≡ cond (f i) 1 0
    lower ih l =
        let e : n ≡ suc (n - suc i) + i = omega arith in
        let p : 2 ^ n ≡ 2 ^ suc (n - suc i) * 2 ^ i = ap (λ (m : ℕ). 2 ^ m) e ∙ pow-add 2 (suc (n - suc i)) i in
        ap (λ (m : ℕ). m / 2 ^ i % 2)
        (mask_next n f ∙ ap (λ (q : ℕ). bit (f n) * q + mask_of n f) p ∙ ap (λ (q : ℕ). q + mask_of n f) (sym (mul_assoc (bit (f n)) (2 ^ suc (n - suc i)) (2 ^ i))))
        ∙ ap (λ (m : ℕ). m % 2) (mul-add-div_right (pow_pos i) (bit (f n) * 2 ^ suc (n - suc i)) (mask_of n f))
        ∙ block_odd (bit (f n)) (n - suc i) (mask_of n f / 2 ^ i)
        ∙ ih l

pub mask_same : (n : ℕ) (f g : ℕ → Bool) → ((i : ℕ) → i < n → f i ≡ g i) → mask_of n f ≡ mask_of n g
unfolding mask_of
mask_same zero f g e = refl
mask_same (suc n) f g e = ap₂ (λ (m : ℕ) (b : Bool). m + cond b (2 ^ n) 0) (mask_same n f g (λ i h. e i (omega arith))) (e n (omega arith))
