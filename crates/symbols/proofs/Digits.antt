-- The digits of a word: of two words' `or`, of a single bit, and of the word that marks a row's symbols; and how code reads and makes
-- them. Assumes nothing.
use mathlib.Core.Path.{◌≡◌, refl, ◌∙◌}
use mathlib.Core.Bool.{Bool, true, false, cond, ◌||◌}
use mathlib.Core.Logic.{inl, inr}
use mathlib.Core.List.{List, [], ◌∷◌, ◌++◌}
use Prim.Native.Nat.{ℕ, zero, suc, ◌*◌, ◌/◌, ◌%◌, ◌^◌, ◌≤◌, ◌<◌, max}
use native.Mathlib.Nat.{pow-suc, mul-le-mul, mul-div-mul_right, div-eq_of_lt, one-mul}
use native.Mathlib.Omega.{arith}
use Rattle.std.specs.List.{fold}
use lib.Dec.{lit<, eqb, eqb-zero-suc, eqb-suc-zero, eqb-suc-suc}
use lib.Bits.{bit_and, bit_or, or_shr, or_step, or_lt, and_mask}
use lib.Pow.{pow-lt, shl_exact}
use Rattle.model.specs.Tests.{is_in}
use Rattle.symbols.specs.Marks.{digit, marks, Below}

-- ---- Code

-- There are at most 64 symbols, one for each bit.
pub symbols_most : {n : ℕ} → n ≤ 8 → n * n ≤ 64
symbols_most h = mul-le-mul h h

-- `(w >> x) & 1` is the digit.
pub read_digit : (w x : ℕ) → bit_and (w / 2 ^ x) 1 ≡ digit w x
read_digit w x = and_mask (w / 2 ^ x) 1

-- `1 << x` is the bit.
pub make_bit : (x : ℕ) → x < 64 → 1 * 2 ^ x % 2 ^ 64 ≡ 2 ^ x
make_bit x h = shl_exact 1 x 64 (lit< tt) (omega arith) ∙ one-mul (2 ^ x)

pub mark_fits : (w x : ℕ) → w < 2 ^ 64 → x < 64 → bit_or w (2 ^ x) < 2 ^ 64
mark_fits w x h l = or_lt 64 w (2 ^ x) h (pow-lt l)

-- ---- Digits

digit_or : (a b x : ℕ) → digit (bit_or a b) x ≡ max (digit a x) (digit b x)
digit_or a b x =
    let p = a / 2 ^ x in
    let q = b / 2 ^ x in
    rw (or_shr a b x, or_step p q) (omega arith)

digit-pow : (s x : ℕ) → digit (2 ^ s) x ≡ cond (eqb s x) 1 0
digit-pow zero zero = refl
digit-pow zero (suc x) =
    let low : 1 < 2 ^ suc x = pow-lt {i = 0} (omega arith) in
    rw (eqb-zero-suc x, div-eq_of_lt low)
digit-pow (suc s) zero = rw (eqb-suc-zero s, pow-suc 2 s) (omega arith)
digit-pow (suc s) (suc x) =
    rw (eqb-suc-suc s x, pow-suc 2 s, pow-suc 2 x, mul-div-mul_right (2 ^ s) (2 ^ x) (lit< tt)) (digit-pow s x)

-- One symbol more.
pub digit_mark : (w s x : ℕ) → digit (bit_or w (2 ^ s)) x ≡ cond (eqb s x) 1 (digit w x)
digit_mark w s x = digit_or w (2 ^ s) x ∙ rw (digit-pow s x) (go (eqb s x))
  where
    go : (b : Bool) → max (digit w x) (cond b 1 0) ≡ cond b 1 (digit w x)
    go true = omega arith
    go false = omega arith

-- A symbol stands in the row exactly where its bit is set, beside those that were.
pub digit-marks : (w : ℕ) (l : List ℕ) (x : ℕ) → digit (marks w l) x ≡ cond (is_in x l) 1 (digit w x)
unfolding marks is_in
digit-marks w [] x = refl
digit-marks w (s ∷ l) x = digit-marks (bit_or w (2 ^ s)) l x ∙ rw (digit_mark w s x) (go (eqb s x) (is_in x l))
  where
    go : (a b : Bool) → cond b 1 (cond a 1 (digit w x)) ≡ cond (a || b) 1 (digit w x)
    go true true = refl
    go true false = refl
    go false b = refl

pub marks-append : (w : ℕ) (l m : List ℕ) → marks w (l ++ m) ≡ marks (marks w l) m
unfolding marks
marks-append w [] m = refl
marks-append w (x ∷ l) m = marks-append (bit_or w (2 ^ x)) l m

-- The library's fold over the row sets the same bits.
pub fold-marks : (w : ℕ) (l : List ℕ) → Below 64 l → fold (λ (a x : ℕ). bit_or a (1 * 2 ^ x % 2 ^ 64)) w l ≡ marks w l
unfolding marks
fold-marks w [] low = refl
fold-marks w (x ∷ l) low = rw (make_bit x (low x (inl refl))) (fold-marks (bit_or w (2 ^ x)) l (λ y i. low y (inr i)))
