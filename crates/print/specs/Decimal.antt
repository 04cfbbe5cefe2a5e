-- The digits that the kit's library writes are the number in decimal, and how many there are. Assumes nothing.
use Rattle.std.specs.Prelude.{◌≡◌, refl, Bool, true, false, cond, List, [], ◌∷◌, ◌++◌, ℕ, zero, suc, ◌+◌, ◌*◌, ◌-◌, ◌/◌, ◌%◌, ◌^◌, ◌≤◌, ◌<◌, length, ltb}
use Rattle.std.proofs.Common.{ap, ap₂, pow-suc, arith, lt-ltb, le-ltb, ltb-false, length-append}
use Rattle.io.specs.Digits as kit
use Rattle.io.specs.Digits.{IsDigitCount}
use Rattle.model.specs.Answers.{number_of_refusal}
use Rattle.model.specs.declared.Refusal.{Refusal}
use Rattle.model.specs.declared.Refusal.TheVariants.{Unmarked, WrongN, WrongLength, NotWellFormed, NoSuchCopy, SameCopy, UnrelatedSlice, DifferentN, Unreadable}
use Rattle.print.specs.Text.{digits, decimal}

-- A digit in ASCII.
glyph_is : (n : ℕ) → kit.hex_digit_ascii (n % 10) ≡ 48 + n % 10
glyph_is n = let h : n % 10 < 10 = omega arith in rw (lt-ltb (n % 10) 10 h)

below_pow : (k : ℕ) → k < 10 ^ k
below_pow zero = omega arith
below_pow (suc k) = omega (arith, below_pow k, pow-suc 10 k)

pow_pos : (k : ℕ) → 0 < 10 ^ k
pow_pos k = omega (arith, below_pow k)

same_digits : (k m n : ℕ) → k ≤ m → IsDigitCount 10 1 n k → kit.last_digits 10 k n ≡ digits m n
unfolding digits
same_digits zero m n h f = absurd (omega arith)
same_digits (suc k) zero n h f = absurd (omega arith)
same_digits (suc zero) (suc m) n h f =
    let one : n < 10 = f.1 in
    rw (lt-ltb n 10 one) (ap (λ (d : ℕ). d ∷ []) (glyph_is n))
same_digits (suc (suc k)) (suc m) n h f =
    let one_less : suc (suc k) - 1 ≡ suc k = omega arith in
    let two_less : suc k - 1 ≡ k = omega arith in
    let ten : 10 ^ suc k ≤ n = rw one_less at (f.2 (omega arith)) in
    let bigger : 10 ^ suc k ≡ 10 ^ k * 10 = pow-suc 10 k in
    let biggest : 10 ^ suc (suc k) ≡ 10 ^ suc k * 10 = pow-suc 10 (suc k) in
    let more : 10 ≤ n = omega (arith, pow_pos k) in
    let ih : kit.last_digits 10 (suc k) (n / 10) ≡ digits m (n / 10) =
    same_digits (suc k) m (n / 10) (omega arith) (omega arith, omega arith, λ q. rw two_less (omega arith)) in
    rw (le-ltb n 10 more) (ap₂ (λ (l : List ℕ) (d : ℕ). l ++ (d ∷ [])) ih (glyph_is n))

pub decimal_is : (n k : ℕ) → IsDigitCount 10 1 n k → kit.last_digits 10 k n ≡ decimal n
unfolding decimal
decimal_is n k f = same_digits k (suc n) n (go k f) f
  where
    go : (k : ℕ) → IsDigitCount 10 1 n k → k ≤ suc n
    go zero f = omega arith
    go (suc zero) f = omega arith
    go (suc (suc k)) f =
        let one_less : suc (suc k) - 1 ≡ suc k = omega arith in
        let ten : 10 ^ suc k ≤ n = rw one_less at (f.2 (omega arith)) in
        omega (arith, below_pow (suc k))

by_zero : (k : ℕ) {n : ℕ} → n < 10 ^ suc k → 10 ≤ n → 1 ≤ k
by_zero zero few ten = absurd (omega arith)
by_zero (suc k) few ten = omega arith

-- A number below 10 ^ k has at most k digits.
digits_few : (k m n : ℕ) → 1 ≤ k → n < 10 ^ k → length (digits m n) ≤ k
unfolding digits
digits_few k zero n h few = omega arith
digits_few zero (suc m) n h few = absurd (omega arith)
digits_few (suc k) (suc m) n h few = go (ltb n 10) refl (digits_few k m (n / 10))
  where
    go : (b : Bool) → ltb n 10 ≡ b → (1 ≤ k → n / 10 < 10 ^ k → length (digits m (n / 10)) ≤ k)
        → length (cond b [] (digits m (n / 10)) ++ ((48 + n % 10) ∷ [])) ≤ suc k
    go true e ih = omega arith
    go false e ih =
        let ten : 10 ≤ n = ltb-false n 10 e in
        let bigger : 10 ^ suc k ≡ 10 ^ k * 10 = pow-suc 10 k in
        let some : 1 ≤ k = by_zero k few ten in
        rw length-append (omega (arith, ih some (omega arith)))

pub decimal_few : (k n : ℕ) → 1 ≤ k → n < 10 ^ k → length (decimal n) ≤ k
unfolding decimal
decimal_few k n h few = digits_few k (suc n) n h few

pub refusal_few : (x : Refusal) → number_of_refusal x < 10
refusal_few Unmarked = omega arith
refusal_few WrongN = omega arith
refusal_few WrongLength = omega arith
refusal_few NotWellFormed = omega arith
refusal_few NoSuchCopy = omega arith
refusal_few SameCopy = omega arith
refusal_few UnrelatedSlice = omega arith
refusal_few DifferentN = omega arith
refusal_few Unreadable = omega arith
