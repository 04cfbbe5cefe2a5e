-- What a number of the program is: a word is read as n exactly when n is 0 to 255 and the word is n in decimal. Assumes nothing.
use Rattle.std.specs.Prelude.{◌≡◌, refl, ◌↔◌, Bool, true, false, cond, ◌&&◌, List, [], ◌∷◌, ◌++◌, ℕ, zero, suc, ◌+◌, ◌*◌, ◌-◌, ◌/◌, ◌%◌, ◌≤◌, ◌<◌, eqb, ltb, leb, Option, Some, None}
use Rattle.std.proofs.Common.{sym, ap, ◌∙◌, append_assoc, append-nil, arith, lt-ltb, le-ltb, ltb-false, leb-true, eqb-true}
use Rattle.std.proofs.lemmas.Bool.{eqb-false, not-true}
use Rattle.model.specs.Tests.{all, every}
use Rattle.facts.specs.Numbers.{all→}
use Rattle.facts.specs.Cases.{both→}
use Rattle.lines.specs.Lines.{is_digit, has_good_lead, value_from, is_number, number_of}
use Rattle.print.specs.Text.{digits, decimal}

-- ---- A number is read from what it is in decimal

-- The word is read as n.
reads_as : Option ℕ → ℕ → Bool
reads_as None n = false
reads_as (Some m) n = eqb m n

is_read : (x : Option ℕ) (n : ℕ) → reads_as x n ≡ true → x ≡ Some n
unfolding reads_as
is_read None n e = absurd (let z : ◌≡◌ {A = ℕ} 0 1 = cc in omega arith)
is_read (Some m) n e = ap Some (eqb-true m n e)

each_read : all 256 (λ n. reads_as (number_of (decimal n)) n) ≡ true
unfolding all reads_as number_of is_number has_good_lead every value_from decimal
each_read = refl

-- ---- What is read is in decimal

-- Digits enough are all there are.
digits_same : (m k n : ℕ) → n < m → n < k → digits m n ≡ digits k n
unfolding digits
digits_same zero k n h i = absurd (omega arith)
digits_same (suc m) zero n h i = absurd (omega arith)
digits_same (suc m) (suc k) n h i = go (ltb n 10) refl (digits_same m k (n / 10))
  where
    go : (b : Bool) → ltb n 10 ≡ b → (n / 10 < m → n / 10 < k → digits m (n / 10) ≡ digits k (n / 10))
        → cond b [] (digits m (n / 10)) ++ ((48 + n % 10) ∷ []) ≡ cond b [] (digits k (n / 10)) ++ ((48 + n % 10) ∷ [])
    go true e ih = refl
    go false e ih =
        let ten : 10 ≤ n = ltb-false n 10 e in
        ap (λ (l : List ℕ). l ++ ((48 + n % 10) ∷ [])) (ih (omega arith) (omega arith))

-- One digit, and one digit more.
decimal_one : (d : ℕ) → d < 10 → decimal d ≡ (48 + d) ∷ []
unfolding decimal digits
decimal_one d h = let e : d % 10 ≡ d = omega arith in rw (lt-ltb d 10 h, e)

decimal_more : (v d : ℕ) → 1 ≤ v → d < 10 → decimal (v * 10 + d) ≡ decimal v ++ ((48 + d) ∷ [])
unfolding decimal digits
decimal_more v d some h =
    let ten : 10 ≤ v * 10 + d = omega arith in
    let front : (v * 10 + d) / 10 ≡ v = omega arith in
    let last : (v * 10 + d) % 10 ≡ d = omega arith in
    rw (le-ltb (v * 10 + d) 10 ten, front, last) (ap (λ (l : List ℕ). l ++ ((48 + d) ∷ [])) (digits_same (v * 10 + d) (suc v) v (omega arith) (omega arith)))

-- A digit is 48 to 57.
digit_is : (c : ℕ) → is_digit c ≡ true → (48 + (c - 48) ≡ c) × (c - 48 < 10)
digit_is c e =
    let b : (leb 48 c ≡ true) × (leb c 57 ≡ true) = both→ (leb 48 c) (leb c 57) e in
    (omega (arith, leb-true 48 c b.0), omega (arith, leb-true c 57 b.1))

-- Digits behind those of v, where v is not 0.
decimal_from : (v : ℕ) (l : List ℕ) → 1 ≤ v → every is_digit l ≡ true → decimal (value_from v l) ≡ decimal v ++ l
unfolding value_from every
decimal_from v [] some e = sym (append-nil (decimal v))
decimal_from v (c ∷ l) some e =
    let b : (is_digit c ≡ true) × (every is_digit l ≡ true) = both→ (is_digit c) (every is_digit l) e in
    let d : (48 + (c - 48) ≡ c) × (c - 48 < 10) = digit_is c b.0 in
    decimal_from (v * 10 + (c - 48)) l (omega arith) b.1
    ∙ rw (decimal_more v (c - 48) some d.1, d.0) (append_assoc (decimal v) (c ∷ []) l)

decimal_word : (w : List ℕ) → has_good_lead w ≡ true → every is_digit w ≡ true → w ≡ decimal (value_from 0 w)
unfolding has_good_lead value_from every
decimal_word [] led e = absurd (let z : ◌≡◌ {A = ℕ} 0 1 = cc in omega arith)
decimal_word (c ∷ []) led e =
    let d : (48 + (c - 48) ≡ c) × (c - 48 < 10) = digit_is c (both→ (is_digit c) true e).0 in
    let v : 0 * 10 + (c - 48) ≡ c - 48 = omega arith in
    sym (rw v (decimal_one (c - 48) d.1 ∙ ap (λ (x : ℕ). x ∷ []) d.0))
decimal_word (c ∷ x ∷ l) led e =
    let b : (is_digit c ≡ true) × (every is_digit (x ∷ l) ≡ true) = both→ (is_digit c) (every is_digit (x ∷ l)) e in
    let d : (48 + (c - 48) ≡ c) × (c - 48 < 10) = digit_is c b.0 in
    let some : 1 ≤ c - 48 = omega (arith, d.0, eqb-false c 48 (not-true (eqb c 48) led)) in
    let v : 0 * 10 + (c - 48) ≡ c - 48 = omega arith in
    sym (rw v (decimal_from (c - 48) (x ∷ l) some b.1 ∙ rw (decimal_one (c - 48) d.1, d.0)))

-- ---- Both ways

read_back : (w : List ℕ) (n : ℕ) → number_of w ≡ Some n → (n ≤ 255) × (w ≡ decimal n)
unfolding number_of is_number
read_back w n e = go (is_number w) refl e
  where
    go : (b : Bool) → is_number w ≡ b → cond b (Some (value_from 0 w)) None ≡ Some n → (n ≤ 255) × (w ≡ decimal n)
    go true t r =
        let v : value_from 0 w ≡ n = cc in
        let x = both→ (has_good_lead w) (every is_digit w && leb (value_from 0 w) 255) t in
        let y = both→ (every is_digit w) (leb (value_from 0 w) 255) x.1 in
        (rw v at (leb-true (value_from 0 w) 255 y.1), decimal_word w x.0 y.0 ∙ ap decimal v)
    go false t r = absurd (let z : ◌≡◌ {A = ℕ} 0 1 = cc in omega arith)

pub number_is : (w : List ℕ) (n : ℕ) → number_of w ≡ Some n ↔ (n ≤ 255) × (w ≡ decimal n)
number_is w n =
    (read_back w n, λ p. rw p.1 (is_read (number_of (decimal n)) n (all→ 256 (λ k. reads_as (number_of (decimal k)) k) each_read n (omega (arith, p.0)))))
