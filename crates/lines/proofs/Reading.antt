-- A number read digit by digit: left at the first byte that is no digit or makes it more than 255. Assumes nothing.
use Rattle.std.proofs.Common.{◌≡◌, refl, sym, Bool, true, false, not, ◌&&◌, List, [], ◌∷◌, ℕ, ◌+◌, ◌*◌, ◌-◌, ◌≤◌, ◌<◌, length, get_or, drop, drop-cons, drop_of_length-le, add-one, arith, Option, Some, None}
use Rattle.std.proofs.Math.Bool.{cond}
use borrow.Author.Tests.{le-leb, lt-leb, leb-true, leb-false, ne_eqb}
use lib.Dec.{eqb, leb}
use Rattle.model.specs.Tests.{every}
use Rattle.lines.specs.Lines.{is_digit, has_good_lead, value_from, is_number, number_of, letter_of_word}

unfoldable pub read_from : ℕ → List ℕ → Option ℕ
read_from v [] = Some v
read_from v (c ∷ l) = cond (is_digit c) (cond (leb (v * 10 + (c - 48)) 255) (read_from (v * 10 + (c - 48)) l) None) None

-- A value only grows.
grows : (v : ℕ) (l : List ℕ) → v ≤ value_from v l
unfolding value_from
grows v [] = omega arith
grows v (c ∷ l) = omega (arith, grows (v * 10 + (c - 48)) l)

-- What is read is the value, where all are digits and it is at most 255.
reads : (v : ℕ) (l : List ℕ) → v ≤ 255 → read_from v l ≡ cond (every is_digit l && leb (value_from v l) 255) (Some (value_from v l)) None
unfolding read_from every value_from
reads v [] h = rw (le-leb v 255 h)
reads v (c ∷ l) h = go (v * 10 + (c - 48)) (is_digit c) (leb (v * 10 + (c - 48)) 255) refl (reads (v * 10 + (c - 48)) l)
  where
    over : (u : ℕ) (b : Bool) → 255 < value_from u l → None ≡ cond (b && leb (value_from u l) 255) (Some (value_from u l)) None
    over u true more = rw (lt-leb (value_from u l) 255 more)
    over u false more = refl

    go : (u : ℕ) (d s : Bool) → leb u 255 ≡ s
        → (u ≤ 255 → read_from u l ≡ cond (every is_digit l && leb (value_from u l) 255) (Some (value_from u l)) None)
        → cond d (cond s (read_from u l) None) None ≡ cond ((d && every is_digit l) && leb (value_from u l) 255) (Some (value_from u l)) None
    go u true true e ih = ih (leb-true u 255 e)
    go u true false e ih = over u (every is_digit l) (omega (arith, leb-false u 255 e, grows u l))
    go u false s e ih = refl

-- Without a good lead it is no number; with one it is read.
pub number_read : (w : List ℕ) → number_of w ≡ cond (has_good_lead w) (read_from 0 w) None
unfolding number_of is_number
number_read w = go (has_good_lead w)
  where
    go : (b : Bool) → cond (b && (every is_digit w && leb (value_from 0 w) 255)) (Some (value_from 0 w)) None ≡ cond b (read_from 0 w) None
    go true = sym (reads 0 w (omega arith))
    go false = refl

-- One byte more.
pub read_more : (w : List ℕ) (v i : ℕ) → i < length w
    → read_from v (drop i w) ≡ cond (is_digit (get_or w i 0)) (cond (leb (v * 10 + (get_or w i 0 - 48)) 255) (read_from (v * 10 + (get_or w i 0 - 48)) (drop (i + 1) w)) None) None
unfolding read_from
read_more w v i more = rw (drop-cons w i 0 more, add-one i)

pub read_end : (w : List ℕ) (v i : ℕ) → length w ≤ i → read_from v (drop i w) ≡ Some v
unfolding read_from
read_end w v i over = rw (drop_of_length-le w over)

-- A good lead, by the length and the first byte.
pub lead_is : (w : List ℕ) → has_good_lead w ≡ cond (eqb (length w) 0) false (cond (eqb (length w) 1) true (not (eqb (get_or w 0 0) 48)))
unfolding has_good_lead
lead_is [] = refl
lead_is (c ∷ []) = refl
lead_is (c ∷ d ∷ l) =
    let n : ℕ = length (c ∷ d ∷ l) in
    rw (ne_eqb n 0 (λ e. omega (arith, e)), ne_eqb n 1 (λ e. omega (arith, e)))

-- A letter, by the length.
pub letter_is : (w : List ℕ) → letter_of_word w ≡ cond (eqb (length w) 1) (Some (get_or w 0 0)) None
unfolding letter_of_word
letter_is [] = refl
letter_is (c ∷ []) = refl
letter_is (c ∷ d ∷ l) = let n : ℕ = length (c ∷ d ∷ l) in rw (ne_eqb n 1 (λ e. omega (arith, e)))
