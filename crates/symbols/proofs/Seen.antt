-- 'All different' by the set of the symbols seen: no symbol of the row has its bit set when it is reached. Assumes nothing.
use mathlib.Core.Path.{◌≡◌, refl, sym, ◌∙◌}
use mathlib.Core.Bool.{Bool, true, false, cond, not, ◌&&◌, ◌||◌, and-false, and-true}
use mathlib.Core.List.{List, [], ◌∷◌}
use Prim.Native.Nat.{ℕ, ◌+◌, ◌*◌, ◌^◌, ◌<◌, ◌≤◌}
use native.Mathlib.Nat.{zero-div}
use native.Mathlib.Omega.{arith}
use lib.ListN.{length, get_or, drop, drop_of_length-le}
use lib.Dec.{eqb, ltb}
use lib.Bits.{bit_or}
use borrow.Author.Tests.{eq-eqb, ne_eqb, lt-ltb, le-ltb}
use Rattle.model.specs.Tests.{is_in, every, different}
use Rattle.model.specs.Bytes.{symbols_are_formed}
use Rattle.facts.specs.Cases.{by_eq}
use Rattle.facts.specs.Members.{→every}
use Rattle.facts.specs.Turns.{rest}
use Rattle.symbols.specs.Marks.{digit}
use Rattle.symbols.proofs.Digits.{digit_mark}

-- The bit of x is not set in the word.
abbrev unmarked : ℕ → ℕ → Bool
unmarked w x = eqb (digit w x) 0

-- No symbol of the row is marked, in the word or by an earlier one.
unfoldable pub unseen : ℕ → List ℕ → Bool
unseen w [] = true
unseen w (x ∷ l) = unmarked w x && unseen (bit_or w (2 ^ x)) l

unmarked_next : (w x y : ℕ) → unmarked (bit_or w (2 ^ x)) y ≡ (unmarked w y && not (eqb x y))
unmarked_next w x y = rw (digit_mark w x y) (go (eqb x y))
  where
    go : (b : Bool) → eqb (cond b 1 (digit w y)) 0 ≡ (unmarked w y && not b)
    go true = sym (and-false (unmarked w y))
    go false = sym (and-true (unmarked w y))

eqb_sym : (x y : ℕ) → eqb x y ≡ eqb y x
eqb_sym x y = by_eq x y (λ e. eq-eqb x y e ∙ sym (eq-eqb y x (sym e))) (λ e. ne_eqb x y e ∙ sym (ne_eqb y x (λ q. e (sym q))))

unmarked-all : (w x : ℕ) (l : List ℕ) → every (unmarked (bit_or w (2 ^ x))) l ≡ (not (is_in x l) && every (unmarked w) l)
unfolding every is_in
unmarked-all w x [] = refl
unmarked-all w x (y ∷ l) = rw (unmarked_next w x y, eqb_sym x y, unmarked-all w x l) (go (unmarked w y) (eqb y x) (is_in x l) (every (unmarked w) l))
  where
    go : (a e i r : Bool) → ((a && not e) && (not i && r)) ≡ (not (e || i) && (a && r))
    go true true i r = refl
    go true false i r = refl
    go false true i r = refl
    go false false true r = refl
    go false false false r = refl

unseen_is : (w : ℕ) (l : List ℕ) → unseen w l ≡ (every (unmarked w) l && different l)
unfolding unseen every different
unseen_is w [] = refl
unseen_is w (x ∷ l) = rw (unseen_is (bit_or w (2 ^ x)) l, unmarked-all w x l) (go (unmarked w x) (not (is_in x l)) (every (unmarked w) l) (different l))
  where
    go : (a i r d : Bool) → (a && ((i && r) && d)) ≡ ((a && r) && (i && d))
    go true true r d = refl
    go true false true d = refl
    go true false false d = refl
    go false i r d = refl

-- ---- One pass over the row

-- What is left of the test at a row's rest: its symbols are in range, and unseen.
abbrev pub formed_from : ℕ → ℕ → List ℕ → Bool
formed_from n w l = every (λ x. ltb x (n * n)) l && unseen w l

pub formed_start : (n : ℕ) (l : List ℕ) → symbols_are_formed n l ≡ formed_from n 0 l
unfolding symbols_are_formed
formed_start n l =
    let none : every (unmarked 0) l ≡ true = →every (unmarked 0) l (λ x i. rw (zero-div (2 ^ x))) in
    rw (unseen_is 0 l, none)

module _ (n w : ℕ) (l : List ℕ) (i : ℕ) where
  pub formed_end : length l ≤ i → formed_from n w (drop i l) ≡ true
  unfolding every unseen
  formed_end h = rw (drop_of_length-le l h)

  module _ (h : i < length l) where
    pub formed_great : n * n ≤ get_or l i 0 → formed_from n w (drop i l) ≡ false
    unfolding every unseen
    formed_great g = rw (rest l i h, le-ltb (get_or l i 0) (n * n) g)

    pub formed_twice : digit w (get_or l i 0) ≡ 1 → formed_from n w (drop i l) ≡ false
    unfolding every unseen
    formed_twice e = rw (rest l i h, e) (and-false (every (λ x. ltb x (n * n)) (get_or l i 0 ∷ drop (i + 1) l)))

    pub formed_next : get_or l i 0 < n * n → (digit w (get_or l i 0) ≡ 1 → ⊥) → formed_from n w (drop i l) ≡ formed_from n (bit_or w (2 ^ get_or l i 0)) (drop (i + 1) l)
    unfolding every unseen
    formed_next g ne =
        let zero_digit : digit w (get_or l i 0) ≡ 0 = omega arith in
        rw (rest l i h, lt-ltb (get_or l i 0) (n * n) g, zero_digit)
