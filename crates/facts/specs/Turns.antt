-- One turn of a loop over a row, in the code's `i + 1`: the front of the row grown by a place, and what is left from a place on.
-- Assumes nothing.
use Rattle.std.specs.Prelude.{◌≡◌, refl, Bool, cond, not, ◌&&◌, ◌||◌, List, [], ◌∷◌, ◌++◌, ℕ, ◌+◌, ◌<◌, length, get_or, take, drop, eqb}
use Rattle.std.proofs.Common.{ap, ◌∙◌, add-one, take-suc, drop-cons}
use Rattle.std.proofs.Math.Bool.{or-false, and-true}
use Rattle.model.specs.Tests.{is_in, every, different, keep, earlier}
use Rattle.facts.specs.Members.{is_in_cons, is_in-append, every_cons, every-append, different_cons}
use Rattle.facts.specs.Keeping.{keep_cons, keep-append, earlier_cons}

-- One symbol alone.
pub is_in_one : (x y : ℕ) → is_in x (y ∷ []) ≡ eqb y x
unfolding is_in
is_in_one x y = or-false (eqb y x)

pub every_one : (f : ℕ → Bool) (x : ℕ) → every f (x ∷ []) ≡ f x
unfolding every
every_one f x = and-true (f x)

pub keep_one : (f : ℕ → Bool) (x : ℕ) → keep f (x ∷ []) ≡ cond (f x) (x ∷ []) []
unfolding keep
keep_one f x = refl

module _ (l : List ℕ) (i : ℕ) (h : i < length l) where
  front : take (i + 1) l ≡ take i l ++ (get_or l i 0 ∷ [])
  front = rw add-one (take-suc l i 0 h)

  pub rest : drop i l ≡ get_or l i 0 ∷ drop (i + 1) l
  rest = rw add-one (drop-cons l i 0 h)

  -- ---- The front, one place longer

  pub is_in_next : (x : ℕ) → is_in x (take (i + 1) l) ≡ (is_in x (take i l) || eqb (get_or l i 0) x)
  is_in_next x =
      ap (is_in x) front
      ∙ is_in-append x (take i l) (get_or l i 0 ∷ [])
      ∙ ap (λ (b : Bool). is_in x (take i l) || b) (is_in_one x (get_or l i 0))

  pub every_next : (f : ℕ → Bool) → every f (take (i + 1) l) ≡ (every f (take i l) && f (get_or l i 0))
  every_next f =
      ap (every f) front
      ∙ every-append f (take i l) (get_or l i 0 ∷ [])
      ∙ ap (λ (b : Bool). every f (take i l) && b) (every_one f (get_or l i 0))

  pub keep_next : (f : ℕ → Bool) → keep f (take (i + 1) l) ≡ keep f (take i l) ++ cond (f (get_or l i 0)) (get_or l i 0 ∷ []) []
  keep_next f =
      ap (keep f) front
      ∙ keep-append f (take i l) (get_or l i 0 ∷ [])
      ∙ ap (λ (r : List ℕ). keep f (take i l) ++ r) (keep_one f (get_or l i 0))

  -- ---- What is left from place i on

  pub is_in_rest : (x : ℕ) → is_in x (drop i l) ≡ (eqb (get_or l i 0) x || is_in x (drop (i + 1) l))
  is_in_rest x = ap (is_in x) rest ∙ is_in_cons x (get_or l i 0) (drop (i + 1) l)

  pub every_rest : (f : ℕ → Bool) → every f (drop i l) ≡ (f (get_or l i 0) && every f (drop (i + 1) l))
  every_rest f = ap (every f) rest ∙ every_cons f (get_or l i 0) (drop (i + 1) l)

  pub different_rest : different (drop i l) ≡ (not (is_in (get_or l i 0) (drop (i + 1) l)) && different (drop (i + 1) l))
  different_rest = ap different rest ∙ different_cons (get_or l i 0) (drop (i + 1) l)

  pub keep_rest : (f : ℕ → Bool) → keep f (drop i l) ≡ cond (f (get_or l i 0)) (get_or l i 0 ∷ keep f (drop (i + 1) l)) (keep f (drop (i + 1) l))
  keep_rest f = ap (keep f) rest ∙ keep_cons f (get_or l i 0) (drop (i + 1) l)

  pub earlier_rest : (x y : ℕ) → earlier (drop i l) x y ≡ cond (eqb (get_or l i 0) x) x (cond (eqb (get_or l i 0) y) y (earlier (drop (i + 1) l) x y))
  earlier_rest x y = ap (λ (r : List ℕ). earlier r x y) rest ∙ earlier_cons (get_or l i 0) x y (drop (i + 1) l)
