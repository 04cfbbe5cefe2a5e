-- The values of a function as a row, so that heads can stand in an array: its length, its places, what stands in it, and a row cut down
-- to it. Assumes nothing.
use Rattle.std.specs.Prelude.{◌≡◌, refl, List, [], ◌∷◌, ◌++◌, ℕ, zero, suc, ◌+◌, ◌<◌, length, get_or, eqb}
use Rattle.std.proofs.Common.{◌∙◌, ap₂, add-one, arith, length-append}
use Rattle.std.proofs.Math.ListN.{get_or-append}
use Rattle.std.proofs.lemmas.List.{get_or_at}
use Rattle.model.specs.Tests.{any, is_in, keep}
use Rattle.model.specs.Steps.{Slice, new_heads_of, winning_row, cut_row_of}
use Rattle.facts.specs.Cases.{by_eq}
use Rattle.facts.specs.Members.{is_in-append}
use Rattle.facts.specs.Keeping.{keep_same}
use Rattle.facts.specs.Turns.{is_in_one}

-- f 0 to f (n−1).
unfoldable pub tab : ℕ → (ℕ → ℕ) → List ℕ
tab zero f = []
tab (suc n) f = tab n f ++ (f n ∷ [])

pub tab_next : (n : ℕ) (f : ℕ → ℕ) → tab (n + 1) f ≡ tab n f ++ (f n ∷ [])
unfolding tab
tab_next n f = rw (add-one n)

pub length-tab : (n : ℕ) (f : ℕ → ℕ) → length (tab n f) ≡ n
unfolding tab
length-tab zero f = refl
length-tab (suc n) f = rw length-append (omega (arith, length-tab n f))

pub get_or-tab : (n : ℕ) (f : ℕ → ℕ) (k : ℕ) → k < n → get_or (tab n f) k 0 ≡ f k
unfolding tab
get_or-tab zero f k h = absurd (omega arith)
get_or-tab (suc n) f k h =
    by_eq k n
    (λ e. rw e (get_or_at (tab n f) (f n) [] 0 n (length-tab n f)))
    (λ e. get_or-append (tab n f) (f n ∷ []) 0 k (omega (arith, length-tab n f)) ∙ get_or-tab n f k (omega arith))

-- A function's values do not change where the function does not.
pub tab_same : (n : ℕ) (f g : ℕ → ℕ) → ((k : ℕ) → f k ≡ g k) → tab n f ≡ tab n g
unfolding tab
tab_same zero f g e = refl
tab_same (suc n) f g e = ap₂ (λ (l : List ℕ) (x : ℕ). l ++ (x ∷ [])) (tab_same n f g e) (e n)

-- x stands there exactly where f gives it somewhere below n.
pub is_in-tab : (n : ℕ) (f : ℕ → ℕ) (x : ℕ) → is_in x (tab n f) ≡ any n (λ k. eqb (f k) x)
unfolding tab is_in any
is_in-tab zero f x = refl
is_in-tab (suc n) f x = is_in-append x (tab n f) (f n ∷ []) ∙ rw (is_in-tab n f x, is_in_one x (f n))

-- W cut down to the new heads, these being the values of a function.
pub cut_tab : (n a b : ℕ) (x y : Slice) → keep (λ s. is_in s (tab n (new_heads_of a b x y))) (winning_row a b x y) ≡ cut_row_of n a b x y
unfolding cut_row_of
cut_tab n a b x y =
    keep_same (λ s. is_in s (tab n (new_heads_of a b x y))) (λ s. any n (λ k. eqb (new_heads_of a b x y k) s)) (winning_row a b x y)
    (λ s i. is_in-tab n (new_heads_of a b x y) s)
