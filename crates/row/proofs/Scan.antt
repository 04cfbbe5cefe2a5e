-- The library's scans of a row in document 01's words: `contains` is `is_in`, and `find` gives `earlier`. Assumes nothing.
use Rattle.std.specs.Prelude.{◌≡◌, refl, ◌||◌, List, [], ◌∷◌, ℕ, eqb}
use Rattle.std.proofs.Common.{arith}
use Rattle.std.specs.List.{list_any, find}
use Rattle.std.specs.Option.{unwrap_or}
use Rattle.std.proofs.lemmas.Bool.Decides.{nat_tests}
use Rattle.model.specs.Tests.{is_in, earlier}

pub any-is_in : (x : ℕ) (l : List ℕ) → list_any (λ y. eqb y x) l ≡ is_in x l
unfolding is_in
any-is_in x [] = refl
any-is_in x (y ∷ l) = rw (any-is_in x l)

pub find-earlier : (l : List ℕ) (x y : ℕ) → unwrap_or (find (λ z. eqb z x || eqb z y) l) y ≡ earlier l x y
unfolding earlier
find-earlier [] x y = refl
find-earlier (z ∷ l) x y = grind (arith, nat_tests, find-earlier l x y)
