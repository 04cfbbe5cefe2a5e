-- The test of a row in bytes, with its cells tested as the library does. Assumes nothing.
use Rattle.std.specs.Prelude.{◌≡◌, refl, Bool, ◌&&◌, List, [], ◌∷◌, ℕ, ◌+◌, get_or, drop, eqb, leb}
use Rattle.std.specs.List.{list_all}
use Rattle.model.specs.Tests.{every}
use Rattle.model.specs.Bytes.{unused, symbols_in, length_is_formed, symbols_are_formed, row_is_formed}

all-every : (f : ℕ → Bool) (l : List ℕ) → list_all f l ≡ every f l
unfolding every
all-every f [] = refl
all-every f (x ∷ l) = rw (all-every f l)

pub row_is_formed-tests : (n : ℕ) (row : List ℕ)
    → row_is_formed n row ≡ ((leb 1 (get_or row 0 0) && leb (get_or row 0 0) n)
    && (symbols_are_formed n (symbols_in row) && list_all (λ x. eqb x unused) (drop (1 + get_or row 0 0) row)))
unfolding row_is_formed length_is_formed
row_is_formed-tests n row = rw (all-every (λ x. eqb x unused) (drop (1 + get_or row 0 0) row))
