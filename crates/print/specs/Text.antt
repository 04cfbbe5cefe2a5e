-- Text as bytes: quoted text, and numbers in decimal. Assumes nothing.
use Rattle.std.specs.Prelude.{cond, List, [], ◌∷◌, ◌++◌, ℕ, zero, suc, ◌+◌, ◌/◌, ◌%◌, ltb}
use Prim.Native.Char.{code}
use Prim.Native.String.{String}

-- A byte for each character.
unfoldable pub ascii : String → List ℕ
ascii String.[] = []
ascii (String.◌∷◌ c s) = code c ∷ ascii s

-- At most m digits of a number: those in front of the last where it has more than one, and the last.
unfoldable pub digits : ℕ → ℕ → List ℕ
digits zero n = []
digits (suc m) n = let front : List ℕ = digits m (n / 10) in cond (ltb n 10) [] front ++ ((code "0" + n % 10) ∷ [])

-- The number in decimal, without leading zeros.
unfoldable pub decimal : ℕ → List ℕ
unfolding digits
decimal n = digits (suc n) n
