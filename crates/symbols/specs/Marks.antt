-- The symbols of a row as the bits of a word. Assumes nothing.
use Rattle.std.specs.Prelude.{List, [], ◌∷◌, ℕ, ◌/◌, ◌%◌, ◌^◌, ◌<◌}
use Rattle.std.specs.Int.Bits.{bit_or}
use Rattle.facts.specs.Members.{In}

-- The bit of symbol x in the word, 0 or 1.
abbrev pub digit : ℕ → ℕ → ℕ
digit w x = w / 2 ^ x % 2

-- The word with the bit of each symbol of the row set too.
unfoldable pub marks : ℕ → List ℕ → ℕ
marks w [] = w
marks w (x ∷ l) = marks (bit_or w (2 ^ x)) l

-- Every symbol of the row is below m.
abbrev pub Below : ℕ → List ℕ → Type 0
Below m l = (x : ℕ) → In x l → x < m
