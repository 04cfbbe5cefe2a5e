-- Tests that document 01's sentences are made of: over the numbers below n (copies, slices, rows, symbols) and over the symbols of a
-- row. All of them compute. Assumes nothing.
use Rattle.std.specs.Prelude.{Bool, true, false, cond, not, ◌&&◌, ◌||◌, List, [], ◌∷◌, ℕ, zero, suc, ◌+◌, eqb}

-- Some number below n passes.
unfoldable pub any : ℕ → (ℕ → Bool) → Bool
any zero f = false
any (suc n) f = any n f || f n

-- Every number below n passes.
unfoldable pub all : ℕ → (ℕ → Bool) → Bool
all zero f = true
all (suc n) f = all n f && f n

-- How many numbers below n pass.
unfoldable pub count : ℕ → (ℕ → Bool) → ℕ
count zero f = 0
count (suc n) f = count n f + cond (f n) 1 0

-- Some pair of different numbers below n passes, the lower number first.
unfoldable pub any_pair : ℕ → (ℕ → ℕ → Bool) → Bool
any_pair n f = any n (λ j. any j (λ i. f i j))

-- The smallest number below m that passes; m where none does.
unfoldable pub least : ℕ → (ℕ → Bool) → ℕ
least zero f = 0
least (suc m) f = let r : ℕ = least m f in cond (f r) r (suc m)

-- The first symbol of a row.
abbrev pub head : List ℕ → ℕ
head [] = 0
head (x ∷ l) = x

-- Symbol x stands in the row.
unfoldable pub is_in : ℕ → List ℕ → Bool
is_in x [] = false
is_in x (y ∷ l) = eqb y x || is_in x l

-- Every symbol of the row passes.
unfoldable pub every : (ℕ → Bool) → List ℕ → Bool
every f [] = true
every f (x ∷ l) = f x && every f l

-- The symbols of the row are all different.
unfoldable pub different : List ℕ → Bool
different [] = true
different (x ∷ l) = not (is_in x l) && different l

-- The symbols of the row that pass, in their order.
unfoldable pub keep : (ℕ → Bool) → List ℕ → List ℕ
keep f [] = []
keep f (x ∷ l) = cond (f x) (x ∷ keep f l) (keep f l)

-- Whichever of x and y stands earlier in the row.
unfoldable pub earlier : List ℕ → ℕ → ℕ → ℕ
earlier [] x y = y
earlier (z ∷ l) x y = cond (eqb z x) x (cond (eqb z y) y (earlier l x y))
