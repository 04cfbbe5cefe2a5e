-- The first row of the refusal table that holds, in a list behind rows of which none holds. Assumes nothing.
use Rattle.std.proofs.Common.{inl, inr}
use Rattle.std.specs.Prelude.{List, [], ◌∷◌, ◌++◌, ℕ}
use Rattle.laws.specs.Reasons.{Ground, ground, First, NoGround}

pub first_behind : (g h : List Ground) (k : ℕ) → NoGround g → First h k → First (g ++ h) k
first_behind [] h k x f = f
first_behind (ground P m ∷ g) h k x f = inr (x.0, first_behind g h k x.1 f)

pub behind_first : (g h : List Ground) (k : ℕ) → NoGround g → First (g ++ h) k → First h k
behind_first [] h k x f = f
behind_first (ground P m ∷ g) h k x (inl f) = absurd (x.0 f.0)
behind_first (ground P m ∷ g) h k x (inr f) = behind_first g h k x.1 f.1
