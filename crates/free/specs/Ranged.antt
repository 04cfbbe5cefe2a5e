-- What the search for a free symbol asks of a slice. Assumes nothing.
use Rattle.std.specs.Prelude.{List, ℕ, ◌*◌, ◌<◌}
use Rattle.model.specs.Bytes.{row_in_slice}
use Rattle.symbols.specs.Marks.{Below}
use Rattle.slice.specs.Shown.{SliceShown}

-- Its rows can be read, and their symbols are in range.
pub record Ranged (n : ℕ) (s : List ℕ) : Type 0 where
  pub shown : SliceShown n s
  pub below : (k : ℕ) → k < n → Below (n * n) (row_in_slice n s k)
