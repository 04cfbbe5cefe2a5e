-- A state viewed as the rows of a table, and the one induction over the calls of a history: what holds of rows holds of the rows that
-- are viewed (proofs/View.antt). Only rows below N are asked to agree, so a view of bytes may read anything elsewhere. Assumes N ≥ 2.
use Rattle.std.specs.Prelude.{◌≡◌, true, ℕ}
use mathlib.Core.List.{List, [], ◌∷◌}
use Rattle.model.specs.Steps.{Table}
use Rattle.model.specs.Bytes.{formed_table}
use Rattle.model.specs.History.{Call, call_rows}
use Rattle.history.specs.Table.{SameRows}

pub record View (n : ℕ) (B : Type 0) : Type 1 where
  pub rows : B → Table
  -- One call, and a list of calls.
  pub step : B → Call → B
  pub run : B → List Call → B
  pub none : (b : B) → run b [] ≡ b
  pub next : (b : B) (c : Call) (l : List Call) → run b (c ∷ l) ≡ run (step b c) l
  -- What the view needs of a state. Where the rows are well formed too, a call keeps it, and moves the rows as it moves rows.
  pub Sound : B → Type 0
  pub keeps : (b : B) (c : Call) → Sound b → formed_table n (rows b) ≡ true → Sound (step b c)
  pub moves : (b : B) (c : Call) → Sound b → formed_table n (rows b) ≡ true → SameRows n (rows (step b c)) (call_rows n (rows b) c)
