-- `new_heads`: the heads of the first k rows are the new ones. Assumes nothing.
use Rattle.std.proofs.Common.{◌≡◌}
use Rattle.row.specs.Tab.{tab}
use Rattle.model.specs.Bytes.{row_in_slice}
use Rattle.meeting_slice.specs.NewRows.{head_from}
use Rattle.meeting_slice.proofs.Sides.new_heads.Given as goal

abbrev pub invariant-loop-k : goal.invariant-loop-k
invariant-loop-k l =
    l.heads.items ≡ tab l.k (head_from l.self.a l.self.b l.w (row_in_slice l.self.n l.self.own.now) (row_in_slice l.self.n l.self.other.now))
