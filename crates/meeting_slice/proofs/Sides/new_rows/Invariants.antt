-- `new_rows`: the first k new rows stand one behind another. Assumes nothing.
use Rattle.std.proofs.Common.{◌≡◌, ◌*◌, take}
use Rattle.parts.specs.Parts.{join}
use Rattle.model.specs.Bytes.{row_size}
use Rattle.meeting_slice.specs.NewRows.{chosen_row}
use Rattle.meeting_slice.proofs.Sides.new_rows.Given as goal

abbrev pub invariant-loop-k : goal.invariant-loop-k
invariant-loop-k l =
    take (l.k * row_size l.self.n) l.rows ≡ join l.k (chosen_row l.self.n l.self.a l.self.b l.self.own.now l.self.other.now l.heads l.cut)
