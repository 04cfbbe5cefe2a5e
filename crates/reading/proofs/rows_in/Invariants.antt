-- `rows_in` puts one row after another into the room, over lengths of 0 and cells of FF. Assumes nothing.
use Rattle.std.specs.Prelude.{replicate}
use Rattle.parts.proofs.Front.{Front}
use Rattle.model.specs.Bytes.{unused, record_rows}
use Rattle.model.specs.Calls.{length_given, cells_given}
use Rattle.reading.specs.Room.{in_room}
use Rattle.reading.proofs.rows_in.Given as goal

abbrev pub invariant-loop-i : goal.invariant-loop-i
invariant-loop-i l =
    Front 0 1 l.i (in_room (length_given l.n (record_rows l.n l.r))) (replicate 64 0) l.lengths
    × Front 0 8 l.i (in_room (cells_given l.n (record_rows l.n l.r))) (replicate 512 unused) l.cells
