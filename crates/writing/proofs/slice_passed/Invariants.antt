-- `slice_passed` puts one row behind another. Assumes nothing.
use Rattle.std.specs.Prelude.{replicate}
use Rattle.parts.proofs.Front.{Front}
use Rattle.model.specs.Bytes.{row_size}
use Rattle.model.specs.Calls.{row_passed}
use Rattle.writing.proofs.slice_passed.Given as goal

abbrev pub invariant-loop-k : goal.invariant-loop-k
invariant-loop-k l = Front 0 (row_size l.n) l.k (row_passed l.rows l.p) (replicate 72 0) l.slice
