-- `put_record` writes the header, then one slice behind another. Assumes nothing.
use Rattle.parts.specs.Parts.{join}
use Rattle.parts.proofs.Front.{Front}
use Rattle.model.specs.Bytes.{slice_size}
use Rattle.model.specs.Calls.{row_passed}
use Rattle.writing.proofs.put_record.Given as goal

abbrev pub invariant-loop-p : goal.invariant-loop-p
invariant-loop-p l = Front 4 (slice_size l.n) l.p (λ q. join l.n (row_passed l.rows q)) l.initial.r l.r
