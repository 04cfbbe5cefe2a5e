-- `meet_pair`: a turn writes one new slice into each record. Assumes nothing.
use Rattle.std.proofs.Common.{arith}
use Rattle.meeting.specs.Going.{going_start, going_shown, going_next, going_done}
use Rattle.meeting.proofs.meet_pair.Goals as goal

pub loop-p-init : goal.loop-p-init
loop-p-init c = going_start _ _ _ _ _

pub met-requires : goal.met-requires
met-requires c = (going_shown c.requires c.loop-p.invariant, omega arith)

pub loop-p-preserved : goal.loop-p-preserved
loop-p-preserved c =
    going_next c.requires c.loop-p.invariant _ _ (omega arith) c.met.ensures (rw c.slice_len-w.ensures at c.put_slice.ensures) (rw c.slice_len-w.ensures at c.put_slice-in-loop-p.ensures)

pub returns : goal.returns
returns c = going_done c.requires c.loop-p.invariant (omega arith)
