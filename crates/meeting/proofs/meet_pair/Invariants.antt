-- `meet_pair`: the slices below p are the new ones in both records. Assumes nothing.
use Rattle.meeting.specs.Going.{Going}
use Rattle.meeting.proofs.meet_pair.Given as goal

abbrev pub invariant-loop-p : goal.invariant-loop-p
invariant-loop-p l = Going l.n l.a l.b l.p l.initial.x l.initial.y l.x l.y
