-- `fresh::repeat` meets its contract: after k turns k parts stand behind the header. Assumes nothing.
use Rattle.std.specs.Prelude.{length}
use Rattle.parts.proofs.Front.{Front}
use Rattle.fresh.proofs.repeat.Given as goal

abbrev pub invariant-loop-k : goal.invariant-loop-k
invariant-loop-k l = Front l.at (length l.src) l.k (λ j. l.src) l.initial.dst l.dst
