-- `fresh::repeat` meets its contract: after k turns k parts stand behind the header. Assumes nothing.
use Rattle.std.proofs.Common.{◌≡◌, refl, arith, length}
use Rattle.parts.specs.Parts.{room, length_repeated}
use Rattle.parts.proofs.Front.{front_start, front_next, front_written}
use Rattle.fresh.proofs.repeat.Goals as goal

pub loop-k-init : goal.loop-k-init
loop-k-init c = front_start _ _ _ _

pub loop-k-preserved : goal.loop-k-preserved
loop-k-preserved c =
    front_next c.loop-k.invariant _ c.args.src.now c.copy.new.dst c.copy.ensures refl refl (omega (arith, c.requires.1, room (length c.args.src.now) c.loop-k-test.true)) refl

pub returns : goal.returns
returns c =
    let all : c.loop-k.k ≡ c.args.n = omega arith in
    front_written (rw all at c.loop-k.invariant) (length_repeated c.args.n c.args.src.now)
