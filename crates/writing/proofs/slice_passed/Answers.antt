-- `slice_passed` puts one row behind another. Assumes nothing.
use Rattle.std.proofs.Common.{refl, rules}
use Rattle.parts.proofs.Front.{front_start}
use Rattle.writing.proofs.Passed.{row_next}
use Rattle.writing.proofs.slice_passed.Goals as goal

pub loop-k-init : goal.loop-k-init
loop-k-init c = front_start _ _ _ _

pub loop-k-preserved : goal.loop-k-preserved
loop-k-preserved c =
    row_next c.args.rows.now (record { lengths = search rules; cells = search rules }) c.requires.0 c.args.p c.requires.1 c.loop-k.k c.loop-k-test.true
    c.loop-k.invariant refl _ c.copy.ensures
