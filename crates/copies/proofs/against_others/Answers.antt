-- `copies::against_others` meets its contract. The invariant: the first j copies are looked at. Assumes nothing.
use Rattle.std.proofs.Common.{rules}
use Rattle.copies.specs.Looked.{looked_start, looked_itself, looked_next, looked_apart}
use Rattle.copies.proofs.against_others.Goals as goal
use Rattle.copies.proofs.against_others.Goals.{then-j-i+in_ok-compare_copies, else-j-i}

pub loop-j-init : goal.loop-j-init
loop-j-init c = looked_start _ _ _

pub returns-in_err-compare_copies : goal.returns-in_err-compare_copies
returns-in_err-compare_copies c =
    search (rules, looked_apart _ _ _ c.loop-j.invariant c.if-j-i.true c.loop-j-test.true c.in_err-compare_copies.field-0.0 c.in_err-compare_copies.ensures)

pub loop-j-preserved : goal.loop-j-preserved
loop-j-preserved c =
    elim c.if-j-i.branch [
      | then-j-i+in_ok-compare_copies w ↦ rw (w.covered-is, w.covers.ensures) (looked_next _ _ _ c.loop-j.invariant w.if-j-i.true _ w.in_ok-compare_copies.ensures)
      | else-j-i w ↦ rw w.covered-is (looked_itself _ _ _ c.loop-j.invariant w.if-j-i.false)
    ]
