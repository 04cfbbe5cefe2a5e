-- `superfluous::superfluous_mask` meets its contract. The invariant: the first i copies are marked. Assumes nothing.
use Rattle.std.proofs.Common.{true, false, rules, arith}
use Rattle.superfluous.specs.Marking.{marking_start, marking_next, marking_apart, marking_done}
use Rattle.superfluous.proofs.superfluous_mask.Goals as goal
use Rattle.superfluous.proofs.superfluous_mask.Goals.{then-branch, else-branch}

pub loop-i-init : goal.loop-i-init
loop-i-init c = marking_start _ _

pub returns-in_err-against_others : goal.returns-in_err-against_others
returns-in_err-against_others c =
    search (rules, marking_apart _ _ c.loop-i.invariant c.loop-i-test.true c.in_err-against_others.field-0.0 c.in_err-against_others.ensures)

pub loop-i-preserved : goal.loop-i-preserved
loop-i-preserved c =
    let next = marking_next _ _ c.loop-i.invariant (omega (arith, c.requires.few)) in
    elim c.if-branch.branch [
      | then-branch w ↦ rw w.mask-is (next true (rw w.if-branch.true at c.in_ok-against_others.ensures))
      | else-branch w ↦ rw w.mask-is (next false (rw w.if-branch.false at c.in_ok-against_others.ensures))
    ]

pub returns : goal.returns
returns c = marking_done _ _ c.loop-i.invariant (omega arith)
