-- `table::compare` meets its contract: behind the check the two numbers and the comparison of the two records decide. Assumes nothing.
use Rattle.std.proofs.Common.{arith, sym, ap, ◌∙◌}
use Rattle.model.specs.Answers.{said_compared}
use Rattle.model.specs.Bytes.{copies_in, table_rows}
use Rattle.model.specs.Calls.{unrelated_copies, copy_order, compare_reasons, compare_says}
use Rattle.pair.specs.Pair.{compared_said}
use Rattle.table.specs.Checked.{check-passed, table_shown}
use Rattle.table.specs.Chain.{decided_behind, numbers_low}
use Rattle.table.proofs.compare.Goals as goal

pub compare_copies-requires : goal.compare_copies-requires
unfolding copies_in
compare_copies-requires c = (rw c.from-n.ensures (table_shown (check-passed (sym c.in_ok-check.ensures.answers))), omega arith, omega arith)

pub returns : goal.returns
unfolding compare_reasons compare_says copies_in unrelated_copies copy_order
returns c =
    let a = c.args in
    decided_behind _ _ _ c.in_ok-check.ensures
    (ap said_compared (rw c.from-n.ensures at c.compare_copies.ensures)
    ∙ compared_said _ a.a a.b (table_rows _ a.t.now a.a) (table_rows _ a.t.now a.b)
    ∙ sym (numbers_low _ _ _ _ _ _ (rw c.from-n.ensures at c.if-n-a.false) (rw c.from-n.ensures at c.if-n-b.false)))
