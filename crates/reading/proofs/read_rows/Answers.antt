-- `read_rows`: the check decides; a record that passed it is read row by row. Assumes nothing.
use Rattle.std.proofs.Common.{sym, arith}
use Rattle.model.specs.Bytes.{copies_in, own_in}
use Rattle.record.specs.Passed.{check-passed, record_shown}
use Rattle.reading.proofs.Read.{read_refused, read_done}
use Rattle.reading.proofs.read_rows.Goals as goal

pub returns-in_err-check_record : goal.returns-in_err-check_record
returns-in_err-check_record c = read_refused _ _ _ c.from_residual.ensures.1 c.in_err-check_record.ensures.answers

pub bounds-r-2 : goal.bounds-r-2
bounds-r-2 c = omega (arith, (check-passed (sym c.in_ok-check_record.ensures.answers)).size)

pub bounds-r-3 : goal.bounds-r-3
bounds-r-3 c = omega (arith, (check-passed (sym c.in_ok-check_record.ensures.answers)).size)

pub rows_in-requires : goal.rows_in-requires
unfolding copies_in
rows_in-requires c = rw c.from.ensures (record_shown (check-passed (sym c.in_ok-check_record.ensures.answers)))

pub returns : goal.returns
unfolding copies_in own_in
returns c = read_done _ _ (check-passed (sym c.in_ok-check_record.ensures.answers)) (rw (c.from.ensures, c.from-2.ensures) at c.rows_in.ensures)
