-- `table::lend` meets its contract: the record where it stands, or the empty part at the table's start. Assumes nothing.
use Rattle.std.proofs.Common.{arith, refl, sym, ◌∙◌}
use Rattle.model.specs.Bytes.{copies_in}
use Rattle.table.specs.Lending.{said_ok, said_err, lend_passed, lent, not_lent}
use Rattle.table.proofs.lend.Goals as goal

pub returns-then-is_err : goal.returns-then-is_err
returns-then-is_err c =
    let out = said_err c.lend_number.result (sym c.if-is_err.ensures.value) in
    let e = not_lent c.args.t.now c.args.i (sym c.lend_number.ensures.answers ∙ out.1) in
    record { within = refl; at = omega (arith, e.1); bytes = sym e.0 }

pub record_at-requires : goal.record_at-requires
unfolding copies_in
record_at-requires c =
    let ok = sym c.lend_number.ensures.answers ∙ said_ok c.lend_number.result (sym c.if-is_err.ensures.value) in
    let p = lend_passed c.args.t.now c.args.i ok in
    rw c.from.ensures (p.0.most, p.0.size, omega (arith, p.1))

pub returns : goal.returns
unfolding copies_in
returns c =
    let ok = sym c.lend_number.ensures.answers ∙ said_ok c.lend_number.result (sym c.if-is_err.ensures.value) in
    let e = lent c.args.t.now c.args.i ok in
    let r = rw c.from.ensures at c.record_at.ensures in
    record { within = r.within; at = omega (arith, r.at, e.1); bytes = r.bytes ∙ sym e.0 }
