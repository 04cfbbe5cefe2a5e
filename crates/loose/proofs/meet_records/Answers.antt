-- `meet_records`: no byte is written before every refusal is ruled out. Assumes nothing.
use Rattle.std.proofs.Common.{sym, arith}
use Rattle.std.proofs.lemmas.Grind.{common_steps}
use Rattle.model.specs.Bytes.{copies_in, own_in}
use Rattle.laws.specs.Refusals.{meet_records_refused}
use Rattle.loose.specs.Met.{met_refused, met_done, met-passed, met_first, met_second}
use Rattle.loose.proofs.meet_records.Goals as goal

pub returns-in_err-compare_records : goal.returns-in_err-compare_records
returns-in_err-compare_records c =
    let e = met_refused c.args.a.now c.args.b.now (sym c.in_err-compare_records.ensures.answers) in
    grind (arith, common_steps, e, meet_records_refused _ _ _ e)

pub bounds-a-2 : goal.bounds-a-2
bounds-a-2 c = omega (arith, (met-passed _ _ (met_done _ _ (sym c.in_ok-compare_records.ensures.answers))).first.size)

pub bounds-a-3 : goal.bounds-a-3
bounds-a-3 c = omega (arith, (met-passed _ _ (met_done _ _ (sym c.in_ok-compare_records.ensures.answers))).first.size)

pub bounds-b-3 : goal.bounds-b-3
bounds-b-3 c = omega (arith, (met-passed _ _ (met_done _ _ (sym c.in_ok-compare_records.ensures.answers))).second.size)

pub meet_pair-requires : goal.meet_pair-requires
unfolding copies_in own_in
meet_pair-requires c =
    rw (c.from-n.ensures, c.from-x.ensures, c.from-y.ensures)
    (met-passed _ _ (met_done _ _ (sym c.in_ok-compare_records.ensures.answers)))

pub returns : goal.returns
unfolding copies_in own_in
returns c =
    let e = met_done c.args.a.now c.args.b.now (sym c.in_ok-compare_records.ensures.answers) in
    grind (arith, common_steps, e, met_first _ _ e, met_second _ _ e)
