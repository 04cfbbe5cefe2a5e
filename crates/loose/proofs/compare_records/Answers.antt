-- `compare_records`: each record's check, then 8, 6, then the comparison of the pair. Assumes nothing.
use Rattle.std.proofs.Common.{arith, rules}
use Rattle.std.proofs.lemmas.Grind.{common_steps}
use Rattle.model.specs.Answers.{answer}
use Rattle.model.specs.Bytes.{copies_in, own_in}
use Rattle.model.specs.Calls.{check_record_says, pair_reasons, compare_records_says}
use Rattle.laws.specs.Reasons.{answer_front, answer-behind}
use Rattle.loose.specs.Loose.{well_passed, pair_shown, pair_behind}
use Rattle.pair.specs.Pair.{compared_said}
use Rattle.loose.proofs.compare_records.Goals as goal

pub returns-in_err-check_record : goal.returns-in_err-check_record
unfolding check_record_says pair_reasons compare_records_says
returns-in_err-check_record c = grind (arith, common_steps, answer_front)

pub returns-in_err-check_record-2 : goal.returns-in_err-check_record-2
unfolding check_record_says pair_reasons compare_records_says
returns-in_err-check_record-2 c = grind (arith, common_steps, answer_front, answer-behind, c.in_ok-check_record.ensures, c.in_err-check_record-2.ensures)

pub bounds-a-2 : goal.bounds-a-2
bounds-a-2 c = omega (arith, (well_passed c.in_ok-check_record.ensures).size)

pub bounds-a-3 : goal.bounds-a-3
bounds-a-3 c = omega (arith, (well_passed c.in_ok-check_record.ensures).size)

pub bounds-b-3 : goal.bounds-b-3
bounds-b-3 c = omega (arith, (well_passed c.in_ok-check_record-2.ensures).size)

pub bounds-b-2 : goal.bounds-b-2
bounds-b-2 c = omega (arith, (well_passed c.in_ok-check_record-2.ensures).size)

pub returns-then-from-n : goal.returns-then-from-n
unfolding compare_records_says copies_in own_in answer
returns-then-from-n c = let e = pair_behind _ _ c.in_ok-check_record.ensures c.in_ok-check_record-2.ensures in grind (arith, common_steps, e)

pub returns-then-x-y : goal.returns-then-x-y
unfolding compare_records_says copies_in own_in answer
returns-then-x-y c = let e = pair_behind _ _ c.in_ok-check_record.ensures c.in_ok-check_record-2.ensures in grind (arith, common_steps, e)

pub compare_pair-requires : goal.compare_pair-requires
unfolding copies_in own_in
compare_pair-requires c =
    let h = pair_shown (well_passed c.in_ok-check_record.ensures) (well_passed c.in_ok-check_record-2.ensures) (cc) in
    rw (c.from-n.ensures, c.from-x.ensures, c.from-y.ensures) (search rules)

pub returns : goal.returns
unfolding compare_records_says copies_in own_in answer
returns c =
    let e = pair_behind _ _ c.in_ok-check_record.ensures c.in_ok-check_record-2.ensures in
    grind (arith, common_steps, e, compared_said)
