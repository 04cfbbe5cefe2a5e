-- `meet`: no byte is written before every refusal is ruled out, 7 over all slices. Assumes nothing.
use Rattle.std.proofs.Common.{◌≡◌, sym, arith}
use Rattle.std.proofs.lemmas.Grind.{common_steps}
use Rattle.model.specs.Bytes.{copies_in}
use Rattle.laws.specs.Refusals.{meet_refused}
use Rattle.laws.specs.Leaves.{meet_leaves_lem}
use Rattle.table.specs.Checked.{well_long}
use Rattle.steps.specs.Passed.{meet_refused_as, meet_same, meet_done, compare-passed}
use Rattle.steps.proofs.meet.Goals as goal

pub returns-in_err-compare : goal.returns-in_err-compare
returns-in_err-compare c =
    let e = meet_refused_as _ _ _ (sym c.in_err-compare.ensures.answers) in
    grind (arith, common_steps, e, meet_refused _ _ _ _ e)

pub returns-then-a-b : goal.returns-then-a-b
returns-then-a-b c =
    let a = c.args in
    let same : a.a ≡ a.b = omega arith in
    let e = meet_same a.t.now _ _ (sym c.in_ok-compare.ensures.answers) same in
    grind (arith, common_steps, e, meet_refused _ _ _ _ e)

pub bounds-t-2 : goal.bounds-t-2
bounds-t-2 c =
    let r = compare-passed _ _ _ (sym c.in_ok-compare.ensures.answers) in
    omega (arith, well_long r.well)

pub meet_in-requires : goal.meet_in-requires
unfolding copies_in
meet_in-requires c =
    let r = compare-passed _ _ _ (sym c.in_ok-compare.ensures.answers) in
    rw c.from-n.ensures
    record {
      well = r.well;
      first = omega (arith, r.first, r.second);
      second = omega (arith, r.first, r.second);
      differ = omega arith;
    }

pub returns : goal.returns
unfolding copies_in
returns c =
    let a = c.args in
    let differ : a.a ≡ a.b → ⊥ = omega arith in
    let says = sym c.in_ok-compare.ensures.answers in
    let e = meet_done a.t.now _ _ says differ in
    grind (arith, common_steps, e, meet_leaves_lem _ _ _ _ (compare-passed _ _ _ says) differ)
