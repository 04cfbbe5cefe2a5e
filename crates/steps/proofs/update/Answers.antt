-- `update`: no byte is written before every refusal is ruled out. Assumes nothing.
use Rattle.std.proofs.Common.{◌∙◌, sym, arith}
use Rattle.std.proofs.lemmas.Grind.{common_steps}
use Rattle.model.specs.Bytes.{copies_in}
use Rattle.laws.specs.Refusals.{update_refused}
use Rattle.laws.specs.Leaves.{update_leaves_lem}
use Rattle.table.specs.Checked.{well_long}
use Rattle.steps.specs.Passed.{update_lends, update-passed}
use Rattle.steps.proofs.update.Goals as goal

pub returns-in_err-lend_number : goal.returns-in_err-lend_number
returns-in_err-lend_number c =
    let a = c.args in
    let e = sym (c.in_err-lend_number.ensures.answers ∙ update_lends a.t.now a.p) in
    grind (arith, common_steps, e, update_refused _ _ _ e)

pub bounds-t-2 : goal.bounds-t-2
bounds-t-2 c =
    let a = c.args in
    let e = sym (c.in_ok-lend_number.ensures.answers ∙ update_lends a.t.now a.p) in
    omega (arith, well_long (update-passed _ _ e).0)

pub update_in-requires : goal.update_in-requires
unfolding copies_in
update_in-requires c =
    let a = c.args in
    let e = sym (c.in_ok-lend_number.ensures.answers ∙ update_lends a.t.now a.p) in
    let p = update-passed a.t.now a.p e in
    rw c.from-n.ensures (p.0, omega (arith, p.1))

pub returns : goal.returns
unfolding copies_in
returns c =
    let a = c.args in
    let e = sym (c.in_ok-lend_number.ensures.answers ∙ update_lends a.t.now a.p) in
    let p = update-passed _ _ e in
    grind (arith, common_steps, e, update_leaves_lem _ _ _ p.0 p.1)
