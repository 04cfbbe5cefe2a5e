-- `passed_formed` makes the test of the own number, then that of each slice. Assumes nothing.
use Rattle.std.proofs.Common.{refl, ◌∙◌, ℕ, lt-ltb, le-ltb, rules, arith}
use borrow.Author.Tests.{tests}
use Rattle.std.proofs.lemmas.Iterator.{YieldsList-from_range}
use Rattle.std.proofs.lemmas.Iterator.Search.{all_from_yields_List}
use Rattle.parts.specs.Parts.{join}
use Rattle.model.specs.Bytes.{slice_is_formed}
use Rattle.model.specs.Calls.{row_passed}
use Rattle.laws.specs.Given.{InRoom}
use Rattle.record.proofs.Ranges.{all_ranged}
use Rattle.writing.proofs.Formed.{passed_is_formed}
use Rattle.writing.proofs.passed_formed.Goals as goal

pub returns-then-own-n-clause-value : goal.returns-then-own-n-clause-value
returns-then-own-n-clause-value c =
    let x = c.args.rows.now in
    let fits : InRoom x = record { lengths = search rules; cells = search rules } in
    let formed = λ (p : ℕ). slice_is_formed x.n x.own (join x.n (row_passed x p)) in
    all_from_yields_List formed _ _ c.all.result c.all.ensures.ran (YieldsList-from_range 0 x.n x.n refl (omega arith)) (λ p b q k. search (rules, tests))
    ∙ all_ranged formed x.n
    ∙ rw (passed_is_formed x fits c.requires, lt-ltb x.own x.n c.if-own-n.true) refl

pub returns-else-own-n-clause-value : goal.returns-else-own-n-clause-value
returns-else-own-n-clause-value c =
    let x = c.args.rows.now in
    let fits : InRoom x = record { lengths = search rules; cells = search rules } in
    rw (passed_is_formed x fits c.requires, le-ltb x.own x.n c.if-own-n.false) refl
