-- `table::records_formed` tests each record. Assumes nothing.
use Rattle.std.proofs.Common.{rules, refl, arith}
use borrow.Author.Tests.{tests}
use Rattle.std.proofs.lemmas.Iterator.{YieldsList-from_range}
use Rattle.std.proofs.lemmas.Iterator.Search.{all_from_yields_List}
use Rattle.model.specs.Bytes.{table_is_formed}
use Rattle.table.specs.Checked.{copy_is_formed}
use Rattle.record.proofs.Ranges.{all_ranged}
use Rattle.table.proofs.records_formed.Goals as goal

pub returns : goal.returns
unfolding table_is_formed
returns c =
    let n = c.args.n in
    let formed = copy_is_formed n c.args.t.now in
    rw (← all_ranged formed n)
    (all_from_yields_List formed _ _ c.all.result c.all.ensures.ran (YieldsList-from_range 0 n n refl (omega arith)) (λ x b q k. search (rules, tests)))
