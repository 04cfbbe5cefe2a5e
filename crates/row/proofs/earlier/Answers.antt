-- `earlier`: the first symbol of the row that is x or y, else y. Assumes nothing.
use Rattle.std.proofs.Common.{eqb, ◌||◌, rules, tests}
use Rattle.std.proofs.lemmas.Iterator.{YieldsList-from_slice}
use Rattle.std.proofs.lemmas.Iterator.Adapters.{option_map_id}
use Rattle.std.proofs.lemmas.Iterator.Consumers.{YieldsList-from_copied}
use Rattle.std.proofs.lemmas.Iterator.Search.{find_from_yields_List}
use Rattle.row.proofs.Scan.{find-earlier}
use Rattle.row.proofs.earlier.Goals as goal

pub returns : goal.returns
returns c =
    let a = c.args in
    let first = find_from_yields_List (λ z. eqb z a.x || eqb z a.y) _ _ c.find.result c.find.ensures.ran (YieldsList-from_copied (YieldsList-from_slice a.l.now cc)) (λ z b q k. search (rules, tests)) in
    rw (c.unwrap_or.ensures, ← option_map_id c.find.result, first) (find-earlier _ _ _)
