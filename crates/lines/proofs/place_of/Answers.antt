-- `place_of`: what the search finds is the place. Assumes nothing.
use Rattle.std.proofs.Common.{rules, tests, nat_eq}
use Rattle.std.proofs.lemmas.Iterator.{YieldsList-from_slice}
use Rattle.std.proofs.lemmas.Iterator.Search.{position_from_yields_List}
use Rattle.lines.specs.Pieces.{placed_found}
use Rattle.lines.proofs.place_of.Goals as goal

pub returns : goal.returns
returns c =
    let a = c.args in
    placed_found
    (position_from_yields_List (λ x. nat_eq x a.sep) _ _ _ c.position.ensures.ran (YieldsList-from_slice a.s.now c.iter.ensures.rest)
    (λ x b q k. search (rules, tests)))
    c.unwrap_or.ensures
