-- `rows_formed` makes the test of each part of n + 1 bytes. Assumes nothing.
use Rattle.std.proofs.Common.{◌∙◌, ◌+◌, rules, arith}
use borrow.Author.Tests.{tests}
use Rattle.std.proofs.lemmas.Iterator.Search.{all_from_yields_List}
use Rattle.model.specs.Bytes.{row_is_formed}
use Rattle.record.proofs.Ranges.{YieldsList-from_parts, chunks_all}
use Rattle.record.proofs.rows_formed.Goals as goal

pub returns : goal.returns
returns c =
    let n = c.args.n in
    let s = c.args.s.now in
    all_from_yields_List (row_is_formed n) _ _ c.all.result c.all.ensures.ran
    (YieldsList-from_parts (n + 1) (omega arith) s n c.chunks_exact.result c.chunks_exact.ensures.rest c.chunks_exact.ensures.size c.requires.1)
    (λ x b q k. search (rules, tests))
    ∙ chunks_all (n + 1) n s (row_is_formed n)
