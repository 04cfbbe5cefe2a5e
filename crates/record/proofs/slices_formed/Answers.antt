-- `slices_formed` makes the test of each part of n * (n + 1) bytes behind the header. Assumes nothing.
use Rattle.std.proofs.Common.{◌∙◌, length-drop, rules, arith, ◌+◌, ◌*◌, ◌≤◌}
use borrow.Author.Tests.{tests}
use Rattle.std.proofs.lemmas.Iterator.Search.{all_from_yields_List}
use Rattle.model.specs.Bytes.{slice_in, slice_is_formed}
use Rattle.std.proofs.Math.Nat.{mul-pos}
use Rattle.std.proofs.lemmas.List.{take_rest}
use Rattle.record.proofs.Ranges.{YieldsList-from_parts, chunks_all}
use Rattle.record.proofs.slices_formed.Goals as goal

pub returns : goal.returns
unfolding slice_in
returns c =
    let n = c.args.n in
    let r = c.args.r.now in
    let some : 1 ≤ n = omega arith in
    all_from_yields_List (slice_is_formed n c.args.own) _ _ c.all.result c.all.ensures.ran
    (YieldsList-from_parts (n * (n + 1)) (mul-pos some (omega arith)) _ n c.chunks_exact.result (c.chunks_exact.ensures.rest ∙ take_rest r 4) (c.chunks_exact.ensures.size ∙ c.slice_len.ensures) (simp length-drop (omega arith)))
    (λ x b q k. search (rules, tests))
    ∙ chunks_all (n * (n + 1)) n _ (slice_is_formed n c.args.own)
