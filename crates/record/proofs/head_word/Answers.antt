-- `head_word` folds over the rows, one bit for each head. Assumes nothing.
use Rattle.std.proofs.Common.{◌∙◌, rules, ℕ, ◌<◌}
use Rattle.std.proofs.iter.Serving.{serving}
use Rattle.model.specs.Tests.{head}
use Rattle.model.specs.Bytes.{row_in_slice}
use Rattle.slice.specs.Shown.{SliceShown}
use Rattle.record.specs.Passed.{rows_shown, head_low}
use Rattle.record.proofs.Heads.{with_head, heads_folded}
use Rattle.record.proofs.Ranges.{fold_ranged}
use Rattle.record.proofs.head_word.Goals as goal

pub fold-requires-clause-callable : goal.fold-requires-clause-callable
fold-requires-clause-callable c =
    let shown : SliceShown c.args.n c.args.s.now = rows_shown c.requires in
    let low : (k : ℕ) → k < c.args.n → head (row_in_slice c.args.n c.args.s.now k) < 64 = head_low c.requires in
    grind serving

pub returns : goal.returns
returns c =
    let rows = row_in_slice c.args.n c.args.s.now in
    fold_ranged _ _ (with_head rows) c.args.n 0 _ (λ w k y f t. search rules) c.fold.ensures.ran
    ∙ heads_folded c.args.n rows (head_low c.requires)
