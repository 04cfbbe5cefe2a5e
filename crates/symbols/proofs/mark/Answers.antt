-- `mark`: the fold over the row sets one bit for each symbol. Assumes nothing.
use Rattle.std.proofs.Common.{◌≡◌, ◌∙◌, ℕ, ◌*◌, ◌%◌, ◌^◌, ◌<◌, rules}
use Rattle.std.specs.List.{All, fold}
use Rattle.std.specs.Int.Bits.{bit_or}
use Rattle.std.proofs.iter.Serving.{serving}
use Rattle.std.proofs.lemmas.List.Elements.{All-from_get_or}
use Rattle.facts.specs.Members.{in_at}
use Rattle.symbols.proofs.Digits.{fold-marks}
use Rattle.symbols.proofs.mark.Goals as goal

pub fold-requires-clause-callable : goal.fold-requires-clause-callable
fold-requires-clause-callable c =
    let l = c.args.l.now in
    let low : All (λ x. x < 64) l = All-from_get_or (λ x. x < 64) l 0 (λ i h. c.requires _ (in_at l i h)) in
    grind serving

pub returns : goal.returns
returns c =
    let a = c.args in
    let all : c.fold.result ≡ fold (λ (w x : ℕ). bit_or w (1 * 2 ^ x % 2 ^ 64)) a.w a.l.now = search rules in
    all ∙ fold-marks a.w a.l.now c.requires
