-- `read_line`: the letter, and what stands behind it. Assumes nothing.
use Rattle.std.proofs.Common.{rules, tests, ◌∙◌}
use Rattle.lines.specs.Lines.{line_read}
use Rattle.lines.proofs.Words.{first_word, next_word, no_letter, three_more}
use Rattle.lines.proofs.read_line.Goals as goal

pub returns-in_err-letter : goal.returns-in_err-letter
unfolding line_read
returns-in_err-letter c =
    let s = c.split-words.ensures in
    let one = first_word _ c.args.line.now _ c.next.ensures.steps s.rest s.done s.closure (λ x b q k. search (rules, tests)) in
    c.from_residual-in_err-letter.ensures ∙ no_letter _ (rw c.in_ok-next.was at one.0) c.in_err-letter.ensures

pub returns : goal.returns
unfolding line_read
returns c =
    let s = c.split-words.ensures in
    let one = first_word _ c.args.line.now _ c.next.ensures.steps s.rest s.done s.closure (λ x b q k. search (rules, tests)) in
    let two = next_word _ _ c.next-2.ensures.steps one.1 in
    let three = next_word _ _ c.next-3.ensures.steps two.1 in
    let four = next_word _ _ c.next-4.ensures.steps three.1 in
    c.call_of.ensures ∙ three_more _ (rw c.in_ok-next.was at one.0) c.in_ok-letter.ensures two.0 three.0 four.0
