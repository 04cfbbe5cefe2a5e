-- `symbols_formed` passes over the row once. Invariant: what the whole says is what the symbols not yet passed say, where `seen` marks
-- those passed. Assumes nothing.
use Rattle.std.proofs.Common.{sym, ◌∙◌, arith, get_or}
use Rattle.symbols.proofs.Seen.{formed_start, formed_great, formed_twice, formed_next, formed_end}
use Rattle.symbols.proofs.Digits.{symbols_most, read_digit, make_bit}
use Rattle.symbols.proofs.symbols_formed.Goals as goal
use Rattle.symbols.proofs.symbols_formed.Goals.{then-limit-x-via-then-limit-x, then-limit-x-via-else-limit-x+then-seen-x-eq1}

pub loop-x-init : goal.loop-x-init
loop-x-init c = formed_start _ _

pub returns-then-limit-x : goal.returns-then-limit-x
returns-then-limit-x c =
    sym (c.loop-x.invariant ∙ elim c.then-limit-x.branch [
      | then-limit-x-via-then-limit-x w ↦ formed_great _ _ _ _ c.loop-x-test.true w.if-limit-x.true
      | then-limit-x-via-else-limit-x+then-seen-x-eq1 w ↦ formed_twice _ _ _ _ c.loop-x-test.true (sym (read_digit _ _) ∙ w.if-seen-x-eq1.true)
    ])

pub loop-x-preserved : goal.loop-x-preserved
loop-x-preserved c =
    let most = symbols_most c.requires in
    let x = get_or c.args.l.now c.loop-x.x-index 0 in
    rw (make_bit x (omega arith))
    (c.loop-x.invariant ∙ formed_next _ _ _ _ c.loop-x-test.true c.if-limit-x.false (λ e. c.if-seen-x-eq1.false (read_digit _ _ ∙ e)))

pub returns : goal.returns
returns c = sym (c.loop-x.invariant ∙ formed_end _ _ _ _ c.loop-x-test.false)
