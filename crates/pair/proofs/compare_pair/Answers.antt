-- `pair::compare_pair` meets its contract. The invariant: the slices below p are counted, and none is unrelated. Assumes nothing.
use Rattle.std.proofs.Common.{arith, sym, ◌∙◌}
use Rattle.pair.specs.Counted.{counted_start, counted_next, counted_unrelated, counted_done, counts_fit}
use Rattle.pair.proofs.Known.{related, one_at_most, one_behind, one_ahead}
use Rattle.pair.proofs.compare_pair.Goals as goal

pub loop-p-init : goal.loop-p-init
loop-p-init c = counted_start _ _ _ _ _

pub returns-in_default : goal.returns-in_default
returns-in_default c =
    counted_unrelated _ _ _ _ _ c.loop-p.invariant (sym c.answer_at-s.ensures ∙ c.in_default.is) c.loop-p-test.true

pub overflow_add-behind : goal.overflow_add-behind
overflow_add-behind c = omega (arith, counts_fit _ _ _ _ _ c.loop-p.invariant, c.requires.first.few, one_at_most c.eq.result)

pub overflow_add-ahead : goal.overflow_add-ahead
overflow_add-ahead c = omega (arith, counts_fit _ _ _ _ _ c.loop-p.invariant, c.requires.first.few, one_at_most c.eq-in-loop-p.result)

pub loop-p-preserved : goal.loop-p-preserved
loop-p-preserved c =
    let s = c.answer_at-s.result in
    counted_next _ _ _ _ _ c.loop-p.invariant s c.answer_at-s.ensures (related s c.in-Level.is)
    (one_behind s c.eq.ensures c.from-behind.ensures) (one_ahead s c.eq-in-loop-p.ensures c.from-ahead.ensures)

pub returns : goal.returns
returns c = counted_done _ _ _ _ _ c.loop-p.invariant (omega arith) c.order_of.ensures
