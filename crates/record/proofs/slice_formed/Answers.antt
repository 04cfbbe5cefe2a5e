-- `slice_formed` makes the test of the rows, and compares the two words of the principal set. Assumes nothing.
use Rattle.std.proofs.Common.{sym, ◌∙◌}
use Rattle.record.specs.Passed.{rows_shown, symbol_low}
use Rattle.record.proofs.Decided.{rows_passed, slice_misformed, slice_decided}
use Rattle.record.proofs.slice_formed.Goals as goal

pub row_in-requires : goal.row_in-requires
row_in-requires c = (rows_shown (rows_passed _ c.requires.0 c.requires.1 c.rows_formed.ensures c.if-rows_formed.true), c.requires.2)

pub mark-requires : goal.mark-requires
mark-requires c =
    rw c.row_in.ensures.bytes (symbol_low (rows_passed _ c.requires.0 c.requires.1 c.rows_formed.ensures c.if-rows_formed.true) c.args.own c.requires.2)

pub returns-then-rows_formed : goal.returns-then-rows_formed
returns-then-rows_formed c =
    rw (c.head_word.ensures, c.mark.ensures, c.row_in.ensures.bytes)
    (slice_decided _ _ _ (rows_passed _ c.requires.0 c.requires.1 c.rows_formed.ensures c.if-rows_formed.true) c.requires.2)

pub returns-else-rows_formed : goal.returns-else-rows_formed
returns-else-rows_formed c = c.if-rows_formed.false ∙ sym (slice_misformed _ _ _ (sym c.rows_formed.ensures ∙ c.if-rows_formed.false))
