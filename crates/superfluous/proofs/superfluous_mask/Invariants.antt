-- `superfluous::superfluous_mask` meets its contract. The invariant: the first i copies are marked. Assumes nothing.
use Rattle.model.specs.Bytes.{table_rows}
use Rattle.superfluous.specs.Marking.{Marking}
use Rattle.superfluous.proofs.superfluous_mask.Given as goal

abbrev pub invariant-loop-i : goal.invariant-loop-i
invariant-loop-i l = Marking l.n (table_rows l.n l.t) l.i l.mask
