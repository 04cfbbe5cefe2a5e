-- `copies::against_others` meets its contract. The invariant: the first j copies are looked at. Assumes nothing.
use Rattle.model.specs.Bytes.{table_rows}
use Rattle.copies.specs.Looked.{Looked}
use Rattle.copies.proofs.against_others.Given as goal

abbrev pub invariant-loop-j : goal.invariant-loop-j
invariant-loop-j l = Looked l.n (table_rows l.n l.t) l.i l.j l.covered
