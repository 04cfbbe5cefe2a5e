-- `cut_row`: those of the symbols passed that are kept stand in the cells. Assumes nothing.
use Rattle.row.proofs.Cut.{Cut}
use Rattle.row.proofs.cut_row.Given as goal

abbrev pub invariant-loop-s : goal.invariant-loop-s
invariant-loop-s l = Cut l.w l.hs l.s-index l.m l.row
