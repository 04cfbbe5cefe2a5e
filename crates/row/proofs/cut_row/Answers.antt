-- `cut_row`: those of the symbols passed that are kept stand in the cells. Assumes nothing.
use Rattle.std.proofs.Common.{sym, ◌∙◌}
use Rattle.row.proofs.Cut.{cut_start, cut_more, cut_same, cut_end}
use Rattle.row.proofs.cut_row.Goals as goal
use Rattle.row.proofs.cut_row.Goals.{then-among, else-among}

pub loop-s-init : goal.loop-s-init
loop-s-init c = cut_start _ _

pub loop-s-preserved : goal.loop-s-preserved
loop-s-preserved c =
    elim c.if-among.branch [
      | then-among w ↦ cut_more c.loop-s.invariant c.loop-s-test.true c.requires (sym c.among.ensures ∙ w.if-among.true) w.row-is w.m-is
      | else-among w ↦ cut_same c.loop-s.invariant c.loop-s-test.true (sym c.among.ensures ∙ w.if-among.false) w.row-is w.m-is
    ]

pub returns : goal.returns
returns c = cut_end c.loop-s.invariant c.loop-s-test.false
