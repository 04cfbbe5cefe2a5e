-- `other_heads`: there is room for each head. Assumes nothing.
use Rattle.std.proofs.Common.{arith}
use Rattle.row.specs.Tab.{length-tab}
use Rattle.updating.proofs.Below.{others_below}
use Rattle.updating.proofs.other_heads.Goals as goal

pub push-requires : goal.push-requires
unfolding others_below
push-requires c = grind (arith, length-tab)
