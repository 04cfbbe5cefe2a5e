-- `new_heads`: there is room for each head. Assumes nothing.
use Rattle.std.proofs.Common.{arith}
use Rattle.row.specs.Tab.{length-tab}
use Rattle.meeting_slice.proofs.Sides.new_heads.Goals as goal

pub push-requires : goal.push-requires
push-requires c = grind (arith, length-tab)
