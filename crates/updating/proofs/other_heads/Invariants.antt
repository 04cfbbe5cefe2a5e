-- `other_heads`: the heads of those of the first k rows stand in the list. Assumes nothing.
use Rattle.std.proofs.Common.{◌≡◌}
use Rattle.row.specs.Tab.{tab}
use Rattle.model.specs.Bytes.{row_in_slice}
use Rattle.updating.specs.Others.{head_other_than}
use Rattle.updating.proofs.Below.{others_below}
use Rattle.updating.proofs.other_heads.Given as goal

abbrev pub invariant-loop-k : goal.invariant-loop-k
invariant-loop-k l = l.heads.items ≡ tab (others_below l.p l.k) (head_other_than l.p (row_in_slice l.n l.s))
