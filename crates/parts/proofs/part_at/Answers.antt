-- `part_at` hands back part k in its place: the range from k * w to k * w + w is w bytes long. Assumes nothing.
use Rattle.std.proofs.Common.{rules}
use native.Mathlib.Nat.{add-sub_cancel_left}
use Rattle.parts.specs.Parts.{part}
use Rattle.parts.proofs.part_at.Goals as goal

pub returns : goal.returns
unfolding part
returns c = record { within = search rules; at = search rules; bytes = simp add-sub_cancel_left }
