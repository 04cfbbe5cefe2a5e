-- `used`: the word has the symbols of the first k rows. Assumes nothing.
use Rattle.std.proofs.Common.{◌≡◌}
use Rattle.parts.specs.Parts.{join}
use Rattle.model.specs.Bytes.{row_in_slice}
use Rattle.symbols.specs.Marks.{marks}
use Rattle.free.proofs.used.Given as goal

abbrev pub invariant-loop-k : goal.invariant-loop-k
invariant-loop-k l = l.w ≡ marks 0 (join l.k (row_in_slice l.n l.s))
