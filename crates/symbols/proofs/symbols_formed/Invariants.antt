-- `symbols_formed` passes over the row once. Invariant: what the whole says is what the symbols not yet passed say, where `seen` marks
-- those passed. Assumes nothing.
use Rattle.std.proofs.Common.{◌≡◌, drop}
use Rattle.model.specs.Bytes.{symbols_are_formed}
use Rattle.symbols.proofs.Seen.{formed_from}
use Rattle.symbols.proofs.symbols_formed.Given as goal

abbrev pub invariant-loop-x : goal.invariant-loop-x
invariant-loop-x l = symbols_are_formed l.n l.l ≡ formed_from l.n l.seen (drop l.x-index l.l)
