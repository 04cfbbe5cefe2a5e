-- `symbols` hands back the cells behind the length byte, as many as it says. Assumes nothing.
use Rattle.std.proofs.Common.{arith, rules}
use Rattle.model.specs.Bytes.{symbols_in}
use Rattle.row.proofs.symbols.Goals as goal

pub returns : goal.returns
unfolding symbols_in
returns c = record { within = search rules; at = search rules; bytes = grind arith }
