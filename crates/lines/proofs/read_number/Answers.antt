-- `read_number`: one digit more. Assumes nothing.
use Rattle.std.proofs.Common.{arith}
use Rattle.lines.proofs.Reading.{read_more}
use Rattle.lines.proofs.read_number.Goals as goal

pub loop-c-preserved : goal.loop-c-preserved
loop-c-preserved c = record { small = omega arith; rest = grind (arith, read_more) }
