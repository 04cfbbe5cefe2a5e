-- `run_lines`: what is left to put out gives the whole, line by line. Assumes nothing.
use Rattle.std.proofs.Common.{◌≤◌, length, take}
use Rattle.desk.specs.Running.{Running}
use Rattle.desk.proofs.run_lines.Given as goal

abbrev pub invariant-loop-rest : goal.invariant-loop-rest
invariant-loop-rest l = record { fits : l.table.size ≤ 4640; runs : Running l.input l.start l.initial.out l.rest l.k l.at (take l.table.size l.table.buffer) l.out }

abbrev pub decreases-loop-rest : goal.decreases-loop-rest
decreases-loop-rest l = length l.rest
