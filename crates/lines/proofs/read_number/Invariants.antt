-- `read_number`: what is read of the whole word is what is read from here on, behind the value v. Assumes nothing.
use Rattle.std.proofs.Common.{◌≡◌, ◌≤◌, drop}
use Rattle.lines.specs.Lines.{number_of}
use Rattle.lines.proofs.Reading.{read_from}
use Rattle.lines.proofs.read_number.Given as goal

abbrev pub invariant-loop-c : goal.invariant-loop-c
invariant-loop-c l = record { small : l.v ≤ 255; rest : number_of l.w ≡ read_from l.v (drop l.c-index l.w) }
