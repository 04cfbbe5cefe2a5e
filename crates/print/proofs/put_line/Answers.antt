-- `put_line`: the number, the letter between spaces, the answer, the line's end. Assumes nothing.
use native.Mathlib.Omega.{arith}
use Rattle.print.specs.Decimal.{decimal_few}
use Rattle.print.specs.Printed.{line_text}
use Rattle.print.specs.Room.{put_then}
use Rattle.print.proofs.put_line.Goals as goal

pub put-b-requires : goal.put-b-requires
put-b-requires c =
    omega (arith, c.put_number-a.ensures.next, decimal_few 5 c.args.k (omega arith) c.requires.1, c.requires.0)

pub put_answer-c-requires : goal.put_answer-c-requires
put_answer-c-requires c =
    omega (arith, c.put-b.ensures.next, c.put_number-a.ensures.next, decimal_few 5 c.args.k (omega arith) c.requires.1, c.requires.0)

pub put-requires : goal.put-requires
put-requires c =
    omega (arith, c.put_answer-c.ensures.1, c.put-b.ensures.next, c.put_number-a.ensures.next, decimal_few 5 c.args.k (omega arith) c.requires.1, c.requires.0)

pub returns : goal.returns
unfolding line_text
returns c = (
  put_then c.put_number-a.ensures (put_then c.put-b.ensures (put_then c.put_answer-c.ensures.0 c.put.ensures)),
  omega (
    arith,
    c.put.ensures.next,
    c.put_answer-c.ensures.1,
    c.put-b.ensures.next,
    c.put_number-a.ensures.next,
    decimal_few 5 c.args.k (omega arith) c.requires.1,
  ),
)
