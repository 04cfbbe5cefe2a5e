-- `put_refused`: the word, then the number. Assumes nothing.
use native.Mathlib.Omega.{arith}
use Rattle.model.specs.Answers.{number_of_refusal}
use Rattle.print.specs.Decimal.{decimal_few, refusal_few}
use Rattle.print.specs.Printed.{answer_text}
use Rattle.print.specs.Room.{put_then}
use Rattle.print.proofs.put_refused.Goals as goal

pub returns : goal.returns
unfolding answer_text
returns c =
    let x = c.args.x in
    let q = rw c.from.ensures at (rw c.from-2.ensures at c.put_number.ensures) in
    (put_then c.put-next.ensures q, omega (arith, c.put-next.ensures.next, q.next, decimal_few 1 (number_of_refusal x) (omega arith) (refusal_few x)))
