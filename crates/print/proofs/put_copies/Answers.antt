-- `put_copies`: the mask, a space, the count. Assumes nothing.
use native.Mathlib.Omega.{arith}
use Rattle.print.specs.Printed.{answer_text}
use Rattle.print.specs.Decimal.{decimal_few}
use Rattle.print.specs.Room.{put_then}
use Rattle.print.proofs.put_copies.Goals as goal

pub put-then-requires : goal.put-then-requires
put-then-requires c =
    let mask = rw c.from.ensures at c.put_number-next.ensures in
    omega (arith, mask.next, decimal_few 3 c.args.x.mask (omega arith) (omega arith))

pub put_number-requires : goal.put_number-requires
put_number-requires c =
    let mask = rw c.from.ensures at c.put_number-next.ensures in
    omega (arith, c.put-then.ensures.next, mask.next, decimal_few 3 c.args.x.mask (omega arith) (omega arith))

pub returns : goal.returns
unfolding answer_text
returns c =
    let x = c.args.x in
    let mask = rw c.from.ensures at c.put_number-next.ensures in
    let count = rw c.from-2.ensures at c.put_number.ensures in (
      put_then mask (put_then c.put-then.ensures count),
      omega (
        arith,
        mask.next,
        c.put-then.ensures.next,
        count.next,
        decimal_few 3 x.mask (omega arith) (omega arith),
        decimal_few 3 x.count (omega arith) (omega arith),
      ),
    )
