-- `slice::head_in` meets its contract: a row that was checked has a first symbol. Assumes nothing.
use native.Mathlib.Omega.{arith}
use Rattle.slice.specs.Places.{row_length}
use Rattle.slice.proofs.head_in.Goals as goal

pub bounds-row_in-0 : goal.bounds-row_in-0
bounds-row_in-0 c =
    let k = c.args.k in
    rw c.row_in.ensures.bytes (omega (arith, row_length c.requires.0 k c.requires.1, (c.requires.0.rows k c.requires.1).low))
