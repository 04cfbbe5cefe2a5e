-- `fresh::fresh_slice` meets its contract: N fresh rows, one behind another. Assumes nothing.
use native.Mathlib.Omega.{arith}
use Prim.Native.Nat.{◌+◌}
use lib.ListN.{take, replicate}
use Rattle.slice.specs.Places.{sizes}
use Rattle.fresh.proofs.Repeated.{fresh_row, fresh_row_front, fresh_row_wide, fresh_slice_front}
use Rattle.fresh.proofs.fresh_slice.Goals as goal

pub returns : goal.returns
returns c =
    let n = c.args.n in
    fresh_slice_front n (take (n + 1) fresh_row) (replicate 72 0) c.repeat.new.dst (fresh_row_front n c.requires.0 c.requires.1)
    (fresh_row_wide n c.requires.0 c.requires.1) (omega (arith, sizes n c.requires.1)) c.repeat.ensures
