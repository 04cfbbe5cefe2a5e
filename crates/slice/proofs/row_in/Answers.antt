-- `slice::row_in` meets its contract: row k is part k of the slice, and its symbols stand behind its length byte. Assumes nothing.
use native.Mathlib.Omega.{arith}
use mathlib.Core.Path.{ap, ◌∙◌}
use Rattle.model.specs.Bytes.{row_in_slice, symbols_in}
use Rattle.slice.specs.Places.{row_long}
use Rattle.slice.proofs.row_in.Goals as goal

pub symbols-requires : goal.symbols-requires
symbols-requires c =
    let k = c.args.k in
    rw c.part_at.ensures.bytes (omega (arith, row_long c.requires.0 k c.requires.1, (c.requires.0.rows k c.requires.1).high))

pub returns : goal.returns
unfolding row_in_slice
returns c =
    let p = c.part_at.ensures in
    let e = c.symbols.ensures in
    record { within = e.within ∙ p.within; at = omega (arith, e.at, p.at); bytes = e.bytes ∙ ap symbols_in p.bytes }
