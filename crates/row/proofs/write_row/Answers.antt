-- `write_row`: the length, then the symbols, then FF. Assumes nothing.
use Rattle.row.proofs.Rows.{row_written}
use Rattle.row.proofs.write_row.Goals as goal

pub returns : goal.returns
returns c =
    let a = c.args in
    row_written a.n a.dst.now a.l.now c.copy.new.dst c.fill.new.self c.requires.1 c.requires.2 c.copy.ensures (c.fill.ensures.after (λ y e. e))
