-- `put_number` puts the digits that the kit's library writes, which are the number in decimal. Assumes nothing.
use Rattle.std.proofs.Common.{◌∙◌}
use Rattle.print.specs.Decimal.{decimal_is}
use Rattle.print.proofs.put_number.Goals as goal

pub returns : goal.returns
returns c =
    let text = c.decimal-k.ensures.digits ∙ decimal_is _ _ c.decimal-k.ensures.len in
    rw text at c.put.ensures
