-- `among`: the row's `contains` is `is_in`. Assumes nothing.
use Rattle.std.proofs.Common.{◌∙◌}
use Rattle.row.proofs.Scan.{any-is_in}
use Rattle.row.proofs.among.Goals as goal

pub returns : goal.returns
returns c = c.contains.ensures.value ∙ any-is_in _ _
