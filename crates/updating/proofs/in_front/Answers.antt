-- `in_front`: the cells moved by one, the length one more, the symbol. Assumes nothing.
use Rattle.updating.proofs.Longer.{longer}
use Rattle.updating.proofs.in_front.Goals as goal

pub returns : goal.returns
returns c = rw c.copy_within.ensures.after (longer c.args.x c.args.row _ c.requires.0 c.requires.1)
