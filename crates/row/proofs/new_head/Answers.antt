-- `new_head` follows document 01's rule: is x in W, and if so which stands earlier. Assumes nothing.
use Rattle.model.specs.Steps.{new_head_of}
use Rattle.row.proofs.new_head.Goals as goal

pub returns-then-among : goal.returns-then-among
unfolding new_head_of
returns-then-among c = rw (← c.among.ensures, c.if-among.true) c.earlier.ensures

pub returns-else-among : goal.returns-else-among
unfolding new_head_of
returns-else-among c = rw (← c.among.ensures, c.if-among.false)
