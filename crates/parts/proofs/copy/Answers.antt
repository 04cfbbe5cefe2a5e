-- `copy` writes the bytes of `src` where the range of `dst` stood. Assumes nothing.
use Rattle.std.proofs.Common.{refl}
use Rattle.parts.proofs.Front.{lent_back}
use Rattle.parts.proofs.copy.Goals as goal

pub returns : goal.returns
returns c = rw c.copy_from_slice.ensures.after (lent_back _ _ _ _ refl)
