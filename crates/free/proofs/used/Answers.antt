-- `used`: the word has the symbols of the first k rows. Assumes nothing.
use Rattle.std.proofs.Common.{refl, ap₂, ◌∙◌, arith}
use Rattle.parts.specs.Parts.{join}
use Rattle.symbols.proofs.Digits.{symbols_most}
use Rattle.symbols.specs.Marks.{marks}
use Rattle.free.proofs.Marking.{row_marked}
use Rattle.free.proofs.used.Goals as goal

pub loop-k-init : goal.loop-k-init
unfolding join marks
loop-k-init c = refl

pub mark-w-requires : goal.mark-w-requires
mark-w-requires c =
    let most = symbols_most c.requires.shown.few in
    rw c.row_in.ensures.bytes (λ x i. (let low = c.requires.below c.loop-k.k c.loop-k-test.true x i in omega arith))

pub loop-k-preserved : goal.loop-k-preserved
loop-k-preserved c = c.mark-w.ensures ∙ ap₂ marks c.loop-k.invariant c.row_in.ensures.bytes ∙ row_marked _ _
