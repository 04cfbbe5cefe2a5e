-- `new_rows`: each new row goes behind those before it. Assumes nothing.
use Rattle.std.proofs.Common.{◌≡◌, List, ℕ, ◌+◌, ◌*◌, ◌≤◌, length, take, arith, add-one, suc-mul}
use Rattle.parts.specs.Parts.{join}
use Rattle.parts.specs.Written.{written, take-written}
use Rattle.meeting_slice.proofs.Sides.new_rows.Goals as goal

behind : (w k : ℕ) (f : ℕ → List ℕ) (v l : List ℕ) → take (k * w) l ≡ join k f → v ≡ f k → length v ≡ w → k * w + w ≤ length l
    → take ((k + 1) * w) (written (k * w) v l) ≡ join (k + 1) f
unfolding join
behind w k f v l done same wide fits =
    let next : (k + 1) * w ≡ k * w + length v = rw (add-one, suc-mul) (omega arith) in
    rw (next, take-written (k * w) v l (omega arith), done, same, add-one k)

pub loop-k-preserved : goal.loop-k-preserved
loop-k-preserved c = grind (arith, behind)
