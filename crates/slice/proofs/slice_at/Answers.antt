-- `slice::slice_at` meets its contract: what stands behind the header is N slices, and slice p is part p of it. Assumes nothing.
use native.Mathlib.Omega.{arith}
use mathlib.Core.Path.{ap, ◌∙◌}
use Rattle.parts.specs.Parts.{part, room}
use Rattle.model.specs.Bytes.{slice_in, slice_size}
use Rattle.std.proofs.lemmas.Slice.{between_to_end}
use Rattle.slice.proofs.slice_at.Goals as goal

pub part_at-requires : goal.part_at-requires
part_at-requires c = rw c.slice_len.ensures (omega (arith, room (slice_size c.args.n) c.requires.2, c.requires.1))

pub returns : goal.returns
unfolding slice_in
returns c =
    let e = rw c.slice_len.ensures at c.part_at.ensures in
    record {
      within = e.within;
      at = omega (arith, e.at);
      bytes = e.bytes ∙ ap (part (slice_size c.args.n) c.args.p) (between_to_end c.args.r.now 4 _ (omega arith));
    }
