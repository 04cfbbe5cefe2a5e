-- `slice::row_of` meets its contract: row k of slice p, place upon place. Assumes nothing.
use native.Mathlib.Omega.{arith}
use mathlib.Core.Path.{ap, ◌∙◌}
use mathlib.Core.List.{List}
use Prim.Native.Nat.{ℕ}
use Rattle.model.specs.Bytes.{record_rows, row_in_slice}
use Rattle.slice.proofs.row_of.Goals as goal

pub returns : goal.returns
unfolding record_rows
returns c =
    let a = c.args in
    let s = c.slice_at.ensures in
    let e = c.row_in.ensures in
    record {
      within = e.within ∙ s.within;
      at = omega (arith, e.at, s.at);
      bytes = e.bytes ∙ ap (λ (l : List ℕ). row_in_slice a.n l a.k) s.bytes;
    }
