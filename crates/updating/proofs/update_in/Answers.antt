-- `update_in`: the part where record p stands is lent on, and comes back with one row written. Assumes nothing.
use Rattle.std.proofs.Common.{◌≡◌, ◌∙◌, List, ℕ, ◌*◌, length, take}
use native.Mathlib.Nat.{add-sub_cancel_left}
use Rattle.parts.specs.Parts.{part}
use Rattle.parts.specs.Written.{written, written-put}
use Rattle.parts.proofs.Front.{lent_back}
use Rattle.model.specs.Steps.{updated_row}
use Rattle.model.specs.Bytes.{row_size, record_size, row_bytes, record_rows, record_in, table_rows}
use Rattle.updating.specs.Asked.{own_place, own_slice}
use Rattle.updating.proofs.Place.{after_long, after-updated}
use Rattle.updating.proofs.update_in.Goals as goal

pub new_row-row-requires : goal.new_row-row-requires
unfolding record_in part
new_row-row-requires c =
    rw (c.slice_at.ensures.bytes, c.record_len-size.ensures, add-sub_cancel_left) (own_slice c.requires.0 c.args.p c.requires.1)

pub returns : goal.returns
unfolding table_rows record_rows record_in part
returns c =
    let a = c.args in
    let t : List ℕ = a.t.now in
    let row : List ℕ = c.new_row-row.result in
    let after : List ℕ = c.put_row.new.r in
    let new : row ≡ row_bytes 8 (updated_row a.n a.p (table_rows a.n t a.p a.p)) = rw (c.slice_at.ensures.bytes, c.record_len-size.ensures, add-sub_cancel_left) at c.new_row-row.ensures in
    let e : after ≡ written (own_place a.n a.p) (take (row_size a.n) row) (record_in a.n t a.p) = rw (c.record_len-size.ensures, add-sub_cancel_left) at c.put_row.ensures in
    let long : length after ≡ record_size a.n = after_long c.requires.0 c.requires.1 row after new e in
    rw c.record_len-size.ensures
    (lent_back (a.p * record_size a.n) (record_size a.n) after t long
    ∙ written-put (record_size a.n) a.p after t long
    ∙ after-updated c.requires.0 c.requires.1 row after new e)
