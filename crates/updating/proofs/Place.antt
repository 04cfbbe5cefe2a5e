-- The updated table is the old one with one row written into the record where it stands: what is written into a part of a part is
-- written into the whole. Assumes nothing.
use mathlib.Core.Path.{◌≡◌, sym, ap, ◌∙◌}
use mathlib.Core.List.{List, ◌++◌}
use Prim.Native.Nat.{ℕ, ◌+◌, ◌*◌, ◌≤◌, ◌<◌}
use native.Mathlib.Omega.{arith}
use lib.ListN.{length, take, drop, length-drop}
use Rattle.parts.specs.Parts.{room, put}
use Rattle.parts.specs.Written.{written, length-written, written-behind, written_within}
use Rattle.model.specs.Steps.{updated_row, updated_record, updated_table}
use Rattle.model.specs.Bytes.{header_size, row_size, slice_size, record_size, row_bytes, record_bytes, table_bytes, own_in, row_in_slice, slice_in, record_rows, record_in, table_rows}
use Rattle.row.proofs.Rows.{row_take}
use Rattle.laws.specs.Layout.{length_row, length-slice_in, length-record_in}
use Rattle.laws.specs.WellFormed.{WellRecord, WellTable}
use Rattle.laws.specs.RoundTrip.{slice_formed}
use Rattle.laws.specs.UpdateKept.{updated_row_lem}
use Rattle.laws.specs.Leaves.{update_leaves_lem}
use Rattle.laws.specs.InPlace.{update-put, update_record_put, update_slice_put}
use Rattle.updating.specs.Asked.{own_place, own_slice, own_fits}

-- ---- One row of one record

module _ (n : ℕ) (r : List ℕ) (w : WellRecord n r) where
  abbrev own : ℕ
  own = own_in r

  written-own : record_bytes n own (updated_record n own (record_rows n r))
      ≡ written (own_place n own) (row_bytes n (updated_row n own (record_rows n r own))) r
  unfolding record_rows slice_in
  written-own =
      let s : List ℕ = slice_in n r own in
      let v : List ℕ = row_bytes n (updated_row n own (row_in_slice n s)) in
      let size : length s ≡ slice_size n = length-slice_in n r own w.size w.own in
      let well = w.slice own w.own in
      let short = (updated_row_lem n own (row_in_slice n s) w.least w.own (slice_formed n own s size well)).fits in
      let wide : length v ≡ row_size n = length_row n (updated_row n own (row_in_slice n s)) short in
      let place : own_place n own ≡ header_size + (own * slice_size n + own * row_size n) = omega arith in
      let fits : own * slice_size n + slice_size n ≤ length (drop header_size r) = rw length-drop (omega (arith, w.size, room (slice_size n) w.own)) in
      update_record_put n r w
      ∙ ap (λ (q : List ℕ). take header_size r ++ put (slice_size n) own q (drop header_size r)) (update_slice_put n own s w.least w.own size well)
      ∙ ap (λ (q : List ℕ). take header_size r ++ q)
      (sym (written_within (slice_size n) own (row_size n) own v (drop header_size r) fits (room (row_size n) w.own) wide))
      ∙ sym (written-behind header_size (own * slice_size n + own * row_size n) v r)
      ∙ sym (ap (λ (m : ℕ). written m v r) place)

-- ---- The table

module _ {n : ℕ} {t : List ℕ} (w : WellTable n t) {p : ℕ} (h : p < n) where
  updated-written : put (record_size n) p (written (own_place n p) (row_bytes n (updated_row n p (table_rows n t p p))) (record_in n t p)) t
      ≡ table_bytes n (updated_table n p (table_rows n t))
  unfolding table_rows
  updated-written =
      let one = rw (w.own p h) at (written-own n (record_in n t p) (w.copy p h)) in
      sym (ap (λ (q : List ℕ). put (record_size n) p q t) one)
      ∙ sym (update-put n t p w h)
      ∙ update_leaves_lem n t p w h

  short : length (updated_row n p (table_rows n t p p)) ≤ n
  unfolding table_rows record_rows
  short = own_fits (own_slice w p h)

  -- Record p, lent and come back with the new row of 8 cells written as far as it goes.
  module _ (row after : List ℕ) (new : row ≡ row_bytes 8 (updated_row n p (table_rows n t p p)))
      (e : after ≡ written (own_place n p) (take (row_size n) row) (record_in n t p)) where
    same : after ≡ written (own_place n p) (row_bytes n (updated_row n p (table_rows n t p p))) (record_in n t p)
    same =
        e ∙ ap (λ (v : List ℕ). written (own_place n p) v (record_in n t p)) (ap (take (row_size n)) new ∙ row_take n _ short w.most)

    pub after_long : length after ≡ record_size n
    after_long =
        let size : length (record_in n t p) ≡ record_size n = length-record_in n t p w.size h in
        let wide = length_row n (updated_row n p (table_rows n t p p)) short in
        ap length same
        ∙ length-written (own_place n p) (row_bytes n (updated_row n p (table_rows n t p p))) (record_in n t p)
        (omega (arith, size, wide, room (slice_size n) h, room (row_size n) h))
        ∙ size

    pub after-updated : put (record_size n) p after t ≡ table_bytes n (updated_table n p (table_rows n t))
    after-updated = ap (λ (q : List ℕ). put (record_size n) p q t) same ∙ updated-written
