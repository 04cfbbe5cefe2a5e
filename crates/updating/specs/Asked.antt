-- Slice p of the record of copy p: what its update asks of it, what follows from that, and where its row p stands. Assumes nothing.
use Rattle.std.specs.Prelude.{◌≡◌, List, ℕ, ◌+◌, ◌*◌, ◌≤◌, ◌<◌, length}
use Rattle.std.proofs.Common.{arith}
use Rattle.model.specs.Steps.{updated_row}
use Rattle.model.specs.Bytes.{header_size, row_size, slice_size, row_in_slice, slice_in, record_in}
use Rattle.laws.specs.Layout.{length-slice_in}
use Rattle.laws.specs.WellFormed.{WellSlice, WellTable}
use Rattle.laws.specs.RoundTrip.{slice_formed}
use Rattle.laws.specs.UpdateKept.{updated_row_lem}
use Rattle.slice.specs.Places.{row_length}
use Rattle.slice.specs.Shown.{SliceShown}
use Rattle.record.specs.Passed.{slice_shown}
use Rattle.free.specs.Ranged.{Ranged}

-- Where row p of slice p starts in a record.
abbrev pub own_place : ℕ → ℕ → ℕ
own_place n p = header_size + p * slice_size n + p * row_size n

-- It is slice p of a well-formed record with own number p.
pub record OwnSlice (n p : ℕ) (s : List ℕ) : Type 0 where
  pub least : 2 ≤ n
  pub most : n ≤ 8
  pub copy : p < n
  pub size : length s ≡ slice_size n
  pub well : WellSlice n p s

module _ {n p : ℕ} {s : List ℕ} (own : OwnSlice n p s) where
  pub own_shown : SliceShown n s
  own_shown = slice_shown own.most own.size own.well

  -- Its symbols are in range.
  pub own_ranged : Ranged n s
  unfolding row_in_slice
  own_ranged = record { shown = own_shown; below = λ k h. (own.well.row k h).below }

  -- Its old row has at most 8 symbols.
  pub own_few : length (row_in_slice n s p) ≤ 8
  own_few = omega (arith, row_length own_shown p own.copy, (own_shown.rows p own.copy).high, own.most)

  -- The new row is no longer than N.
  pub own_fits : length (updated_row n p (row_in_slice n s)) ≤ n
  own_fits =
      (updated_row_lem n p (row_in_slice n s) own.least own.copy (slice_formed n p s own.size own.well)).fits

-- In a well-formed table each copy has it.
pub own_slice : {n : ℕ} {t : List ℕ} → WellTable n t → (p : ℕ) → p < n → OwnSlice n p (slice_in n (record_in n t p) p)
own_slice {n} {t} w p h =
    let r = w.copy p h in
    record {
      least = w.least;
      most = w.most;
      copy = h;
      size = length-slice_in n (record_in n t p) p r.size h;
      well = rw (w.own p h) at (r.slice p h);
    }
