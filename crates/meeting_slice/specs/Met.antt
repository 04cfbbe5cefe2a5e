-- One slice of both records after their meeting, as bytes; and what makes the cut row. Assumes nothing.
use Rattle.std.specs.Prelude.{◌≡◌, List, ℕ, ◌≤◌, ◌<◌, length, take, eqb}
use Rattle.std.proofs.Common.{ap, ◌∙◌, arith}
use Rattle.model.specs.Tests.{any, is_in, keep}
use Rattle.model.specs.Steps.{Slice, Record, winning_row, new_heads_of, cut_row_of, met_record}
use Rattle.model.specs.Bytes.{row_size, slice_size, row_bytes, slice_bytes, record_rows}
use Rattle.facts.specs.Keeping.{keep-length}
use Rattle.row.specs.Tab.{tab, cut_tab}
use Rattle.row.proofs.Rows.{row_take}
use Rattle.pair.specs.Pair.{PairShown}
use Rattle.meeting_slice.specs.NewRows.{winning_length}

-- Slice p of the first record is the front of u, of the second the front of v.
pub record MetSlices (n a b p : ℕ) (x y : Record) (u v : List ℕ) : Type 0 where
  pub first : take (slice_size n) u ≡ slice_bytes n (met_record n a b x y x y p)
  pub second : take (slice_size n) v ≡ slice_bytes n (met_record n a b x y y x p)

-- The cut row is no longer than W.
cut_length : (n a b : ℕ) (x y : Slice) → length (cut_row_of n a b x y) ≤ length (winning_row a b x y)
unfolding cut_row_of
cut_length n a b x y = keep-length (λ s. any n (λ k. eqb (new_heads_of a b x y k) s)) (winning_row a b x y)

module _ {n a b : ℕ} {x y : List ℕ} (shown : PairShown n a b x y) (p : ℕ) (less : p < n) where
  -- W cut down to the new heads in 8 cells: its front is the cut row in n cells.
  pub cut_front : (w hs c : List ℕ) → w ≡ winning_row a b (record_rows n x p) (record_rows n y p) → hs ≡ tab n (new_heads_of a b (record_rows n x p) (record_rows n y p))
      → c ≡ row_bytes 8 (keep (λ s. is_in s hs) w) → take (row_size n) c ≡ row_bytes n (cut_row_of n a b (record_rows n x p) (record_rows n y p))
  cut_front w hs c ew eh ec =
      ap (take (row_size n)) (ec ∙ ap (row_bytes 8) (rw (eh, ew) (cut_tab n a b (record_rows n x p) (record_rows n y p))))
      ∙ row_take n (cut_row_of n a b (record_rows n x p) (record_rows n y p)) cut_fits shown.first.few
    where
      cut_fits : length (cut_row_of n a b (record_rows n x p) (record_rows n y p)) ≤ n
      cut_fits = omega (arith, cut_length n a b (record_rows n x p) (record_rows n y p), winning_length shown p less)
