-- What the check has shown of a row, a slice and a record in bytes, as far as code that reads or copies them asks for it. Assumes nothing.
use Rattle.std.specs.Prelude.{◌≡◌, List, ℕ, ◌+◌, ◌*◌, ◌≤◌, ◌<◌, length, get_or}
use Rattle.std.specs.Coded.{Coded-set, coded_list, coded_ℕ, le_prop}
use Rattle.parts.specs.Parts.{part}
use Rattle.model.specs.Bytes.{header_size, row_size, slice_size, record_size, row_bytes, symbols_in, slice_in}

-- The length byte is 1 to N, and the bytes are those that its symbols give: what is copied is what would be written.
pub record RowShown (n : ℕ) (row : List ℕ) : Type 0 where
  pub low : 1 ≤ get_or row 0 0
  pub high : get_or row 0 0 ≤ n
  pub form : row ≡ row_bytes n (symbols_in row)

pub record SliceShown (n : ℕ) (s : List ℕ) : Type 0 where
  pub few : n ≤ 8
  pub long : length s ≡ slice_size n
  pub rows : (k : ℕ) → k < n → RowShown n (part (row_size n) k s)

pub record RecordShown (n : ℕ) (r : List ℕ) : Type 0 where
  pub few : n ≤ 8
  pub long : length r ≡ record_size n
  pub slices : (p : ℕ) → p < n → SliceShown n (slice_in n r p)

-- Where the symbols of row k of slice p start in a record.
abbrev pub row_place : ℕ → ℕ → ℕ → ℕ
row_place n p k = header_size + p * slice_size n + (k * row_size n + 1)

-- What is shown of a slice is shown in one way alone, so that a ghost field can hold it.
RowShown-prop : (n : ℕ) (row : List ℕ) → IsProp (RowShown n row)
RowShown-prop n row x y =
    λ i. record { low = le_prop x.low y.low i; high = le_prop x.high y.high i; form = Coded-set (coded_list coded_ℕ) row _ x.form y.form i }

pub SliceShown-prop : (n : ℕ) (s : List ℕ) → IsProp (SliceShown n s)
SliceShown-prop n s x y =
    λ i. record {
      few = le_prop x.few y.few i;
      long = Coded-set coded_ℕ _ _ x.long y.long i;
      rows = λ k p. RowShown-prop n _ (x.rows k p) (y.rows k p) i;
    }
