-- What is shown of a row, a slice and a record that passed its test: they are well formed, and what code that reads or copies them
-- asks for holds of them. Assumes nothing.
use Rattle.std.specs.Prelude.{◌≡◌, refl, true, List, ℕ, ◌*◌, ◌≤◌, ◌<◌, length}
use Rattle.std.proofs.Common.{arith}
use Rattle.parts.specs.Parts.{part}
use Rattle.model.specs.Tests.{all, head}
use Rattle.model.specs.Answers.{done}
use Rattle.model.specs.Bytes.{row_size, slice_size, copies_in, row_in_slice, record_rows, row_is_formed}
use Rattle.model.specs.Calls.{record_reasons, check_record_says}
use Rattle.facts.specs.Numbers.{all→}
use Rattle.facts.specs.Members.{In, head_in}
use Rattle.laws.specs.Reasons.{accepted-answer}
use Rattle.laws.specs.Layout.{length-slice_in, length-row_in_slice}
use Rattle.laws.specs.WellFormed.{WellRow, WellSlice, WellRecord, row_is_formed→}
use Rattle.laws.specs.Accepted.{record_accepted→}
use Rattle.laws.specs.RoundTrip.{row_form, row_formed}
use Rattle.symbols.specs.Marks.{Below}
use Rattle.slice.specs.Shown.{RowShown, SliceShown, RecordShown}
use Rattle.slice.specs.Places.{sizes}

-- ---- What is well formed is shown

pub row_shown : {n : ℕ} {b : List ℕ} → length b ≡ row_size n → WellRow n b → RowShown n b
row_shown {n} {b} long w = record { low = w.filled; high = w.fits; form = row_form n b long w }

pub slice_shown : {n own : ℕ} {s : List ℕ} → n ≤ 8 → length s ≡ slice_size n → WellSlice n own s → SliceShown n s
slice_shown {n} {own} {s} few long w =
    record { few = few; long = long; rows = λ k h. row_shown (length-row_in_slice n s k long h) (w.row k h) }

pub record_shown : {n : ℕ} {r : List ℕ} → WellRecord n r → RecordShown n r
record_shown {n} {r} w =
    record {
      few = w.most;
      long = w.size;
      slices = λ p h. slice_shown w.most (length-slice_in n r p w.size h) (w.slice p h);
    }

-- ---- A slice whose rows passed

pub record RowsPassed (n : ℕ) (s : List ℕ) : Type 0 where
  pub few : n ≤ 8
  pub long : length s ≡ slice_size n
  pub formed : all n (λ k. row_is_formed n (part (row_size n) k s)) ≡ true

module _ {n : ℕ} {s : List ℕ} (passed : RowsPassed n s) where
  row_passed_lem : (k : ℕ) → k < n → WellRow n (part (row_size n) k s)
  row_passed_lem k h =
      row_is_formed→ n (part (row_size n) k s) (length-row_in_slice n s k passed.long h)
      (all→ n (λ k. row_is_formed n (part (row_size n) k s)) passed.formed k h)

  pub rows_shown : SliceShown n s
  rows_shown =
      record { few = passed.few; long = passed.long; rows = λ k h. row_shown (length-row_in_slice n s k passed.long h) (row_passed_lem k h) }

  -- Its symbols are the bits of a word of 64.
  pub symbol_low : (k : ℕ) → k < n → Below 64 (row_in_slice n s k)
  unfolding row_in_slice
  symbol_low k h x i = omega (arith, (row_passed_lem k h).below x i, (sizes n passed.few).symbols)

  pub head_low : (k : ℕ) → k < n → head (row_in_slice n s k) < 64
  unfolding row_in_slice
  head_low k h =
      let f = row_formed n (part (row_size n) k s) (length-row_in_slice n s k passed.long h) (row_passed_lem k h) in
      symbol_low k h (head (row_in_slice n s k)) (head_in (row_in_slice n s k) f.filled)

-- ---- A record that passed the check

-- Symbols are in range, in every row of a well-formed record.
pub symbol_range : {n : ℕ} {r : List ℕ} → WellRecord n r → (p k : ℕ) → p < n → k < n → (x : ℕ) → In x (record_rows n r p k) → x < n * n
unfolding record_rows row_in_slice
symbol_range w p k h l x i = ((w.slice p h).row k l).below x i

-- A record that the check accepts is well formed, for the N that it names.
pub check-passed : {r : List ℕ} → check_record_says r ≡ done → WellRecord (copies_in r) r
unfolding check_record_says
check-passed {r} e = record_accepted→ r (accepted-answer (record_reasons r) done refl e)
