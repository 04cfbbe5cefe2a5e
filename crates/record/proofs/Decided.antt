-- The tests of a slice in the order in which code makes them: its rows, then the two words of the principal set. Assumes nothing.
use mathlib.Core.Path.{◌≡◌, sym, ◌∙◌}
use mathlib.Core.Bool.{Bool, true, false}
use mathlib.Core.List.{List}
use Prim.Native.Nat.{ℕ, ◌≤◌, ◌<◌}
use lib.ListN.{length}
use lib.Dec.{eqb}
use Rattle.parts.specs.Parts.{part}
use Rattle.model.specs.Tests.{all}
use Rattle.model.specs.Bytes.{row_size, slice_size, row_in_slice, row_is_formed, slice_is_formed}
use Rattle.symbols.specs.Marks.{marks}
use Rattle.record.specs.Passed.{RowsPassed, symbol_low, head_low}
use Rattle.record.specs.Words.{head_marks, principal_words}

module _ (n own : ℕ) (s : List ℕ) where
  pub slice_misformed : all n (λ k. row_is_formed n (part (row_size n) k s)) ≡ false → slice_is_formed n own s ≡ false
  unfolding slice_is_formed
  slice_misformed e = rw e

  pub slice_decided : RowsPassed n s → own < n → eqb (head_marks n (row_in_slice n s)) (marks 0 (row_in_slice n s own)) ≡ slice_is_formed n own s
  unfolding slice_is_formed
  slice_decided passed h = rw passed.formed (principal_words n own (row_in_slice n s) (head_low passed) (symbol_low passed own h))

-- The test of the rows was made, and did not fail.
pub rows_passed : {n : ℕ} {s : List ℕ} (b : Bool) → n ≤ 8 → length s ≡ slice_size n
    → b ≡ all n (λ k. row_is_formed n (part (row_size n) k s)) → b ≡ true → RowsPassed n s
rows_passed b few long e h = record { few = few; long = long; formed = sym e ∙ h }
