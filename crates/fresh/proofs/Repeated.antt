-- A part written n times behind a header, and fresh rows, slices and records as such. Assumes nothing.
use mathlib.Core.Path.{◌≡◌, refl, sym, ap, ◌∙◌}
use mathlib.Core.List.{List, [], ◌∷◌, ◌++◌}
use Prim.Native.Nat.{ℕ, ◌+◌, ◌*◌, ◌≤◌}
use native.Mathlib.Nat.{zero-add}
use native.Mathlib.Omega.{arith}
use lib.ListN.{length, take}
use lib.Seq.{take_all}
use Rattle.parts.specs.Parts.{join, length_repeated}
use Rattle.parts.specs.Written.{written, length-written, take-written}
use Rattle.model.specs.Steps.{fresh_rows}
use Rattle.model.specs.Bytes.{row_size, slice_size, record_size, row_bytes, slice_bytes, header_bytes, record_bytes}
use Rattle.laws.specs.Layout.{length_row, length-slice_bytes, length-record_bytes}
use Rattle.row.proofs.Rows.{row_take}

-- A fresh row of 8 cells, and its first N + 1 bytes.
abbrev pub fresh_row : List ℕ
fresh_row = 1 ∷ 0 ∷ 0xFF ∷ 0xFF ∷ 0xFF ∷ 0xFF ∷ 0xFF ∷ 0xFF ∷ 0xFF ∷ []

module _ (n : ℕ) (some : 1 ≤ n) (few : n ≤ 8) where
  pub fresh_row_front : take (n + 1) fresh_row ≡ row_bytes n (0 ∷ [])
  unfolding row_bytes
  fresh_row_front = row_take n (0 ∷ []) some few

  pub fresh_row_wide : length (take (n + 1) fresh_row) ≡ row_size n
  fresh_row_wide = ap length fresh_row_front ∙ length_row n (0 ∷ []) some

-- A slice of such rows at the front of 72 bytes.
pub fresh_slice_front : (n : ℕ) (row s r : List ℕ) → row ≡ row_bytes n (0 ∷ []) → length row ≡ row_size n → n * row_size n ≤ length s
    → r ≡ written 0 (join n (λ k. row)) s → take (slice_size n) r ≡ slice_bytes n (λ k. 0 ∷ [])
unfolding slice_bytes
fresh_slice_front n row s r e wide fits h =
    let long : length (join n (λ k. row)) ≡ n * row_size n = rw wide at (length_repeated n row) in
    let room : 0 + length (join n (λ k. row)) ≤ length s = omega arith in
    let front : take (length (join n (λ k. row))) (written 0 (join n (λ k. row)) s) ≡ join n (λ k. row) = rw zero-add at (take-written 0 (join n (λ k. row)) s room) in
    rw (h, ← long) (front ∙ ap (λ (x : List ℕ). join n (λ k. x)) e)

-- A header written, and then all that stands behind it.
pub header_body : (h v r : List ℕ) → length h ≡ 4 → 4 + length v ≡ length r → written 4 v (written 0 h r) ≡ h ++ v
header_body h v r four long =
    let room : 0 + length h ≤ length r = omega arith in
    let whole : 4 + length v ≤ length (written 0 h r) = rw (length-written 0 h r room) (omega arith) in
    let all : take (4 + length v) (written 4 v (written 0 h r)) ≡ written 4 v (written 0 h r) =
    take_all (4 + length v) (written 4 v (written 0 h r)) (omega (arith, length-written 4 v (written 0 h r) whole, length-written 0 h r room)) in
    let front : take 4 (written 0 h r) ≡ h = rw (zero-add, four) at (take-written 0 h r room) in
    sym all ∙ take-written 4 v (written 0 h r) whole ∙ ap (λ (x : List ℕ). x ++ v) front

-- A fresh record: its header, and N times the fresh slice.
module _ (n own : ℕ) where
  pub header_four : length (header_bytes n own (λ p k. [])) ≡ 4
  unfolding header_bytes
  header_four = refl

  pub fresh_record_bytes : (s : List ℕ) → s ≡ slice_bytes n (λ k. 0 ∷ [])
      → header_bytes n own (λ p k. []) ++ join n (λ p. s) ≡ record_bytes n own (fresh_rows own)
  unfolding record_bytes header_bytes fresh_rows
  fresh_record_bytes s e = ap (λ (x : List ℕ). header_bytes n own (λ p k. []) ++ join n (λ p. x)) e

pub length-fresh_slice : (n : ℕ) → 1 ≤ n → length (slice_bytes n (λ k. 0 ∷ [])) ≡ slice_size n
length-fresh_slice n some = length-slice_bytes n (λ k. 0 ∷ []) (λ k h. some)

pub length-fresh_record : (n own : ℕ) → 1 ≤ n → length (record_bytes n own (fresh_rows own)) ≡ record_size n
unfolding fresh_rows
length-fresh_record n own some = length-record_bytes n own (λ p k. 0 ∷ []) (λ p k hp hk. some)
