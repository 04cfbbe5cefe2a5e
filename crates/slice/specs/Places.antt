-- Where rows and slices stand: bounds of the sizes for at most eight copies, and what a part of a slice or record reads as.
-- Assumes nothing.
use Rattle.std.specs.Prelude.{◌≡◌, refl, List, [], ◌∷◌, ℕ, ◌+◌, ◌*◌, ◌≤◌, ◌<◌, length, get_or, drop}
use Rattle.std.proofs.Common.{mul-le-mul, arith}
use Rattle.std.proofs.Math.ListN.{length-drop}
use Rattle.std.proofs.Math.Seq.{length-take-le}
use Rattle.parts.specs.Parts.{part, room, length-part}
use Rattle.model.specs.Tests.{head}
use Rattle.model.specs.Bytes.{row_size, symbols_in, row_in_slice, record_rows, row_bytes}
use Rattle.slice.specs.Shown.{SliceShown, RecordShown}

-- The sizes for at most eight copies.
pub record Sizes (n : ℕ) : Type 0 where
  pub slice : n * (n + 1) ≤ 72
  pub record_body : n * (n * (n + 1)) ≤ 576
  pub table : n * (4 + n * (n * (n + 1))) ≤ 4640
  pub symbols : n * n ≤ 64

pub sizes : (n : ℕ) → n ≤ 8 → Sizes n
sizes n few =
    let row : n + 1 ≤ 9 = omega arith in
    let slice : n * (n + 1) ≤ 8 * 9 = mul-le-mul few row in
    let body : n * (n * (n + 1)) ≤ 8 * 72 = mul-le-mul few slice in
    let whole : 4 + n * (n * (n + 1)) ≤ 580 = omega arith in
    record { slice = slice; record_body = body; table = mul-le-mul few whole; symbols = mul-le-mul few few }

-- The first element of a row is its head.
pub head_first : (l : List ℕ) → get_or l 0 0 ≡ head l
head_first [] = refl
head_first (x ∷ l) = refl

module _ {n : ℕ} {s : List ℕ} (shown : SliceShown n s) (k : ℕ) (less : k < n) where
  pub row_fits : k * row_size n + row_size n ≤ length s
  row_fits = rw shown.long (room (row_size n) less)

  pub row_long : length (part (row_size n) k s) ≡ row_size n
  row_long = length-part (row_size n) k s row_fits

  -- A row of a checked slice is its symbols written.
  pub row_whole : part (row_size n) k s ≡ row_bytes n (row_in_slice n s k)
  unfolding row_in_slice
  row_whole = (shown.rows k less).form

  -- A row's length byte says how many symbols it has.
  pub row_length : length (row_in_slice n s k) ≡ get_or (part (row_size n) k s) 0 0
  unfolding row_in_slice symbols_in
  row_length =
      length-take-le (get_or (part (row_size n) k s) 0 0) (drop 1 (part (row_size n) k s))
      (rw length-drop (omega (arith, row_long, (shown.rows k less).high)))

-- A row of a checked record has a symbol, and at most N.
pub row_of_length : {n : ℕ} {r : List ℕ} → RecordShown n r → (p k : ℕ) → p < n → k < n
    → (1 ≤ length (record_rows n r p k)) × (length (record_rows n r p k) ≤ n)
unfolding record_rows
row_of_length shown p k lp lk =
    let s : SliceShown _ _ = shown.slices p lp in
    (omega (arith, row_length s k lk, (s.rows k lk).low), omega (arith, row_length s k lk, (s.rows k lk).high))
