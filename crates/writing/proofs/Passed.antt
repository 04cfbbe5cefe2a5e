-- Rows as they are passed, written one behind another: one row more of a slice, one slice more of a record. Assumes of the rows that
-- they come in their room.
use mathlib.Core.Path.{◌≡◌, refl, sym, ap, ap₂, ◌∙◌}
use mathlib.Core.List.{List, [], ◌∷◌, ◌++◌, append_assoc}
use Prim.Native.Nat.{ℕ, suc, ◌+◌, ◌*◌, ◌-◌, ◌≤◌, ◌<◌}
use native.Mathlib.Nat.{add-sub_cancel_left}
use native.Mathlib.Numerals.{add-one}
use native.Mathlib.Omega.{arith}
use lib.ListN.{length, get_or, take, drop, set}
use lib.Seq.{take-suc-set, drop-set-lt, take-take}
use Rattle.parts.specs.Parts.{part, room, join}
use Rattle.parts.specs.Written.{written}
use Rattle.parts.proofs.Front.{Front, front_next, front_end}
use Rattle.model.specs.Bytes.{row_size, slice_size, record_size, header_bytes}
use Rattle.model.specs.Calls.{most, row_passed, record_passed}
use Rattle.model.specs.declared.Rows.{Rows}
use Rattle.laws.specs.Given.{InRoom, passed_long, slices_long}
use Rattle.slice.specs.Places.{sizes}

-- One element, and a list behind it.
written_cons : (at x : ℕ) (v l : List ℕ) → at < length l → written (at + 1) v (set l at x) ≡ written at (x ∷ v) l
unfolding written
written_cons at x v l h =
    let front : take (at + 1) (set l at x) ≡ take at l ++ (x ∷ []) = rw add-one (take-suc-set l at x h) in
    let rest : drop (at + 1 + length v) (set l at x) ≡ drop (at + 1 + length v) l = drop-set-lt (at + 1 + length v) l at x (omega arith) in
    let place : at + 1 + length v ≡ at + suc (length v) = omega arith in
    rw (front, rest, place) (append_assoc (take at l) (x ∷ []) (v ++ drop (at + suc (length v)) l))

-- The first N cells of row k's room, as code takes them.
abbrev pub cells_taken : Rows → ℕ → ℕ → List ℕ
cells_taken x p k = take ((p * 8 + k) * 8 + x.n - (p * 8 + k) * 8) (drop ((p * 8 + k) * 8) x.cells)

module _ (x : Rows) (fits : InRoom x) (few : x.n ≤ 8) (p : ℕ) (lp : p < x.n) where
  module _ (k : ℕ) (lk : k < x.n) where
    row_bytes_lem : row_passed x p k ≡ get_or x.lengths (p * 8 + k) 0 ∷ cells_taken x p k
    unfolding row_passed part
    row_bytes_lem = rw (add-sub_cancel_left ((p * 8 + k) * 8) x.n, take-take x.n most (drop ((p * most + k) * most) x.cells) few)

    -- One row more of the slice.
    pub row_next : {old l : List ℕ} → Front 0 (row_size x.n) k (row_passed x p) old l → length old ≡ 72 → (after : List ℕ)
        → after ≡ written (k * (x.n + 1) + 1) (cells_taken x p k) (set l (k * (x.n + 1)) (get_or x.lengths (p * 8 + k) 0))
        → Front 0 (row_size x.n) (k + 1) (row_passed x p) old after
    row_next {old} {l} so long after e =
        let ends : k * row_size x.n + row_size x.n ≤ x.n * row_size x.n = room (row_size x.n) lk in
        let small = (sizes x.n few).slice in
        front_next so (k * (x.n + 1)) (get_or x.lengths (p * 8 + k) 0 ∷ cells_taken x p k) after
        (e ∙ written_cons (k * (x.n + 1)) (get_or x.lengths (p * 8 + k) 0) (cells_taken x p k) l (omega (arith, so.long)))
        (omega arith)
        (ap length (sym row_bytes_lem) ∙ passed_long x fits few p k lp lk)
        (omega arith)
        (sym row_bytes_lem)

  -- One slice more of the record.
  pub slice_next : {old l : List ℕ} → Front 4 (slice_size x.n) p (λ q. join x.n (row_passed x q)) old l → length old ≡ record_size x.n
      → (v after : List ℕ) → v ≡ join x.n (row_passed x p) → after ≡ written (4 + p * slice_size x.n) v l
      → Front 4 (slice_size x.n) (p + 1) (λ q. join x.n (row_passed x q)) old after
  slice_next so long v after same e =
      let ends : p * slice_size x.n + slice_size x.n ≤ x.n * slice_size x.n = room (slice_size x.n) lp in
      front_next so (4 + p * slice_size x.n) v after e refl (ap length same ∙ slices_long x fits few p lp) (omega arith) same

-- All slices are written behind the header.
pub record_end : (x : Rows) (p : ℕ) (old l before : List ℕ) → Front 4 (slice_size x.n) p (λ q. join x.n (row_passed x q)) old l → p ≡ x.n
    → length old ≡ record_size x.n → old ≡ written 0 (header_bytes x.n x.own (λ p k. [])) before → l ≡ record_passed x
unfolding record_passed header_bytes written
record_end x p old l before so e long header =
    front_end so (rw e long) ∙ ap₂ ◌++◌ (ap (take 4) header) (ap (λ (m : ℕ). join m (λ q. join x.n (row_passed x q))) e)
