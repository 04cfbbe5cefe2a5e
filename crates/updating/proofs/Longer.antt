-- A row of 8 cells whose cells are moved by one, with a symbol in front: its length grows by one. Assumes nothing.
use Rattle.std.proofs.Common.{◌≡◌, refl, ap, List, [], ◌∷◌, ◌++◌, ℕ, suc, ◌+◌, ◌-◌, ◌≤◌, ◌<◌, length, get_or, take, drop, replicate, slice_set, arith, add-one, length-append}
use Rattle.std.proofs.lemmas.List.{append-nil, drop_all, length-replicate}
use Rattle.std.specs.List.{copy_within}
use Rattle.model.specs.Bytes.{unused, row_bytes}
use Rattle.row.proofs.Rows.{row_take}

-- The first 7 cells of a row of 8.
cells : (l : List ℕ) → length l < 8 → take 7 (drop 1 (row_bytes 8 l)) ≡ l ++ replicate (7 - length l) unused
unfolding row_bytes
cells l h = ap (drop 1) (row_take 7 l (omega arith) (omega arith))

moved : (x : ℕ) (l : List ℕ) → length l < 8
    → slice_set (slice_set (copy_within (row_bytes 8 l) 1 8 2) 0 (get_or (copy_within (row_bytes 8 l) 1 8 2) 0 0 + 1)) 1 x ≡ row_bytes 8 (x ∷ l)
unfolding row_bytes
moved x [] h = refl
moved x (y ∷ l) h =
    let q : List ℕ = l ++ replicate (8 - suc (length l)) unused in
    let long : length q ≤ 7 = simp (length-append, length-replicate) (omega arith) in
    let fewer : 8 - suc (suc (length l)) ≡ 7 - suc (length l) = omega arith in
    rw (drop_all 7 q long, append-nil (take 6 q), add-one, fewer) (ap (λ (z : List ℕ). suc (suc (length l)) ∷ x ∷ z) (cells (y ∷ l) h))

pub longer : (x : ℕ) (row l : List ℕ) → row ≡ row_bytes 8 l → get_or row 0 0 < 8
    → slice_set (slice_set (copy_within row 1 8 2) 0 (get_or (copy_within row 1 8 2) 0 0 + 1)) 1 x ≡ row_bytes 8 (x ∷ l)
unfolding row_bytes
longer x row l form less =
    let many : get_or row 0 0 ≡ length l = ap (λ (q : List ℕ). get_or q 0 0) form in
    rw form (moved x l (omega arith))
