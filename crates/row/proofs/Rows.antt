-- A row as bytes: how code writes it, step by step, and the front of a row of 8 cells. Assumes nothing.
use mathlib.Core.Path.{◌≡◌, refl, ap, ◌∙◌}
use mathlib.Core.List.{List, [], ◌∷◌, ◌++◌, append-nil}
use Prim.Native.Nat.{ℕ, ◌+◌, ◌-◌, ◌<◌, ◌≤◌}
use native.Mathlib.Numerals.{add-one}
use native.Mathlib.Omega.{arith}
use lib.ListN.{length, take, drop, set, replicate, length-set, length-take, length-drop, drop_of_length-le}
use lib.Seq.{take-append-add}
use Rattle.std.proofs.lemmas.List.{take-replicate}
use borrow.Rule.Slice.PartMut.{put_mid}
use Rattle.parts.specs.Written.{written, length-written, take-written}
use Rattle.model.specs.Bytes.{unused, row_bytes}

-- ---- The three steps of writing

-- The first byte set.
first : (l : List ℕ) (x : ℕ) → 0 < length l → take 1 (set l 0 x) ≡ x ∷ []
first [] x h = absurd (omega arith)
first (y ∷ l) x h = refl

-- The length in d's first byte, the symbols behind it, which gives t, and then v, which is FF, in every other cell.
pub row_written : (n : ℕ) (d l t v : List ℕ) → length d ≡ n + 1 → length l ≤ n → t ≡ written 1 l (set d 0 (length l))
    → v ≡ replicate (length (take (length t - (1 + length l)) (drop (1 + length l) t))) unused
    → put_mid (1 + length l) (length t - (1 + length l)) t v ≡ row_bytes n l
unfolding row_bytes
row_written n d l t v long fits e f =
    let d' : List ℕ = set d 0 (length l) in
    let room : 1 + length l ≤ length d' = rw length-set (omega arith) in
    let whole : length t ≡ n + 1 = rw (e, length-written 1 l d' room, length-set) long in
    let cells : length (take (length t - (1 + length l)) (drop (1 + length l) t)) ≡ n - length l = simp (length-take, length-drop) (omega arith) in
    let none : drop (length t - (1 + length l)) (drop (1 + length l) t) ≡ [] = drop_of_length-le (drop (1 + length l) t) (rw length-drop (omega arith)) in
    let start : take (1 + length l) t ≡ length l ∷ l = rw (e, take-written 1 l d' room, first d (length l) (omega arith)) in
    rw (none, start, f, cells, append-nil)

-- ---- The front of a row of 8 cells

-- The first n cells of a row of 8 are the row of n cells.
pub row_take : (n : ℕ) (l : List ℕ) → length l ≤ n → n ≤ 8 → take (n + 1) (row_bytes 8 l) ≡ row_bytes n l
unfolding row_bytes
row_take n l h k =
    let front : n ≡ length l + (n - length l) = omega arith in
    let blanks : List ℕ = replicate (8 - length l) unused in
    rw (add-one n)
    (ap (λ (q : List ℕ). length l ∷ q)
    (ap (λ (q : ℕ). take q (l ++ blanks)) front
    ∙ take-append-add l blanks (n - length l)
    ∙ ap (λ (q : List ℕ). l ++ q) (take-replicate (n - length l) (8 - length l) unused (omega arith))))
