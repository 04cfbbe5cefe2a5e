-- Rows in the room that they are passed in: what is given of a record's rows, row by row, and the record that rows passed would be
-- written as. Assumes of rows passed that they come in their room of 64 lengths and 512 cells.
use Rattle.std.specs.Prelude.{◌≡◌, ◌⊎◌, true, false, ℕ, ◌+◌, ◌*◌, ◌-◌, ◌≤◌, ◌<◌, get_or, take, drop, ltb}
use Rattle.std.proofs.Math.Path.{refl, ap, ap₂}
use Rattle.std.proofs.Common.{sym, ◌∙◌, inl, inr, length-append, take_at, drop_at, lt-ltb, le-ltb}
use mathlib.Core.List.{List, ◌∷◌, ◌++◌}
use native.Mathlib.Omega.{arith}
use Rattle.std.proofs.Math.ListN.{length, replicate}
use Rattle.std.proofs.lemmas.List.{length-replicate, replicate-append-replicate}
use Rattle.std.proofs.Math.Seq.{take-append-add, drop-append-add, length-take-le}
use Rattle.parts.specs.Parts.{part, join, length-part, length-join, join_same, part-join}
use Rattle.model.specs.Tests.{head}
use Rattle.model.specs.Steps.{Record}
use Rattle.model.specs.Bytes.{row_size, slice_size, record_size, unused, row_bytes, slice_bytes, header_bytes, record_bytes, own_in, slice_in}
use Rattle.model.specs.Calls.{most, is_within, length_given, cells_given, over_room, rows_given, row_passed, record_passed}
use Rattle.model.specs.declared.Rows.{Rows}
use Rattle.facts.specs.Cases.{by_lt, →both, →unless, cond_true}
use Rattle.facts.specs.Joined.{part_nested, part_one}
use Rattle.laws.specs.Layout.{RecordFits}

-- ---- Rows given, row by row

pub within : (n p k : ℕ) → p < n → k < n → is_within n p k ≡ true
unfolding is_within
within n p k h l = →both (lt-ltb p n h) (lt-ltb k n l)

pub beyond : (n p k : ℕ) → (n ≤ p) ⊎ (n ≤ k) → is_within n p k ≡ false
unfolding is_within
beyond n p k (inl h) = →unless (ltb p n) (ltb k n) (inl (le-ltb p n h))
beyond n p k (inr h) = →unless (ltb p n) (ltb k n) (inr (le-ltb k n h))

-- FF filled up from length m to n, and to the room's end.
take_blank : (n m : ℕ) (l : List ℕ) → length l ≤ n → n ≤ m → take n (l ++ replicate (m - length l) unused) ≡ l ++ replicate (n - length l) unused
take_blank n m l h u =
    let at : n ≡ length l + (n - length l) = omega arith in
    let whole : m - length l ≡ (n - length l) + (m - n) = omega arith in
    ap (λ (i : ℕ). take i (l ++ replicate (m - length l) unused)) at
    ∙ take-append-add l (replicate (m - length l) unused) (n - length l)
    ∙ ap (λ (r : List ℕ). l ++ r)
    (ap (λ (i : ℕ). take (n - length l) (replicate i unused)) whole
    ∙ ap (take (n - length l)) (sym (replicate-append-replicate (n - length l) (m - n) unused))
    ∙ take_at (replicate (n - length l) unused) (replicate (m - n) unused) (n - length l) (length-replicate (n - length l) unused))

pub drop_blank : (n m : ℕ) (l : List ℕ) → length l ≤ n → n ≤ m → drop n (l ++ replicate (m - length l) unused) ≡ replicate (m - n) unused
drop_blank n m l h u =
    let at : n ≡ length l + (n - length l) = omega arith in
    let whole : m - length l ≡ (n - length l) + (m - n) = omega arith in
    ap (λ (i : ℕ). drop i (l ++ replicate (m - length l) unused)) at
    ∙ drop-append-add l (replicate (m - length l) unused) (n - length l)
    ∙ ap (λ (i : ℕ). drop (n - length l) (replicate i unused)) whole
    ∙ ap (drop (n - length l)) (sym (replicate-append-replicate (n - length l) (m - n) unused))
    ∙ drop_at (replicate (n - length l) unused) (replicate (m - n) unused) (n - length l) (length-replicate (n - length l) unused)

module _ (n own : ℕ) (r : Record) (small : n ≤ most) (f : RecordFits n r) where
  cells_long : (p k : ℕ) → p < most → k < most → length (cells_given n r p k) ≡ most
  unfolding cells_given
  cells_long p k h l =
      by_lt p n
      (λ hp. by_lt k n
      (λ hk. let b : length (r p k) ≤ n = f p hp k hk in rw (within n p k hp hk) (simp (length-append, length-replicate) (omega arith)))
      (λ hk. rw (beyond n p k (inr hk))))
      (λ hp. rw (beyond n p k (inl hp)))

  -- The length of row k of slice p, and its cells.
  pub given-cells : (p k : ℕ) → p < most → k < most → part most (p * most + k) (rows_given n own r).cells ≡ cells_given n r p k
  unfolding rows_given over_room
  given-cells p k h l = part_nested most most most (cells_given n r) cells_long p k h l

  pub given-length : (p k : ℕ) → p < most → k < most → get_or (rows_given n own r).lengths (p * most + k) 0 ≡ head (length_given n r p k)
  unfolding rows_given over_room length_given
  given-length p k h l =
      ap head (sym (part_one (p * most + k) (join most (λ p. join most (length_given n r p))) 0 (rw total (omega arith)))
      ∙ part_nested 1 most most (length_given n r) one p k h l)
    where
      one : (p k : ℕ) → p < most → k < most → length (length_given n r p k) ≡ 1
      one p k h l = refl

      total : length (join most (λ p. join most (length_given n r p))) ≡ 64
      total = length-join 8 most (λ p. join most (length_given n r p)) (λ p h. length-join 1 most (length_given n r p) (λ k l. one p k h l))

  -- Passed on to writing they are the row's bytes.
  pub given-passed : (p k : ℕ) → p < n → k < n → row_passed (rows_given n own r) p k ≡ row_bytes n (r p k)
  unfolding row_passed row_bytes length_given cells_given rows_given
  given-passed p k h l =
      let hp : p < most = omega arith in
      let hk : k < most = omega arith in
      let b : length (r p k) ≤ n = f p h k l in
      ap₂ (λ (m : ℕ) (x : List ℕ). m ∷ x)
      (given-length p k hp hk ∙ cond_true (length (r p k)) 0 (within n p k h l))
      (ap (take n) (given-cells p k hp hk ∙ cond_true (r p k ++ replicate (most - length (r p k)) unused) (replicate most unused) (within n p k h l))
      ∙ take_blank n most (r p k) b small)

  pub given_record : record_passed (rows_given n own r) ≡ record_bytes n own r
  unfolding record_passed record_bytes header_bytes slice_bytes rows_given
  given_record =
      ap (λ (x : List ℕ). header_bytes n own r ++ x)
      (join_same n (λ p. join n (row_passed (rows_given n own r) p)) (λ p. join n (λ k. row_bytes n (r p k)))
      (λ p h. join_same n (row_passed (rows_given n own r) p) (λ k. row_bytes n (r p k)) (λ k l. given-passed p k h l)))

-- ---- Rows passed

-- The room that rows are passed in.
pub record InRoom (x : Rows) : Type 0 where
  pub lengths : length x.lengths ≡ most * most
  pub cells : length x.cells ≡ most * (most * most)

module _ (x : Rows) (i : InRoom x) (small : x.n ≤ most) where
  pub passed_long : (p k : ℕ) → p < x.n → k < x.n → length (row_passed x p k) ≡ row_size x.n
  unfolding row_passed
  passed_long p k h l =
      let at : (p * most + k) * most + most ≤ length x.cells = omega (arith, i.cells) in
      let e : length (part most (p * most + k) x.cells) ≡ most = length-part most (p * most + k) x.cells at in
      let f : length (take x.n (part most (p * most + k) x.cells)) ≡ x.n = length-take-le x.n (part most (p * most + k) x.cells) (omega arith) in
      omega arith

  pub slices_long : (p : ℕ) → p < x.n → length (join x.n (row_passed x p)) ≡ slice_size x.n
  slices_long p h = length-join (row_size x.n) x.n (row_passed x p) (λ k l. passed_long p k h l)

  -- The record that would be written has the right size, number and own number, and row k of slice p is the row passed.
  pub passed_size : length (record_passed x) ≡ record_size x.n
  unfolding record_passed header_bytes
  passed_size = omega (arith, length-join (slice_size x.n) x.n (λ p. join x.n (row_passed x p)) slices_long)

  pub passed_row : (p k : ℕ) → p < x.n → k < x.n → part (row_size x.n) k (slice_in x.n (record_passed x) p) ≡ row_passed x p k
  unfolding record_passed header_bytes slice_in
  passed_row p k h l =
      ap (part (row_size x.n) k) (part-join (slice_size x.n) x.n (λ p. join x.n (row_passed x p)) slices_long p h)
      ∙ part-join (row_size x.n) x.n (row_passed x p) (λ k l. passed_long p k h l) k l

pub passed-own : (x : Rows) → own_in (record_passed x) ≡ x.own
unfolding own_in record_passed header_bytes
passed-own x = refl
