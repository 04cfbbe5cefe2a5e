-- Lengths of what is written and of the parts that are read; rows written as bytes and read again are those rows; bytes whose parts
-- are written rows are the bytes of the rows read. Assumes nothing of well-formedness: only that rows are no longer than N.
use Rattle.std.specs.Prelude.{◌≡◌, refl, true, List, [], ◌∷◌, ◌++◌, ℕ, ◌*◌, ◌-◌, ◌≤◌, ◌<◌, length, get_or, take, drop, replicate}
use Rattle.std.proofs.Common.{sym, ap, ap₂, ◌∙◌, inl, inr, zero-mul, arith, length-append, length-drop, take-append-drop, get_or-take}
use Rattle.std.proofs.lemmas.List.{length-replicate}
use Rattle.std.proofs.Math.Seq.{take-append_seam}
use Rattle.parts.specs.Parts.{room, part, length-part, length-join, join_same, join_whole, part-join}
use Rattle.model.specs.Steps.{Slice, Record, Table}
use Rattle.model.specs.Bytes.{header_size, row_size, slice_size, record_size, table_size, unused, row_bytes, slice_bytes, header_bytes, record_bytes, table_bytes, marked, copies_in, own_in, symbols_in, row_in_slice, slice_in, record_rows, record_in, table_rows}
use Rattle.facts.specs.Members.{In}

-- Rows below N are no longer than N.
abbrev pub SliceFits : ℕ → Slice → Type 0
SliceFits n s = (k : ℕ) → k < n → length (s k) ≤ n

abbrev pub RecordFits : ℕ → Record → Type 0
RecordFits n r = (p : ℕ) → p < n → SliceFits n (r p)

abbrev pub TableFits : ℕ → Table → Type 0
TableFits n t = (c : ℕ) → c < n → RecordFits n (t c)

-- ---- Lengths of what is written

pub length_row : (n : ℕ) (l : List ℕ) → length l ≤ n → length (row_bytes n l) ≡ row_size n
unfolding row_bytes
length_row n l h = simp (length-append, length-replicate) (omega arith)

pub length-slice_bytes : (n : ℕ) (s : Slice) → SliceFits n s → length (slice_bytes n s) ≡ slice_size n
unfolding slice_bytes
length-slice_bytes n s f = length-join (row_size n) n (λ k. row_bytes n (s k)) (λ k h. length_row n (s k) (f k h))

pub length-record_bytes : (n own : ℕ) (r : Record) → RecordFits n r → length (record_bytes n own r) ≡ record_size n
unfolding record_bytes header_bytes
length-record_bytes n own r f =
    omega (arith, length-join (slice_size n) n (λ p. slice_bytes n (r p)) (λ p h. length-slice_bytes n (r p) (f p h)))

pub length-table_bytes : (n : ℕ) (t : Table) → TableFits n t → length (table_bytes n t) ≡ table_size n
unfolding table_bytes
length-table_bytes n t f = length-join (record_size n) n (λ c. record_bytes n c (t c)) (λ c h. length-record_bytes n c (t c) (f c h))

-- ---- Lengths of the parts that are read

pub length-record_in : (n : ℕ) (t : List ℕ) (c : ℕ) → length t ≡ table_size n → c < n → length (record_in n t c) ≡ record_size n
unfolding record_in
length-record_in n t c e h = length-part (record_size n) c t (rw e (room (record_size n) h))

pub length-slice_in : (n : ℕ) (r : List ℕ) (p : ℕ) → length r ≡ record_size n → p < n → length (slice_in n r p) ≡ slice_size n
unfolding slice_in
length-slice_in n r p e h =
    length-part (slice_size n) p (drop header_size r) (omega (arith, length-drop header_size r, room (slice_size n) h))

pub length-row_in_slice : (n : ℕ) (s : List ℕ) (k : ℕ) → length s ≡ slice_size n → k < n → length (part (row_size n) k s) ≡ row_size n
length-row_in_slice n s k e h = length-part (row_size n) k s (rw e (room (row_size n) h))

-- ---- Rows written and read again

pub row_back : (n : ℕ) (l : List ℕ) → symbols_in (row_bytes n l) ≡ l
unfolding symbols_in row_bytes
row_back n l = take-append_seam l (replicate (n - length l) unused)

pub part_back : (n : ℕ) (s : Slice) (k : ℕ) → SliceFits n s → k < n → part (row_size n) k (slice_bytes n s) ≡ row_bytes n (s k)
unfolding slice_bytes
part_back n s k f h = part-join (row_size n) n (λ k. row_bytes n (s k)) (λ k h. length_row n (s k) (f k h)) k h

pub row_in_slice_back : (n : ℕ) (s : Slice) (k : ℕ) → SliceFits n s → k < n → row_in_slice n (slice_bytes n s) k ≡ s k
unfolding row_in_slice
row_in_slice_back n s k f h = ap symbols_in (part_back n s k f h) ∙ row_back n (s k)

pub slice_in_back : (n own : ℕ) (r : Record) (p : ℕ) → RecordFits n r → p < n → slice_in n (record_bytes n own r) p ≡ slice_bytes n (r p)
unfolding slice_in record_bytes header_bytes
slice_in_back n own r p f h =
    part-join (slice_size n) n (λ p. slice_bytes n (r p)) (λ p h. length-slice_bytes n (r p) (f p h)) p h

pub record_rows_back : (n own : ℕ) (r : Record) (p k : ℕ) → RecordFits n r → p < n → k < n → record_rows n (record_bytes n own r) p k ≡ r p k
unfolding record_rows
record_rows_back n own r p k f h l = ap (λ (s : List ℕ). row_in_slice n s k) (slice_in_back n own r p f h) ∙ row_in_slice_back n (r p) k (f p h) l

pub record_in_back : (n : ℕ) (t : Table) (c : ℕ) → TableFits n t → c < n → record_in n (table_bytes n t) c ≡ record_bytes n c (t c)
unfolding record_in table_bytes
record_in_back n t c f h = part-join (record_size n) n (λ c. record_bytes n c (t c)) (λ c h. length-record_bytes n c (t c) (f c h)) c h

pub table_rows_back : (n : ℕ) (t : Table) (c p k : ℕ) → TableFits n t → c < n → p < n → k < n → table_rows n (table_bytes n t) c p k ≡ t c p k
unfolding table_rows
table_rows_back n t c p k f h l m =
    ap (λ (r : List ℕ). record_rows n r p k) (record_in_back n t c f h) ∙ record_rows_back n c (t c) p k (f c h) l m

-- ---- The header

pub marked_back : (n own : ℕ) (r : Record) → marked (record_bytes n own r) ≡ true
unfolding marked record_bytes header_bytes
marked_back n own r = refl

pub copies_in_back : (n own : ℕ) (r : Record) → copies_in (record_bytes n own r) ≡ n
unfolding copies_in record_bytes header_bytes
copies_in_back n own r = refl

pub own_in_back : (n own : ℕ) (r : Record) → own_in (record_bytes n own r) ≡ own
unfolding own_in record_bytes header_bytes
own_in_back n own r = refl

-- The first bytes of a table are those of its first record.
first_byte : (n : ℕ) (t : List ℕ) (i : ℕ) → i < 4 → get_or (record_in n t 0) i 0 ≡ get_or t i 0
unfolding record_in part
first_byte n t i h =
    let b : i < record_size n = omega arith in
    get_or-take (record_size n) (drop (0 * record_size n) t) i 0 b ∙ ap (λ (m : ℕ). get_or (drop m t) i 0) (zero-mul (record_size n))

pub copies_in_first : (n : ℕ) (t : List ℕ) → copies_in (record_in n t 0) ≡ copies_in t
unfolding copies_in
copies_in_first n t = first_byte n t 2 (omega arith)

pub marked_first : (n : ℕ) (t : List ℕ) → marked (record_in n t 0) ≡ marked t
unfolding marked
marked_first n t = rw (first_byte n t 0 (omega arith), first_byte n t 1 (omega arith))

pub copies_in_table : (n : ℕ) (t : Table) → 0 < n → TableFits n t → copies_in (table_bytes n t) ≡ n
copies_in_table n t h f = sym (copies_in_first n (table_bytes n t)) ∙ ap copies_in (record_in_back n t 0 f h) ∙ copies_in_back n 0 (t 0)

-- ---- What is written depends on the rows below N only

pub slice_bytes_same : (n : ℕ) (s s' : Slice) → ((k : ℕ) → k < n → s k ≡ s' k) → slice_bytes n s ≡ slice_bytes n s'
unfolding slice_bytes
slice_bytes_same n s s' e = join_same n (λ k. row_bytes n (s k)) (λ k. row_bytes n (s' k)) (λ k h. ap (row_bytes n) (e k h))

pub record_bytes_same : (n own : ℕ) (r r' : Record) → ((p k : ℕ) → p < n → k < n → r p k ≡ r' p k) → record_bytes n own r ≡ record_bytes n own r'
unfolding record_bytes header_bytes
record_bytes_same n own r r' e =
    ap (λ (x : List ℕ). header_bytes n own r ++ x)
    (join_same n (λ p. slice_bytes n (r p)) (λ p. slice_bytes n (r' p)) (λ p h. slice_bytes_same n (r p) (r' p) (λ k l. e p k h l)))

pub table_bytes_same : (n : ℕ) (t t' : Table) → ((c p k : ℕ) → c < n → p < n → k < n → t c p k ≡ t' c p k) → table_bytes n t ≡ table_bytes n t'
unfolding table_bytes
table_bytes_same n t t' e =
    join_same n (λ c. record_bytes n c (t c)) (λ c. record_bytes n c (t' c)) (λ c h. record_bytes_same n c (t c) (t' c) (λ p k l m. e c p k h l m))

-- ---- Bytes read and written again

-- A list of one symbol only.
pub replicated : (v : ℕ) (l : List ℕ) → ((x : ℕ) → In x l → x ≡ v) → l ≡ replicate (length l) v
replicated v [] e = refl
replicated v (x ∷ l) e = ap₂ (λ (y : ℕ) (r : List ℕ). y ∷ r) (e x (inl refl)) (replicated v l (λ y i. e y (inr i)))

pub slice_bytes_whole : (n : ℕ) (s : List ℕ) → length s ≡ slice_size n
    → ((k : ℕ) → k < n → part (row_size n) k s ≡ row_bytes n (row_in_slice n s k)) → slice_bytes n (row_in_slice n s) ≡ s
unfolding slice_bytes
slice_bytes_whole n s e f =
    join_same n (λ k. row_bytes n (row_in_slice n s k)) (λ k. part (row_size n) k s) (λ k h. sym (f k h)) ∙ join_whole (row_size n) n s e

pub record_bytes_whole : (n : ℕ) (r : List ℕ) → length r ≡ record_size n → take header_size r ≡ header_bytes n (own_in r) (record_rows n r)
    → ((p : ℕ) → p < n → slice_bytes n (row_in_slice n (slice_in n r p)) ≡ slice_in n r p) → record_bytes n (own_in r) (record_rows n r) ≡ r
unfolding record_bytes record_rows slice_in
record_bytes_whole n r e h f =
    ap₂ ◌++◌ (sym h)
    (join_same n (λ p. slice_bytes n (row_in_slice n (slice_in n r p))) (λ p. part (slice_size n) p (drop header_size r)) f
    ∙ join_whole (slice_size n) n (drop header_size r) (omega (arith, length-drop header_size r)))
    ∙ take-append-drop header_size r

pub table_bytes_whole : (n : ℕ) (t : List ℕ) → length t ≡ table_size n
    → ((c : ℕ) → c < n → record_bytes n c (table_rows n t c) ≡ record_in n t c) → table_bytes n (table_rows n t) ≡ t
unfolding table_bytes record_in
table_bytes_whole n t e f =
    join_same n (λ c. record_bytes n c (table_rows n t c)) (λ c. part (record_size n) c t) f ∙ join_whole (record_size n) n t e
