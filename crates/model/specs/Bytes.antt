-- Document 01's 'Record and table': the layout, the sizes, rows read from bytes and written as bytes, and well-formedness as a test
-- that computes. Everything is total on any bytes. Assumes nothing.
use Rattle.std.specs.Prelude.{Bool, ◌&&◌, List, [], ◌∷◌, ◌++◌, ℕ, ◌+◌, ◌*◌, ◌-◌, length, get_or, take, drop, replicate, eqb, ltb, leb}
use Rattle.parts.specs.Parts.{part, join}
use Rattle.model.specs.Tests.{any, all, head, is_in, every, different}
use Rattle.model.specs.Steps.{Slice, Record, Table}

-- ---- Sizes

-- The mark, one byte N, one byte own number.
abbrev pub header_size : ℕ
header_size = 4

-- A row is one length byte and N cells.
abbrev pub row_size : ℕ → ℕ
row_size n = n + 1

-- A slice has N rows.
abbrev pub slice_size : ℕ → ℕ
slice_size n = n * row_size n

-- A record is its header and N slices: 4 + N²(N+1).
abbrev pub record_size : ℕ → ℕ
record_size n = header_size + n * slice_size n

-- A table is N records.
abbrev pub table_size : ℕ → ℕ
table_size n = n * record_size n

-- ---- Writing

-- What stands in an unused cell: FF.
abbrev pub unused : ℕ
unused = 0xFF

-- The length, the symbols, FF in every other cell.
unfoldable pub row_bytes : ℕ → List ℕ → List ℕ
row_bytes n row = length row ∷ row ++ replicate (n - length row) unused

unfoldable pub slice_bytes : ℕ → Slice → List ℕ
slice_bytes n s = join n (λ k. row_bytes n (s k))

-- The mark B5 0A, N, the own number. The rows have no say in it.
unfoldable pub header_bytes : ℕ → ℕ → Record → List ℕ
header_bytes n own r = 0xB5 ∷ 0x0A ∷ n ∷ own ∷ []

-- The header, then slices 0 to N−1.
unfoldable pub record_bytes : ℕ → ℕ → Record → List ℕ
record_bytes n own r = header_bytes n own r ++ join n (λ p. slice_bytes n (r p))

-- Records 0 to N−1 in order.
unfoldable pub table_bytes : ℕ → Table → List ℕ
table_bytes n t = join n (λ c. record_bytes n c (t c))

-- ---- Reading

-- The first two bytes are the mark.
unfoldable pub marked : List ℕ → Bool
marked b = eqb (get_or b 0 0) 0xB5 && eqb (get_or b 1 0) 0x0A

-- The byte N of a record; of a table, that of its first record.
unfoldable pub copies_in : List ℕ → ℕ
copies_in b = get_or b 2 0

-- The own number.
unfoldable pub own_in : List ℕ → ℕ
own_in b = get_or b 3 0

-- The symbols of a row: as many cells as its length byte says.
unfoldable pub symbols_in : List ℕ → List ℕ
symbols_in row = take (get_or row 0 0) (drop 1 row)

-- Row k of a slice.
unfoldable pub row_in_slice : ℕ → List ℕ → Slice
row_in_slice n s k = symbols_in (part (row_size n) k s)

-- Slice p of a record.
unfoldable pub slice_in : ℕ → List ℕ → ℕ → List ℕ
slice_in n r p = part (slice_size n) p (drop header_size r)

-- The rows of a record.
unfoldable pub record_rows : ℕ → List ℕ → Record
record_rows n r p = row_in_slice n (slice_in n r p)

-- Record c of a table.
unfoldable pub record_in : ℕ → List ℕ → ℕ → List ℕ
record_in n t c = part (record_size n) c t

-- The rows of a table.
unfoldable pub table_rows : ℕ → List ℕ → Table
table_rows n t c = record_rows n (record_in n t c)

-- ---- Well formed

-- N is 2 to 8.
unfoldable pub is_in_range : ℕ → Bool
is_in_range n = leb 2 n && leb n 8

-- A row has length 1 to N.
unfoldable pub length_is_formed : ℕ → ℕ → Bool
length_is_formed n m = leb 1 m && leb m n

-- Its symbols are in range and all different.
unfoldable pub symbols_are_formed : ℕ → List ℕ → Bool
symbols_are_formed n row = every (λ x. ltb x (n * n)) row && different row

-- The principal row's symbols are exactly the set of the heads of all rows of the slice.
unfoldable pub principal_is_formed : ℕ → ℕ → Slice → Bool
principal_is_formed n own s =
    every (λ x. any n (λ k. eqb (head (s k)) x)) (s own)
    && all n (λ k. is_in (head (s k)) (s own))

-- A row in bytes: its length byte, its symbols, FF in the unused cells.
unfoldable pub row_is_formed : ℕ → List ℕ → Bool
row_is_formed n row =
    length_is_formed n (get_or row 0 0)
    && (symbols_are_formed n (symbols_in row) && every (λ x. eqb x unused) (drop (1 + get_or row 0 0) row))

-- A slice in bytes: every row, then the principal row.
unfoldable pub slice_is_formed : ℕ → ℕ → List ℕ → Bool
slice_is_formed n own s = all n (λ k. row_is_formed n (part (row_size n) k s)) && principal_is_formed n own (row_in_slice n s)

-- The header: mark and N are right, the own number is below N.
unfoldable pub header_is_formed : ℕ → List ℕ → Bool
header_is_formed n r = marked r && (eqb (copies_in r) n && ltb (own_in r) n)

-- A record of the right size is well formed: its header, then slice by slice.
unfoldable pub record_is_formed : ℕ → List ℕ → Bool
record_is_formed n r = header_is_formed n r && all n (λ p. slice_is_formed n (own_in r) (slice_in n r p))

-- A table of the right size is well formed when each record is, all have the same N, and record i has own number i.
unfoldable pub table_is_formed : ℕ → List ℕ → Bool
table_is_formed n t = all n (λ c. eqb (own_in (record_in n t c)) c && record_is_formed n (record_in n t c))

-- The same of rows that stand in no bytes: each row, each slice with its principal row, each record.
unfoldable pub formed_row : ℕ → List ℕ → Bool
formed_row n row = length_is_formed n (length row) && symbols_are_formed n row

unfoldable pub formed_slice : ℕ → ℕ → Slice → Bool
formed_slice n own s = all n (λ k. formed_row n (s k)) && principal_is_formed n own s

unfoldable pub formed_record : ℕ → ℕ → Record → Bool
formed_record n own r = all n (λ p. formed_slice n own (r p))

unfoldable pub formed_table : ℕ → Table → Bool
formed_table n t = all n (λ c. formed_record n c (t c))
