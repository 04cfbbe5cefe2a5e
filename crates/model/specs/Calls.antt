-- The calls of document 01 on bytes. For each call: its reasons to refuse, in document 01's order; `..Says`, the answer; `..Leaves`,
-- every lent byte afterwards. All are total on any bytes and any numbers. A step is: read the rows, take the step, write the rows.
-- Assumes nothing.
use Rattle.std.specs.Prelude.{Bool, not, ◌&&◌, ◌||◌, cond, List, [], ◌∷◌, ◌++◌, ℕ, ◌+◌, ◌*◌, ◌-◌, length, get_or, take, replicate, eqb, ltb, leb}
use Rattle.std.specs.Int.Count.{ones}
use Rattle.parts.specs.Parts.{part, join}
use Rattle.model.specs.Tests.{any_pair}
use Rattle.model.specs.Steps.{Record, fresh_rows, updated_table, unrelated, comparison, met_record, met_table, is_superfluous, mask_of}
use Rattle.model.specs.Answers.{Said, done, ordered, listed, Reason, refuse, answer, leave, number_of_order}
use Rattle.model.specs.Bytes.{record_size, table_size, unused, header_bytes, record_bytes, table_bytes, marked, copies_in, own_in, symbols_in, record_rows, record_in, table_rows, is_in_range, record_is_formed, table_is_formed}
use Rattle.model.specs.declared.Order.{Order}
use Rattle.model.specs.declared.Rows.{Rows}

-- ---- Refusals 1 to 4

-- 1: fewer than 4 bytes, or the first two bytes aren't the mark. 2: N not 2 to 8. 3: length not exactly the size for this N.
-- 4: lengths right, but not well formed.
unfoldable pub form_reasons : List ℕ → ℕ → Bool → List Reason
form_reasons b size formed =
    refuse (ltb (length b) 4 || not (marked b)) 1
    ∷ refuse (not (is_in_range (copies_in b))) 2
    ∷ refuse (not (eqb (length b) size)) 3
    ∷ refuse (not formed) 4
    ∷ []

-- 1 to 4 of a record.
unfoldable pub record_reasons : List ℕ → List Reason
record_reasons r = form_reasons r (record_size (copies_in r)) (record_is_formed (copies_in r) r)

-- 1 to 4 of the whole table.
unfoldable pub table_reasons : List ℕ → List Reason
table_reasons t = form_reasons t (table_size (copies_in t)) (table_is_formed (copies_in t) t)

-- ---- Fresh: 2, then 3; it ignores the old bytes

unfoldable pub fresh_reasons : List ℕ → ℕ → List Reason
fresh_reasons t n = refuse (not (is_in_range n)) 2 ∷ refuse (not (eqb (length t) (table_size n))) 3 ∷ []

unfoldable pub fresh_says : List ℕ → ℕ → Said
fresh_says t n = answer (fresh_reasons t n) done

unfoldable pub fresh_leaves : List ℕ → ℕ → List ℕ
fresh_leaves t n = leave (fresh_reasons t n) t (table_bytes n fresh_rows)

-- ---- Check of a table

unfoldable pub check_says : List ℕ → Said
check_says t = answer (table_reasons t) done

-- ---- Update of copy p: 1 to 4, then 5

unfoldable pub update_reasons : List ℕ → ℕ → List Reason
update_reasons t p = table_reasons t ++ (refuse (leb (copies_in t) p) 5 ∷ [])

unfoldable pub update_says : List ℕ → ℕ → Said
update_says t p = answer (update_reasons t p) done

unfoldable pub update_leaves : List ℕ → ℕ → List ℕ
update_leaves t p = leave (update_reasons t p) t (table_bytes (copies_in t) (updated_table (copies_in t) p (table_rows (copies_in t) t)))

-- ---- Meeting of copies a and b: 1 to 4, then 5, 6, 7

-- An unrelated slice between copies a and b of the table.
unfoldable pub unrelated_copies : List ℕ → ℕ → ℕ → Bool
unrelated_copies t a b = unrelated (copies_in t) a b (table_rows (copies_in t) t a) (table_rows (copies_in t) t b)

unfoldable pub meet_reasons : List ℕ → ℕ → ℕ → List Reason
meet_reasons t a b =
    table_reasons t
    ++ (refuse (leb (copies_in t) a || leb (copies_in t) b) 5 ∷ refuse (eqb a b) 6 ∷ refuse (unrelated_copies t a b) 7 ∷ [])

unfoldable pub meet_says : List ℕ → ℕ → ℕ → Said
meet_says t a b = answer (meet_reasons t a b) done

unfoldable pub meet_leaves : List ℕ → ℕ → ℕ → List ℕ
meet_leaves t a b = leave (meet_reasons t a b) t (table_bytes (copies_in t) (met_table (copies_in t) a b (table_rows (copies_in t) t)))

-- ---- Comparison of copies a and b: 1 to 4, then 5, 7

-- The order of copy a against copy b of the table.
unfoldable pub copy_order : List ℕ → ℕ → ℕ → Order
copy_order t a b = comparison (copies_in t) a b (table_rows (copies_in t) t a) (table_rows (copies_in t) t b)

unfoldable pub compare_reasons : List ℕ → ℕ → ℕ → List Reason
compare_reasons t a b =
    table_reasons t ++ (refuse (leb (copies_in t) a || leb (copies_in t) b) 5 ∷ refuse (unrelated_copies t a b) 7 ∷ [])

unfoldable pub compare_says : List ℕ → ℕ → ℕ → Said
compare_says t a b = answer (compare_reasons t a b) (ordered (number_of_order (copy_order t a b)))

-- ---- Lending record i: 1 to 4, then 5

unfoldable pub lend_reasons : List ℕ → ℕ → List Reason
lend_reasons t i = table_reasons t ++ (refuse (leb (copies_in t) i) 5 ∷ [])

unfoldable pub lend_says : List ℕ → ℕ → Said
lend_says t i = answer (lend_reasons t i) done

-- The part that is handed out: record i, those bytes; the empty part where it is refused.
unfoldable pub lend_gives : List ℕ → ℕ → List ℕ
lend_gives t i = leave (lend_reasons t i) [] (record_in (copies_in t) t i)

-- The place in the table where that part starts.
unfoldable pub lend_place : List ℕ → ℕ → ℕ
lend_place t i = leave (lend_reasons t i) 0 (i * record_size (copies_in t))

-- ---- Superfluous copies: 1 to 4, then 7 of any pair

unfoldable pub superfluous_reasons : List ℕ → List Reason
superfluous_reasons t = table_reasons t ++ (refuse (any_pair (copies_in t) (unrelated_copies t)) 7 ∷ [])

-- The mask of the superfluous copies.
unfoldable pub superfluous_mask_of : List ℕ → ℕ
superfluous_mask_of t = mask_of (copies_in t) (is_superfluous (copies_in t) (copy_order t))

-- The mask, and the number of ones in it.
unfoldable pub superfluous_says : List ℕ → Said
superfluous_says t = answer (superfluous_reasons t) (listed (superfluous_mask_of t) (ones (superfluous_mask_of t)))

-- ---- One loose record, and two

unfoldable pub check_record_says : List ℕ → Said
check_record_says r = answer (record_reasons r) done

-- 1 to 4 of the first, 1 to 4 of the second, then 8, 6, 7.
unfoldable pub pair_reasons : List ℕ → List ℕ → List Reason
pair_reasons a b =
    record_reasons a
    ++ (record_reasons b
    ++ (refuse (not (eqb (copies_in a) (copies_in b))) 8
    ∷ refuse (eqb (own_in a) (own_in b)) 6
    ∷ refuse (unrelated (copies_in a) (own_in a) (own_in b) (record_rows (copies_in a) a) (record_rows (copies_in a) b)) 7
    ∷ []))

unfoldable pub meet_records_says : List ℕ → List ℕ → Said
meet_records_says a b = answer (pair_reasons a b) done

-- The first record afterwards, and the second.
unfoldable pub meet_records_leaves_first : List ℕ → List ℕ → List ℕ
meet_records_leaves_first a b =
    let n : ℕ = copies_in a in
    let x : Record = record_rows n a in
    let y : Record = record_rows n b in
    leave (pair_reasons a b) a (record_bytes n (own_in a) (met_record n (own_in a) (own_in b) x y x y))

unfoldable pub meet_records_leaves_second : List ℕ → List ℕ → List ℕ
meet_records_leaves_second a b =
    let n : ℕ = copies_in a in
    let x : Record = record_rows n a in
    let y : Record = record_rows n b in
    leave (pair_reasons a b) b (record_bytes n (own_in b) (met_record n (own_in a) (own_in b) x y y x))

unfoldable pub compare_records_says : List ℕ → List ℕ → Said
compare_records_says a b =
    answer (pair_reasons a b)
    (ordered (number_of_order (comparison (copies_in a) (own_in a) (own_in b) (record_rows (copies_in a) a) (record_rows (copies_in a) b))))

-- ---- Rows of a loose record: reading, 1 to 4

-- The room that rows are passed in: 8 slices of 8 rows of 8 cells.
abbrev pub most : ℕ
most = 8

-- Slice p and row k are part of the rows.
unfoldable pub is_within : ℕ → ℕ → ℕ → Bool
is_within n p k = ltb p n && ltb k n

-- Length of row k of slice p, 0 beyond N; its symbols, FF in the places past the length and beyond N.
unfoldable pub length_given : ℕ → Record → ℕ → ℕ → List ℕ
length_given n r p k = cond (is_within n p k) (length (r p k)) 0 ∷ []

unfoldable pub cells_given : ℕ → Record → ℕ → ℕ → List ℕ
cells_given n r p k = cond (is_within n p k) (r p k ++ replicate (most - length (r p k)) unused) (replicate most unused)

-- Every slice and row of the room, one behind another.
unfoldable pub over_room : (ℕ → ℕ → List ℕ) → List ℕ
over_room f = join most (λ p. join most (f p))

unfoldable pub rows_given : ℕ → ℕ → Record → Rows
rows_given n own r = record { n = n; own = own; lengths = over_room (length_given n r); cells = over_room (cells_given n r) }

-- Beside a refusal stands a blank: N 0, own number 0, lengths 0, cells FF.
unfoldable pub blank_rows : Rows
blank_rows = rows_given 0 0 (λ p k. [])

unfoldable pub read_says : List ℕ → Said
read_says r = answer (record_reasons r) done

unfoldable pub read_gives : List ℕ → Rows
read_gives r = leave (record_reasons r) blank_rows (rows_given (copies_in r) (own_in r) (record_rows (copies_in r) r))

-- ---- Writing rows: 2, 3 for the buffer, then 4 if the record would not be well formed; it ignores the old bytes

-- Row k of slice p as it is passed: its length, and the first N cells of its room.
unfoldable pub row_passed : Rows → ℕ → ℕ → List ℕ
row_passed x p k = get_or x.lengths (p * most + k) 0 ∷ take x.n (part most (p * most + k) x.cells)

-- The record that would be written.
unfoldable pub record_passed : Rows → List ℕ
record_passed x =
    header_bytes x.n x.own (λ p k. symbols_in (row_passed x p k))
    ++ join x.n (λ p. join x.n (row_passed x p))

unfoldable pub write_reasons : List ℕ → Rows → List Reason
write_reasons r x =
    refuse (not (is_in_range x.n)) 2
    ∷ refuse (not (eqb (length r) (record_size x.n))) 3
    ∷ refuse (not (record_is_formed x.n (record_passed x))) 4
    ∷ []

unfoldable pub write_says : List ℕ → Rows → Said
write_says r x = answer (write_reasons r x) done

unfoldable pub write_leaves : List ℕ → Rows → List ℕ
write_leaves r x = leave (write_reasons r x) r (record_passed x)
