-- Well-formed bytes and formed rows are the same thing: the rows read from well-formed bytes are formed, formed rows are written as
-- well-formed bytes, and well-formed bytes read and written again are those bytes. (Rows written and read again: Layout.)
-- Assumes nothing.
use Rattle.std.specs.Prelude.{◌≡◌, ℕ, suc, ◌+◌, ◌-◌, ◌≤◌, ◌<◌, drop, replicate}
use Rattle.std.proofs.Common.{sym, ◌∙◌, take-append-drop, drop-cons, get_or-drop, get_or-append-add}
use Rattle.std.proofs.Math.Path.{ap}
use mathlib.Core.List.{List, [], ◌∷◌, ◌++◌}
use native.Mathlib.Omega.{arith}
use Rattle.std.proofs.Math.ListN.{length, get_or, take, length-drop}
use Rattle.std.proofs.lemmas.List.{get_or-replicate}
use Rattle.std.proofs.Math.Seq.{length-take-le}
use Rattle.parts.specs.Parts.{part}
use Rattle.model.specs.Steps.{Slice, Record, Table}
use Rattle.model.specs.Bytes.{header_size, row_size, slice_size, record_size, unused, row_bytes, slice_bytes, header_bytes, record_bytes, table_bytes, copies_in, own_in, symbols_in, row_in_slice, slice_in, record_rows, record_in, table_rows}
use Rattle.facts.specs.Members.{In, at_in}
use Rattle.laws.specs.Formed.{FormedRow, FormedSlice, FormedRecord, FormedTable, formed_slice_same}
use Rattle.laws.specs.Layout.{SliceFits, RecordFits, TableFits, length-record_bytes, length-table_bytes, length-slice_in, length-row_in_slice, row_back, part_back, row_in_slice_back, slice_in_back, record_in_back, marked_back, copies_in_back, own_in_back, replicated, slice_bytes_whole, record_bytes_whole, table_bytes_whole}
use Rattle.laws.specs.WellFormed.{Marked, WellRow, WellSlice, WellRecord, WellTable, marked→}

-- ---- Formed rows fit

pub slice_fits : {n own : ℕ} {s : Slice} → FormedSlice n own s → SliceFits n s
slice_fits f k h = (f.row k h).fits

pub record_fits : {n own : ℕ} {r : Record} → FormedRecord n own r → RecordFits n r
record_fits f p h = slice_fits (f.slice p h)

pub table_fits : {n : ℕ} {t : Table} → FormedTable n t → TableFits n t
table_fits f c h = record_fits (f.copy c h)

-- ---- One row: the key fact

module _ (n : ℕ) (b : List ℕ) (wide : length b ≡ row_size n) (w : WellRow n b) where
  pub symbols_length : length (symbols_in b) ≡ get_or b 0 0
  unfolding symbols_in
  symbols_length = length-take-le (get_or b 0 0) (drop 1 b) (rw length-drop (omega (arith, w.fits)))

  rest_length : length (drop (get_or b 0 0) (drop 1 b)) ≡ n - get_or b 0 0
  rest_length = simp length-drop (omega arith)

  rest_blank : drop (get_or b 0 0) (drop 1 b) ≡ replicate (n - get_or b 0 0) unused
  rest_blank =
      replicated unused (drop (get_or b 0 0) (drop 1 b)) each
      ∙ ap (λ (m : ℕ). replicate m unused) rest_length
    where
      each : (x : ℕ) → In x (drop (get_or b 0 0) (drop 1 b)) → x ≡ unused
      each x i =
          let q = at_in x (drop (get_or b 0 0) (drop 1 b)) i in
          let h : q.0 < n - get_or b 0 0 = rw rest_length at q.1 in
          let v : get_or b (1 + (get_or b 0 0 + q.0)) 0 ≡ unused = w.blank (get_or b 0 0 + q.0) (omega arith) (omega arith) in
          sym q.2
          ∙ get_or-drop (get_or b 0 0) (drop 1 b) q.0 0
          ∙ get_or-drop 1 b (get_or b 0 0 + q.0) 0
          ∙ v

  -- A well-formed row in bytes is its symbols written.
  pub row_form : b ≡ row_bytes n (symbols_in b)
  unfolding row_bytes symbols_in
  row_form =
      let l : length (take (get_or b 0 0) (drop 1 b)) ≡ get_or b 0 0 = symbols_length in
      let some : 0 < length b = omega arith in
      rw l
      (drop-cons b 0 0 some
      ∙ ap (λ (r : List ℕ). get_or b 0 0 ∷ r)
      (sym (take-append-drop (get_or b 0 0) (drop 1 b)) ∙ ap (λ (r : List ℕ). take (get_or b 0 0) (drop 1 b) ++ r) rest_blank))

  -- Its symbols are a formed row.
  pub row_formed : FormedRow n (symbols_in b)
  row_formed = record { filled = rw symbols_length w.filled; fits = rw symbols_length w.fits; below = w.below; differ = w.differ }

-- A formed row is written as a well-formed one.
pub →well_row : (n : ℕ) (l : List ℕ) → FormedRow n l → WellRow n (row_bytes n l)
unfolding row_bytes
→well_row n l f =
    record {
      filled = f.filled;
      fits = f.fits;
      below = rw (row_back n l) f.below;
      differ = rw (row_back n l) f.differ;
      blank = blank;
    }
  where
    blank : (i : ℕ) → length l ≤ i → i < n → get_or (length l ∷ l ++ replicate (n - length l) unused) (1 + i) 0 ≡ unused
    blank i h u =
        let at : 1 + i ≡ suc (length l + (i - length l)) = omega arith in
        let v : i - length l < n - length l = omega arith in
        rw at (get_or-append-add l (replicate (n - length l) unused) (i - length l) 0 ∙ get_or-replicate (n - length l) (i - length l) unused 0 v)

-- ---- Slices

module _ (n own : ℕ) (s : List ℕ) (wide : length s ≡ slice_size n) (w : WellSlice n own s) where
  pub slice_form : slice_bytes n (row_in_slice n s) ≡ s
  unfolding row_in_slice
  slice_form =
      slice_bytes_whole n s wide (λ k h. row_form n (part (row_size n) k s) (length-row_in_slice n s k wide h) (w.row k h))

  pub slice_formed : FormedSlice n own (row_in_slice n s)
  unfolding row_in_slice
  slice_formed =
      record {
        row = λ k h. row_formed n (part (row_size n) k s) (length-row_in_slice n s k wide h) (w.row k h);
        principal = w.principal;
      }

pub →well_slice : (n own : ℕ) (s : Slice) → own < n → FormedSlice n own s → WellSlice n own (slice_bytes n s)
→well_slice n own s h f =
    record {
      row = λ k l. rw (part_back n s k (slice_fits f) l) (→well_row n (s k) (f.row k l));
      principal = (formed_slice_same h (λ k l. sym (row_in_slice_back n s k (slice_fits f) l)) f).principal;
    }

-- ---- Records

module _ (n : ℕ) (r : List ℕ) (w : WellRecord n r) where
  header_form : take header_size r ≡ header_bytes n (own_in r) (record_rows n r)
  unfolding header_bytes copies_in own_in
  header_form = at r w.mark w.copies w.size
    where
      at : (r : List ℕ) → Marked r → copies_in r ≡ n → length r ≡ record_size n → take 4 r ≡ 0xB5 ∷ 0x0A ∷ n ∷ get_or r 3 0 ∷ []
      at [] m c e = absurd (omega arith)
      at (x ∷ []) m c e = absurd (omega arith)
      at (x ∷ y ∷ []) m c e = absurd (omega arith)
      at (x ∷ y ∷ z ∷ []) m c e = absurd (omega arith)
      at (x ∷ y ∷ z ∷ o ∷ l) m c e = rw (m.0, m.1, c)

  -- A well-formed record read and written again is those bytes.
  pub record_form : record_bytes n (own_in r) (record_rows n r) ≡ r
  record_form =
      record_bytes_whole n r w.size header_form
      (λ p h. slice_form n (own_in r) (slice_in n r p) (length-slice_in n r p w.size h) (w.slice p h))

  -- Its rows are formed.
  pub record_formed : FormedRecord n (own_in r) (record_rows n r)
  unfolding record_rows
  record_formed = record { slice = λ p h. slice_formed n (own_in r) (slice_in n r p) (length-slice_in n r p w.size h) (w.slice p h) }

-- Formed rows are written as a well-formed record.
pub →well_record : (n own : ℕ) (r : Record) → 2 ≤ n → n ≤ 8 → own < n → FormedRecord n own r → WellRecord n (record_bytes n own r)
→well_record n own r low high h f =
    record {
      mark = marked→ (record_bytes n own r) (marked_back n own r);
      copies = copies_in_back n own r;
      least = low;
      most = high;
      size = length-record_bytes n own r (record_fits f);
      own = rw (own_in_back n own r) h;
      slice = λ p l. rw (own_in_back n own r, slice_in_back n own r p (record_fits f) l) (→well_slice n own (r p) h (f.slice p l));
    }

-- ---- Tables

module _ (n : ℕ) (t : List ℕ) (w : WellTable n t) where
  -- Each record of a well-formed table is its rows written, with its number.
  pub copy_form : (c : ℕ) → c < n → record_bytes n c (table_rows n t c) ≡ record_in n t c
  unfolding table_rows
  copy_form c h = rw (w.own c h) at (record_form n (record_in n t c) (w.copy c h))

  pub table_form : table_bytes n (table_rows n t) ≡ t
  table_form = table_bytes_whole n t w.size copy_form

  pub table_formed : FormedTable n (table_rows n t)
  unfolding table_rows
  table_formed = record { copy = λ c h. rw (w.own c h) at (record_formed n (record_in n t c) (w.copy c h)) }

pub →well_table : (n : ℕ) (t : Table) → 2 ≤ n → n ≤ 8 → FormedTable n t → WellTable n (table_bytes n t)
→well_table n t low high f =
    record {
      least = low;
      most = high;
      size = length-table_bytes n t (table_fits f);
      copy = λ c h. rw (record_in_back n t c (table_fits f) h) (→well_record n c (t c) low high h (f.copy c h));
      own = λ c h. rw (record_in_back n t c (table_fits f) h) (own_in_back n c (t c));
    }
