-- The three demands of document 01, proved. Each is a record with a field for each sentence, about the outcome definitions of the calls
-- (`.._says` is the answer, `.._leaves` every lent byte afterwards; crate model, Calls). That every outcome which a function's own promise
-- allows is that one stands in CallContracts. The proofs are imported: nothing here has to be read but the statements. Demand 2 is proved
-- in proofs/Demands. Assumes nothing.
use Rattle.std.specs.Prelude.{◌≡◌, ◌⊎◌, ◌↔◌, false, List, [], map, ℕ, ◌+◌, ◌*◌, ◌-◌, ◌/◌, ◌%◌, ◌^◌, ◌≤◌, ◌<◌, length, get_or, take, drop, replicate, eqb}
use Rattle.std.specs.Int.Count.{ones}
use Rattle.parts.specs.Parts.{part}
use Rattle.model.specs.Tests.{head, is_in, count}
use Rattle.model.specs.Steps.{updated_table, comparison, met_record, met_table, is_superfluous, mask_of}
use Rattle.model.specs.Answers.{Said, refused, done, ordered, listed, number_of_order}
use Rattle.model.specs.Bytes.{header_size, record_size, table_size, unused, record_bytes, table_bytes, copies_in, own_in, slice_in, record_rows, record_in, table_rows}
use Rattle.model.specs.Calls.{fresh_says, fresh_leaves, check_says, update_says, update_leaves, meet_says, meet_leaves, compare_says, lend_says, lend_gives, lend_place, superfluous_says, check_record_says, meet_records_says, meet_records_leaves_first, meet_records_leaves_second, compare_records_says, most, blank_rows, read_says, read_gives, write_says, write_leaves}
use Rattle.model.specs.Vectors.{vector_order}
use Rattle.model.specs.History.{Call, call_says, call_leaves, run_bytes}
use Rattle.model.specs.declared.Rows.{Rows}
use Rattle.facts.specs.Members.{In}
use Rattle.laws.specs.WellFormed.{WellRecord, WellTable}
use Rattle.laws.specs.Reasons.{Ground, First, NoGround}
use Rattle.laws.specs.Grounds.{SomeUnrelated}
use Rattle.laws.specs.Refusals.{lend_refused, read_refused}
use Rattle.laws.specs.Given.{InRoom}
use Rattle.demands.specs.Asked.{Asked, Roomy, says_of, own_of, lent_to, left_by, numbers_of, rows_of}
use Rattle.demands.specs.Obeyed.{call_ruled, call_numbers, call_leaves_lem}
use Rattle.demands.specs.Listing.{EqualOrNewer}
use Rattle.demands.specs.Counted.{Valid, by_numbers, accepted_of, table_after, answers_of, vectors_of, refused_uncounted}
use Rattle.demands.specs.Histories.{start_done, stays_well, answers, valid_done, compares, checks, updates, meets, lends, lists, unseen}

-- ---- Demand 1

-- Of one call: its refusal numbers in its order, the rows of the refusal table behind them, what it says, its own answer, and the
-- buffers lent to it, before and after.
pub record Obeys (numbers : List ℕ) (rows : List Ground) (says own : Said) (lent left : List (List ℕ)) : Type 0 where
  -- 'It answers, or refuses by a number from document 01's table': one of this call's list.
  pub answers_or_refuses : (says ≡ own) ⊎ ((k : ℕ) × In k numbers × (says ≡ refused k))
  -- 'Given exactly when': refusal k exactly when row k holds and no earlier one in this call's order does.
  pub refuses : (k : ℕ) → (says ≡ refused k) ↔ First rows k
  -- It answers exactly when no row holds.
  pub answers : (says ≡ own) ↔ NoGround rows
  -- 'and a refusal changes no lent byte.'
  pub leaves : (k : ℕ) → says ≡ refused k → left ≡ lent

pub record Demand1 : Type 0 where
  -- 'Every call takes any bytes and numbers.'
  pub every_call : (q : Asked) → Roomy q → Obeys (numbers_of q) (rows_of q) (says_of q) (own_of q) (lent_to q) (left_by q)
  -- 'A refused lending has the empty part', at the table's start;
  pub no_part : (t : List ℕ) (i k : ℕ) → lend_says t i ≡ refused k → (lend_gives t i ≡ []) × (lend_place t i ≡ 0)
  -- and a refused reading counts as the blank: it answers the refusal alone.
  pub no_rows : (r : List ℕ) (k : ℕ) → read_says r ≡ refused k → read_gives r ≡ blank_rows

pub demand_1 : Demand1
demand_1 =
    record {
      every_call = λ q i. record {
        answers_or_refuses = rw (call_numbers q) at (call_ruled q i).nothing_else;
        refuses = (call_ruled q i).refuses;
        answers = (call_ruled q i).answers;
        leaves = call_leaves_lem q i;
      };
      no_part = lend_refused;
      no_rows = read_refused;
    }

-- ---- Demand 2: what the calls do on a well-formed table t of n copies

-- Update of copy p, p below N.
pub record Updated (n : ℕ) (t : List ℕ) (p : ℕ) : Type 0 where
  pub says : update_says t p ≡ done
  -- 'exactly what the published bounded-stamp model says': the step on the rows read, written,
  pub bytes : update_leaves t p ≡ table_bytes n (updated_table n p (table_rows n t))
  -- so that these rows are read there again;
  pub rows : (c q k : ℕ) → c < n → q < n → k < n → table_rows n (update_leaves t p) c q k ≡ updated_table n p (table_rows n t) c q k
  pub well : WellTable n (update_leaves t p)
  -- 'Only slice p of record p changes': other records keep every byte, and of record p the header and every other slice.
  pub others : (c : ℕ) → c < n → (c ≡ p → ⊥) → record_in n (update_leaves t p) c ≡ record_in n t c
  pub header : take header_size (record_in n (update_leaves t p) p) ≡ take header_size (record_in n t p)
  pub slices : (q : ℕ) → q < n → (q ≡ p → ⊥) → slice_in n (record_in n (update_leaves t p) p) q ≡ slice_in n (record_in n t p) q

-- Meeting of copies a and b, two different ones below N with no unrelated slice.
pub record Met (n : ℕ) (t : List ℕ) (a b : ℕ) : Type 0 where
  pub says : meet_says t a b ≡ done
  pub bytes : meet_leaves t a b ≡ table_bytes n (met_table n a b (table_rows n t))
  pub rows : (c q k : ℕ) → c < n → q < n → k < n → table_rows n (meet_leaves t a b) c q k ≡ met_table n a b (table_rows n t) c q k
  pub well : WellTable n (meet_leaves t a b)
  -- 'other records keep every byte.'
  pub others : (c : ℕ) → c < n → (c ≡ a → ⊥) → (c ≡ b → ⊥) → record_in n (meet_leaves t a b) c ≡ record_in n t c
  pub header : (c : ℕ) → c < n → take header_size (record_in n (meet_leaves t a b) c) ≡ take header_size (record_in n t c)

-- 'the answer of update, meeting and comparison, and the named records' bytes after it, depend only on N, the numbers given and the
-- named records': t and u are well-formed tables of the same N, and may differ in every other record. Refusals too.
pub record Depends (n : ℕ) (t u : List ℕ) : Type 0 where
  pub update-says : (p : ℕ) → update_says t p ≡ update_says u p
  pub update-bytes : (p : ℕ) → record_in n t p ≡ record_in n u p → record_in n (update_leaves t p) p ≡ record_in n (update_leaves u p) p
  pub meet-says : (a b : ℕ) → record_in n t a ≡ record_in n u a → record_in n t b ≡ record_in n u b → meet_says t a b ≡ meet_says u a b
  pub meet-bytes : (a b : ℕ) → record_in n t a ≡ record_in n u a → record_in n t b ≡ record_in n u b
      → (record_in n (meet_leaves t a b) a ≡ record_in n (meet_leaves u a b) a) × (record_in n (meet_leaves t a b) b ≡ record_in n (meet_leaves u a b) b)
  pub compare-says : (a b : ℕ) → record_in n t a ≡ record_in n u a → record_in n t b ≡ record_in n u b → compare_says t a b ≡ compare_says u a b

-- 'the list of superfluous copies follows from the comparisons by its rule.'
pub record Listing (n : ℕ) (t : List ℕ) : Type 0 where
  -- 'Any pair that compares as refusal 7 refuses the whole call', and nothing else does.
  pub refuses : (superfluous_says t ≡ refused 7) ↔ ((i : ℕ) × (j : ℕ) × (i < n) × (j < n) × (compare_says t i j ≡ refused 7))
  pub answers : ((i j : ℕ) → i < n → j < n → compare_says t i j ≡ refused 7 → ⊥) → (mask : ℕ) × (c : ℕ) × (superfluous_says t ≡ listed mask c)
  -- Bit i of the mask: 'some other copy compares equal to it or newer than it.'
  pub bit : (mask c : ℕ) → superfluous_says t ≡ listed mask c
      → (i : ℕ) → i < n → (mask / 2 ^ i % 2 ≡ 1) ↔ ((j : ℕ) × (j < n) × (j ≡ i → ⊥) × EqualOrNewer t j i)
  -- No bit stands above those of the copies.
  pub below : (mask c : ℕ) → superfluous_says t ≡ listed mask c → mask < 2 ^ n
  -- 'its count is the number of ones in the mask', which is that of the copies whose bit is set.
  pub count_ones : (mask c : ℕ) → superfluous_says t ≡ listed mask c → c ≡ ones mask
  pub count_copies : (mask c : ℕ) → superfluous_says t ≡ listed mask c → c ≡ count n (λ i. eqb (mask / 2 ^ i % 2) 1)

-- Meeting of two well-formed loose records of one N, with different own numbers and no unrelated slice.
pub record MetLoose (n : ℕ) (a b : List ℕ) : Type 0 where
  pub says : meet_records_says a b ≡ done
  pub first : meet_records_leaves_first a b ≡ record_bytes n (own_in a) (met_record n (own_in a) (own_in b) (record_rows n a) (record_rows n b) (record_rows n a) (record_rows n b))
  pub second : meet_records_leaves_second a b ≡ record_bytes n (own_in b) (met_record n (own_in a) (own_in b) (record_rows n a) (record_rows n b) (record_rows n b) (record_rows n a))
  pub well : WellRecord n (meet_records_leaves_first a b) × WellRecord n (meet_records_leaves_second a b)
  pub owns : (own_in (meet_records_leaves_first a b) ≡ own_in a) × (own_in (meet_records_leaves_second a b) ≡ own_in b)

-- 'Rows written and read again are those rows': x written into b with the answer 'done', and y read from it.
pub record SameRows (x y : Rows) : Type 0 where
  pub copies : y.n ≡ x.n
  pub own : y.own ≡ x.own
  -- Row k of slice p, both below N: its length and its N cells.
  pub lengths : (p k : ℕ) → p < x.n → k < x.n → get_or y.lengths (p * most + k) 0 ≡ get_or x.lengths (p * most + k) 0
  pub cells : (p k : ℕ) → p < x.n → k < x.n → take x.n (part most (p * most + k) y.cells) ≡ take x.n (part most (p * most + k) x.cells)
  -- 'Room beyond N's slices, rows and cells is no part of the rows: .. reading puts length 0 and FF there.'
  pub beyond : (p k : ℕ) → p < most → k < most → (x.n ≤ p) ⊎ (x.n ≤ k)
      → (get_or y.lengths (p * most + k) 0 ≡ 0) × (part most (p * most + k) y.cells ≡ replicate most unused)
  pub beyond_cells : (p k : ℕ) → p < x.n → k < x.n → drop x.n (part most (p * most + k) y.cells) ≡ replicate (most - x.n) unused

pub record Demand2 : Type 0 where
  -- 'On every well-formed table': check says which tables and records these are.
  pub check : (t : List ℕ) → (check_says t ≡ done) ↔ WellTable (copies_in t) t
  pub check_record : (r : List ℕ) → (check_record_says r ≡ done) ↔ WellRecord (copies_in r) r
  -- 'update, meeting and comparison .. do exactly what the published bounded-stamp model says'
  pub update : {n : ℕ} {t : List ℕ} → WellTable n t → (p : ℕ) → p < n → Updated n t p
  pub meet : {n : ℕ} {t : List ℕ} → WellTable n t → (a b : ℕ) → a < n → b < n → (a ≡ b → ⊥)
      → (SomeUnrelated n a b (table_rows n t a) (table_rows n t b) → ⊥) → Met n t a b
  pub meet-unrelated : {n : ℕ} {t : List ℕ} → WellTable n t → (a b : ℕ) → a < n → b < n → (a ≡ b → ⊥)
      → SomeUnrelated n a b (table_rows n t a) (table_rows n t b) → meet_says t a b ≡ refused 7
  pub compare : {n : ℕ} {t : List ℕ} → WellTable n t → (a b : ℕ) → a < n → b < n
      → (SomeUnrelated n a b (table_rows n t a) (table_rows n t b) → ⊥)
      → compare_says t a b ≡ ordered (number_of_order (comparison n a b (table_rows n t a) (table_rows n t b)))
  pub compare-unrelated : {n : ℕ} {t : List ℕ} → WellTable n t → (a b : ℕ) → a < n → b < n
      → SomeUnrelated n a b (table_rows n t a) (table_rows n t b) → compare_says t a b ≡ refused 7
  pub compare_itself : {n : ℕ} {t : List ℕ} → WellTable n t → (a : ℕ) → a < n → compare_says t a a ≡ ordered 0
  -- Whatever an update or a meeting answers, the table stays well formed.
  pub kept : {n : ℕ} {t : List ℕ} → WellTable n t → (c : Call) → WellTable n (call_leaves t c)
  pub depends : {n : ℕ} {t u : List ℕ} → WellTable n t → WellTable n u → Depends n t u
  -- 'record i as a part of the caller's table, those bytes in that place'
  pub lend : {n : ℕ} {t : List ℕ} → WellTable n t → (i : ℕ) → i < n
      → (lend_says t i ≡ done) × (lend_gives t i ≡ record_in n t i) × (lend_place t i ≡ i * record_size n)
  pub list : {n : ℕ} {t : List ℕ} → WellTable n t → Listing n t
  -- '(and meeting and comparison of two well-formed loose records)'
  pub meet_loose : {n : ℕ} {a b : List ℕ} → WellRecord n a → WellRecord n b → (own_in a ≡ own_in b → ⊥)
      → (SomeUnrelated n (own_in a) (own_in b) (record_rows n a) (record_rows n b) → ⊥) → MetLoose n a b
  pub compare_loose : {n : ℕ} {a b : List ℕ} → WellRecord n a → WellRecord n b → (own_in a ≡ own_in b → ⊥)
      → (SomeUnrelated n (own_in a) (own_in b) (record_rows n a) (record_rows n b) → ⊥)
      → compare_records_says a b ≡ ordered (number_of_order (comparison n (own_in a) (own_in b) (record_rows n a) (record_rows n b)))
  pub unrelated_loose : {n : ℕ} {a b : List ℕ} → WellRecord n a → WellRecord n b → (own_in a ≡ own_in b → ⊥)
      → SomeUnrelated n (own_in a) (own_in b) (record_rows n a) (record_rows n b)
      → (meet_records_says a b ≡ refused 7) × (compare_records_says a b ≡ refused 7)
  -- 'Rows written and read again are those rows'
  pub write_read : (b : List ℕ) (x : Rows) → InRoom x → write_says b x ≡ done
      → (read_says (write_leaves b x) ≡ done) × SameRows x (read_gives (write_leaves b x))
  -- 'a well-formed record read and written again is those bytes', in any buffer of its length.
  pub read_written : {n : ℕ} {r : List ℕ} → WellRecord n r → (b : List ℕ) → length b ≡ record_size n
      → (write_says b (read_gives r) ≡ done) × (write_leaves b (read_gives r) ≡ r)

-- ---- Demand 3: a fresh table of n copies made in the buffer b, and then the calls of l, with numbers of any size

pub record Demand3 (n : ℕ) (b : List ℕ) (l : List Call) : Type 0 where
  -- 'From a fresh table of N copies'
  pub fresh : fresh_says b n ≡ done
  -- 'after any finite list of updates and meetings': each is answered by its numbers alone, done or refused 5 or 6,
  pub answers : answers_of n b l ≡ map (by_numbers n) l
  -- so that a call is accepted exactly when its numbers are valid.
  pub accepts : (c : Call) → (call_says (table_after n b l) c ≡ done) ↔ Valid n c
  -- '(refused calls count for nothing)': the accepted ones alone leave the same table.
  pub refused_nothing : (run_bytes (fresh_leaves b n) (accepted_of l (answers_of n b l))).table ≡ table_after n b l
  -- 'comparing any two copies gives what version vectors of unbounded whole numbers give after the same accepted calls.'
  pub compares : (i j : ℕ) → i < n → j < n → compare_says (table_after n b l) i j ≡ ordered (number_of_order (vector_order n (vectors_of n b l) i j))
  -- 'No check, update, meeting, comparison, lending or list with valid numbers (two different ones for a meeting) is refused.'
  pub checks : check_says (table_after n b l) ≡ done
  pub updates : (p : ℕ) → p < n → update_says (table_after n b l) p ≡ done
  pub meets : (i j : ℕ) → i < n → j < n → (i ≡ j → ⊥) → meet_says (table_after n b l) i j ≡ done
  pub lends : (i : ℕ) → i < n → lend_says (table_after n b l) i ≡ done
  -- The list is that of the vectors' comparisons.
  pub lists :
      let mask : ℕ = mask_of n (is_superfluous n (vector_order n (vectors_of n b l))) in
      superfluous_says (table_after n b l) ≡ listed mask (ones mask)
  -- 'No update hands out a symbol that stood just before it in any copy's principal row of that slice': the head that then stands in
  -- row p of slice p of record p.
  pub unseen : (p c : ℕ) → p < n → c < n
      → is_in (head (table_rows n (update_leaves (table_after n b l) p) p p p)) (table_rows n (table_after n b l) c p c) ≡ false
  pub well : WellTable n (table_after n b l)

pub demand_3 : (n : ℕ) → 2 ≤ n → n ≤ 8 → (b : List ℕ) → length b ≡ table_size n → (l : List Call) → Demand3 n b l
demand_3 n low high b room l =
    record {
      fresh = start_done n low high b room;
      answers = answers n low high b room l;
      accepts = valid_done n low high b room l;
      refused_nothing = refused_uncounted l (fresh_leaves b n);
      compares = compares n low high b room l;
      checks = checks n low high b room l;
      updates = updates n low high b room l;
      meets = meets n low high b room l;
      lends = lends n low high b room l;
      lists = lists n low high b room l;
      unseen = unseen n low high b room l;
      well = stays_well n low high b room l;
    }
