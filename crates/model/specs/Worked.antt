-- How a worked case is written: what is seen on the bench beside what is wanted, tables made from fresh by calls, and forged tables
-- built by the writing definition. The definitions here compute through all of the model's. Assumes nothing.
use Rattle.std.specs.Prelude.{cond, ◌&&◌, List, [], ◌∷◌, ℕ, get_or, replicate, eqb}
use Rattle.std.specs.Int.Count.{ones, ones_in}
use Rattle.parts.specs.Parts.{part, join}
use Rattle.model.specs.Tests.{any, all, count, any_pair, least, is_in, every, different, keep, earlier}
use Rattle.model.specs.Steps.{Table, fresh_rows, in_use, new_symbol, head_of_other, updated_row, updated_slice, updated_record, updated_table, slice_answer_of, answer_at_slice, unrelated, comparison, b_is_winner, winning_row, new_head_of, is_named, new_heads_of, cut_row_of, cached_row_of, met_row, met_record, met_table, is_superfluous, mask_of}
use Rattle.model.specs.Answers.{Said, answer, accepted, leave}
use Rattle.model.specs.Bytes.{table_size, row_bytes, slice_bytes, header_bytes, record_bytes, table_bytes, marked, copies_in, own_in, symbols_in, row_in_slice, slice_in, record_rows, record_in, table_rows, is_in_range, length_is_formed, symbols_are_formed, row_is_formed, principal_is_formed, slice_is_formed, header_is_formed, record_is_formed, table_is_formed}
use Rattle.model.specs.Calls.{form_reasons, record_reasons, table_reasons, fresh_reasons, fresh_leaves, check_says, update_reasons, update_says, update_leaves, unrelated_copies, meet_reasons, meet_says, meet_leaves, copy_order, compare_reasons, compare_says, superfluous_reasons, superfluous_mask_of, superfluous_says, check_record_says, pair_reasons, compare_records_says}
use Rattle.model.specs.History.{Call, call_says, call_leaves, Run, run_bytes}

-- What is seen: bytes, the rows of a slice (head first), what a call answered.
pub data Seen : Type 0 where
  bytes : List ℕ → Seen
  rows : List (List ℕ) → Seen
  said : Said → Seen

-- A fresh table of n copies, made in a buffer of zeros.
unfoldable pub fresh : ℕ → List ℕ
unfolding part join fresh_rows row_bytes slice_bytes header_bytes record_bytes table_bytes is_in_range accepted leave fresh_reasons fresh_leaves
fresh n = fresh_leaves (replicate (table_size n) 0) n

-- A fresh table of n copies, and then the calls.
unfoldable pub history : ℕ → List Call → Run
unfolding fresh any all count any_pair least is_in every different keep earlier in_use new_symbol head_of_other updated_row updated_slice updated_record updated_table slice_answer_of answer_at_slice unrelated comparison b_is_winner winning_row new_head_of is_named new_heads_of cut_row_of cached_row_of met_row met_record met_table answer marked copies_in own_in symbols_in row_in_slice slice_in record_rows record_in table_rows length_is_formed symbols_are_formed row_is_formed principal_is_formed slice_is_formed header_is_formed record_is_formed table_is_formed form_reasons record_reasons table_reasons update_reasons update_says update_leaves unrelated_copies meet_reasons meet_says meet_leaves call_says call_leaves run_bytes
history n l = run_bytes (fresh n) l

-- The table after the calls.
unfoldable pub after : ℕ → List Call → List ℕ
unfolding history
after n l = (history n l).table

-- Slice p of record c: its rows, and its bytes.
unfoldable pub slice_rows : List ℕ → ℕ → ℕ → Seen
unfolding after
slice_rows t c p = rows (join (copies_in t) (λ k. table_rows (copies_in t) t c p k ∷ []))

unfoldable pub slice_seen : List ℕ → ℕ → ℕ → Seen
unfolding after
slice_seen t c p = bytes (slice_in (copies_in t) (record_in (copies_in t) t c) p)

-- What the calls answer.
unfoldable pub checked : List ℕ → Seen
unfolding after check_says
checked t = said (check_says t)

unfoldable pub compared : List ℕ → ℕ → ℕ → Seen
unfolding after copy_order compare_reasons compare_says
compared t a b = said (compare_says t a b)

unfoldable pub met : List ℕ → ℕ → ℕ → Seen
unfolding after
met t a b = said (meet_says t a b)

unfoldable pub listing : List ℕ → Seen
unfolding after is_superfluous mask_of copy_order superfluous_reasons superfluous_mask_of superfluous_says ones ones_in
listing t = said (superfluous_says t)

-- The same of two copies' records taken out of the table.
unfoldable pub compared_loose : List ℕ → ℕ → ℕ → Seen
unfolding after pair_reasons compare_records_says
compared_loose t a b = said (compare_records_says (record_in (copies_in t) t a) (record_in (copies_in t) t b))

unfoldable pub checked_loose : List ℕ → ℕ → Seen
unfolding after check_record_says
checked_loose t a = said (check_record_says (record_in (copies_in t) t a))

-- The rows of a table with slice 0 of record c forged to x.
unfoldable pub forged : ℕ → List (List ℕ) → Table → Table
forged c x t i p k = cond (eqb i c && eqb p 0) (get_or x k []) (t i p k)
