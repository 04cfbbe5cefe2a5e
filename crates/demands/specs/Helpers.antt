-- The public functions that serve the calls from below, and their own promises, as the sources have them (`Learnt`, as in
-- CallContracts): no two outcomes satisfy a promise, where the function may be called. What is fixed of a handed part is the buffer, the
-- place and the bytes. Assumes nothing.
use Rattle.std.specs.Prelude.{◌≡◌, List, [], ◌∷◌, ℕ, take, Result, Ok, Err, IfOk}
use Rattle.std.proofs.Common.{sym, ap, ap₂, ◌∙◌}
use contract.Lifetimes.{Lfts}
use borrow.Fn.Kinds.{Dens, ended_of, res_t}
use denote.Triple.Clauses.{AtExit}
use Rattle.parts.specs.Handed.{Handed, handed_once}
use Rattle.model.specs.Answers.{Said, done, said, heard, err_heard}
use Rattle.model.specs.Bytes.{slice_size, copies_in}
use Rattle.model.specs.declared.Refusal.{Refusal}
use Rattle.parts.proofs.part_at.Reads as of·part-at
use Rattle.parts.proofs.copy.Reads as of·copy
use Rattle.row.proofs.among.Reads as of·among
use Rattle.row.proofs.earlier.Reads as of·earlier
use Rattle.row.proofs.new_head.Reads as of·new-head
use Rattle.row.proofs.symbols.Reads as of·symbols
use Rattle.row.proofs.write_row.Reads as of·write-row
use Rattle.row.proofs.cut_row.Reads as of·cut-row
use Rattle.slice.proofs.slice_len.Reads as of·slice-len
use Rattle.slice.proofs.slice_at.Reads as of·slice-at
use Rattle.slice.proofs.row_in.Reads as of·row-in
use Rattle.slice.proofs.head_in.Reads as of·head-in
use Rattle.slice.proofs.row_of.Reads as of·row-of
use Rattle.pair.proofs.slice_answer.Reads as of·slice-answer
use Rattle.pair.proofs.answer_at.Reads as of·answer-at
use Rattle.pair.proofs.compare_pair.Reads as of·compare-pair
use Rattle.pair.proofs.b_wins.Reads as of·b-wins
use Rattle.symbols.proofs.symbols_formed.Reads as of·symbols-formed
use Rattle.symbols.proofs.row_formed.Reads as of·row-formed
use Rattle.symbols.proofs.mark.Reads as of·mark
use Rattle.copies.proofs.record_at.Reads as of·record-at
use Rattle.copies.proofs.compare_copies.Reads as of·compare-copies
use Rattle.copies.proofs.against_others.Reads as of·against-others
use Rattle.superfluous.proofs.superfluous_mask.Reads as of·superfluous-mask
use Rattle.record.proofs.slice_formed.Reads as of·slice-formed
use Rattle.record.proofs.has_mark.Reads as of·has-mark
use Rattle.record.proofs.put_header.Reads as of·put-header
use Rattle.record.proofs.in_range.Reads as of·in-range
use Rattle.record.proofs.record_formed.Reads as of·record-formed
use Rattle.record.proofs.record_len.Reads as of·record-len
use Rattle.record.proofs.copies_told.Reads as of·copies-told
use Rattle.free.proofs.free_symbol.Reads as of·free-symbol
use Rattle.meeting_slice.proofs.met.Reads as of·met
use Rattle.meeting_table.proofs.meet_in.Reads as of·meet-in
use Rattle.meeting.proofs.put_slice.Reads as of·put-slice
use Rattle.meeting.proofs.meet_pair.Reads as of·meet-pair
use Rattle.updating.proofs.new_row.Reads as of·new-row
use Rattle.updating.proofs.put_row.Reads as of·put-row
use Rattle.updating.proofs.update_in.Reads as of·update-in
use Rattle.meeting_slice.proofs.met.Kinds as met·kinds

-- Of the same arguments, what is seen of the result and of the parameters at exit is the same.
abbrev pub Fixed : {A R S X : Type 0} → (A → R → S → Type 0) → (R → S → X) → Type 0
Fixed {A} {R} {S} Learnt seen = (a : A) (r r' : R) (s s' : S) → Learnt a r s → Learnt a r' s' → seen r s ≡ seen r' s'

-- What is seen of a part: its buffer, its place there, its bytes.
abbrev pub seen_part : ℕ × ℕ → List ℕ → ℕ × ℕ × List ℕ
seen_part ptr l = (ptr.0, ptr.1, l)

handed_same : {block start : ℕ} {holds : List ℕ} {ptr ptr' : ℕ × ℕ} {l l' : List ℕ}
    → Handed block start holds ptr l → Handed block start holds ptr' l' → seen_part ptr l ≡ seen_part ptr' l'
handed_same p q = let (b, a, e) = handed_once p q in λ i. (b i, a i, e i)

-- ---- parts

pub part_at_fixed : (κs : Lfts 1) → Fixed (of·part-at.Learnt κs) (λ r s. seen_part r.ref_ptr r.now)
part_at_fixed κs a r r' s s' p q = handed_same p q

pub copy_fixed : (κs : Lfts 2) → Fixed (of·copy.Learnt κs) (λ r s. s.0.now)
copy_fixed κs a r r' s s' p q = p ∙ sym q

-- ---- row

pub among_fixed : (κs : Lfts 1) → Fixed (of·among.Learnt κs) (λ r s. r)
among_fixed κs a r r' s s' p q = p ∙ sym q

pub earlier_fixed : (κs : Lfts 1) → Fixed (of·earlier.Learnt κs) (λ r s. r)
earlier_fixed κs a r r' s s' p q = p ∙ sym q

pub new_head_fixed : (κs : Lfts 1) → Fixed (of·new-head.Learnt κs) (λ r s. r)
new_head_fixed κs a r r' s s' p q = p ∙ sym q

pub symbols_fixed : (κs : Lfts 1) → Fixed (of·symbols.Learnt κs) (λ r s. seen_part r.ref_ptr r.now)
symbols_fixed κs a r r' s s' p q = handed_same p q

pub write_row_fixed : (κs : Lfts 2) → Fixed (of·write-row.Learnt κs) (λ r s. s.0.now)
write_row_fixed κs a r r' s s' p q = p ∙ sym q

pub cut_row_fixed : (κs : Lfts 2) → Fixed (of·cut-row.Learnt κs) (λ r s. r)
cut_row_fixed κs a r r' s s' p q = p ∙ sym q

-- ---- slice

pub slice_len_fixed : (κs : Lfts 0) → Fixed (of·slice-len.Learnt κs) (λ r s. r)
slice_len_fixed κs a r r' s s' p q = p ∙ sym q

pub slice_at_fixed : (κs : Lfts 1) → Fixed (of·slice-at.Learnt κs) (λ r s. seen_part r.ref_ptr r.now)
slice_at_fixed κs a r r' s s' p q = handed_same p q

pub row_in_fixed : (κs : Lfts 1) → Fixed (of·row-in.Learnt κs) (λ r s. seen_part r.ref_ptr r.now)
row_in_fixed κs a r r' s s' p q = handed_same p q

pub head_in_fixed : (κs : Lfts 1) → Fixed (of·head-in.Learnt κs) (λ r s. r)
head_in_fixed κs a r r' s s' p q = p ∙ sym q

pub row_of_fixed : (κs : Lfts 1) → Fixed (of·row-of.Learnt κs) (λ r s. seen_part r.ref_ptr r.now)
row_of_fixed κs a r r' s s' p q = handed_same p q

-- ---- pair

pub slice_answer_fixed : (κs : Lfts 2) → Fixed (of·slice-answer.Learnt κs) (λ r s. r)
slice_answer_fixed κs a r r' s s' p q = p ∙ sym q

pub answer_at_fixed : (κs : Lfts 2) → Fixed (of·answer-at.Learnt κs) (λ r s. r)
answer_at_fixed κs a r r' s s' p q = p ∙ sym q

pub compare_pair_fixed : (κs : Lfts 2) → Fixed (of·compare-pair.Learnt κs) (λ r s. r)
compare_pair_fixed κs a r r' s s' p q = p ∙ sym q

pub b_wins_fixed : (κs : Lfts 2) → Fixed (of·b-wins.Learnt κs) (λ r s. r)
b_wins_fixed κs a r r' s s' p q = p ∙ sym q

-- ---- symbols

pub symbols_formed_fixed : (κs : Lfts 1) → Fixed (of·symbols-formed.Learnt κs) (λ r s. r)
symbols_formed_fixed κs a r r' s s' p q = p ∙ sym q

pub row_formed_fixed : (κs : Lfts 1) → Fixed (of·row-formed.Learnt κs) (λ r s. r)
row_formed_fixed κs a r r' s s' p q = p ∙ sym q

pub mark_fixed : (κs : Lfts 1) → Fixed (of·mark.Learnt κs) (λ r s. r)
mark_fixed κs a r r' s s' p q = p ∙ sym q

-- ---- copies

pub record_at_fixed : (κs : Lfts 1) → Fixed (of·record-at.Learnt κs) (λ r s. seen_part r.ref_ptr r.now)
record_at_fixed κs a r r' s s' p q = handed_same p q

pub compare_copies_fixed : (κs : Lfts 1) → Fixed (of·compare-copies.Learnt κs) (λ r s. r)
compare_copies_fixed κs a r r' s s' p q = p ∙ sym q

pub against_others_fixed : (κs : Lfts 1) → Fixed (of·against-others.Learnt κs) (λ r s. r)
against_others_fixed κs a r r' s s' p q = p ∙ sym q

-- ---- superfluous

pub superfluous_mask_fixed : (κs : Lfts 1) → Fixed (of·superfluous-mask.Learnt κs) (λ r s. r)
superfluous_mask_fixed κs a r r' s s' p q = p ∙ sym q

-- ---- record

pub slice_formed_fixed : (κs : Lfts 1) → Fixed (of·slice-formed.Learnt κs) (λ r s. r)
slice_formed_fixed κs a r r' s s' p q = p ∙ sym q

pub has_mark_fixed : (κs : Lfts 1) → Fixed (of·has-mark.Learnt κs) (λ r s. r)
has_mark_fixed κs a r r' s s' p q = p ∙ sym q

pub put-header_fixed : (κs : Lfts 1) → Fixed (of·put-header.Learnt κs) (λ r s. s.0.now)
put-header_fixed κs a r r' s s' p q = p ∙ sym q

pub in_range_fixed : (κs : Lfts 0) → Fixed (of·in-range.Learnt κs) (λ r s. r)
in_range_fixed κs a r r' s s' p q = p ∙ sym q

pub record_formed_fixed : (κs : Lfts 1) → Fixed (of·record-formed.Learnt κs) (λ r s. r)
record_formed_fixed κs a r r' s s' p q = p ∙ sym q

pub record_len_fixed : (κs : Lfts 0) → Fixed (of·record-len.Learnt κs) (λ r s. r)
record_len_fixed κs a r r' s s' p q = p ∙ sym q

-- What is told of a header: N, or the refusal.
told_once : (b : List ℕ) {answer : Said} (r r' : Result ℕ Refusal)
    → said (λ _. done) r ≡ answer → said (λ _. done) r' ≡ answer → IfOk r (λ n. n ≡ copies_in b) → IfOk r' (λ n. n ≡ copies_in b) → r ≡ r'
unfolding heard
told_once b r r' x x' y y' = sym (back r y) ∙ ap (heard (λ _. copies_in b)) (x ∙ sym x') ∙ back r' y'
  where
    back : (r : Result ℕ Refusal) → IfOk r (λ n. n ≡ copies_in b) → heard (λ _. copies_in b) (said (λ _. done) r) ≡ r
    back (Ok n) e = ap Ok (sym e)
    back (Err q) e = err_heard (λ _. copies_in b) q

pub copies_told_fixed : (κs : Lfts 1) → Fixed (of·copies-told.Learnt κs) (λ r s. r)
copies_told_fixed κs a r r' s s' p q = told_once a.0.now r r' p.0 q.0 p.1.0 q.1.0

-- ---- free

pub free_symbol_fixed : (κs : Lfts 1) → Fixed (of·free-symbol.Learnt κs) (λ r s. r)
free_symbol_fixed κs a r r' s s' p q = p ∙ sym q

-- ---- meeting_slice

-- Of the two arrays the front that holds the slice; what stands behind it is nobody's.
pub met_fixed : (κs : Lfts 2) (a : Dens κs met·kinds.ps) (r r' : (res_t met·kinds.r κs).Denot) (s s' : AtExit (ended_of 2 met·kinds.ps met·kinds.r) κs)
    → of·met.Learnt κs a r s → of·met.Learnt κs a r' s'
    → (take (slice_size a.1.1.0) r.0 ≡ take (slice_size a.1.1.0) r'.0) × (take (slice_size a.1.1.0) r.1 ≡ take (slice_size a.1.1.0) r'.1)
met_fixed κs a r r' s s' p q = (p.first ∙ sym q.first, p.second ∙ sym q.second)

-- ---- meeting_table

pub meet_in_fixed : (κs : Lfts 1) → Fixed (of·meet-in.Learnt κs) (λ r s. s.0.now)
meet_in_fixed κs a r r' s s' p q = p ∙ sym q

-- ---- meeting

pub put_slice_fixed : (κs : Lfts 2) → Fixed (of·put-slice.Learnt κs) (λ r s. s.0.now)
put_slice_fixed κs a r r' s s' p q = p ∙ sym q

pub meet_pair_fixed : (κs : Lfts 2) → Fixed (of·meet-pair.Learnt κs) (λ r s. s.0.now ∷ s.1.0.now ∷ [])
meet_pair_fixed κs a r r' s s' p q = ap₂ (λ (x y : List ℕ). x ∷ y ∷ []) (p.first ∙ sym q.first) (p.second ∙ sym q.second)

-- ---- updating

pub new_row_fixed : (κs : Lfts 1) → Fixed (of·new-row.Learnt κs) (λ r s. r)
new_row_fixed κs a r r' s s' p q = p ∙ sym q

pub put_row_fixed : (κs : Lfts 2) → Fixed (of·put-row.Learnt κs) (λ r s. s.0.now)
put_row_fixed κs a r r' s s' p q = p ∙ sym q

pub update_in_fixed : (κs : Lfts 1) → Fixed (of·update-in.Learnt κs) (λ r s. s.0.now)
update_in_fixed κs a r r' s s' p q = p ∙ sym q
