-- The public calls of the product by their own contracts, as the sources have them: of a function's `Reads`, `Asked` is what its `requires`
-- asks and `Learnt` what a caller learns from its `ensures`. Each takes any arguments, and owes the outcome definition's outcome and no
-- other. A weaker `ensures` below, or a `requires`, is refused here. Assumes nothing.
use Rattle.std.specs.Prelude.{◌≡◌, refl, cond, List, [], ◌∷◌, ℕ, ◌+◌}
use contract.Lifetimes.{Lfts}
use borrow.Fn.Kinds.{Dens, ended_of, res_t}
use denote.Triple.Clauses.{AtExit}
use Rattle.parts.specs.Handed.{Handed, handed_once}
use Rattle.model.specs.Answers.{said_done, said_compared, said_listed, done_once, compared_once, listed_once}
use Rattle.model.specs.Steps.{Slice, b_is_winner, winning_row}
use Rattle.model.specs.Bytes.{record_rows}
use Rattle.slice.specs.Shown.{row_place}
use Rattle.model.specs.Calls.{lend_gives, lend_place, read_gives}
use Rattle.model.specs.Promises.{said_read, rows_read, read_once}
use Rattle.demands.specs.Asked.{Asked}
use Rattle.demands.specs.Serves.{Service, service, Serves, Determined, determined}
use Rattle.fresh.proofs.make_fresh.Reads as of·fresh
use Rattle.table.proofs.check.Reads as of·check
use Rattle.steps.proofs.update.Reads as of·update
use Rattle.steps.proofs.meet.Reads as of·meet
use Rattle.table.proofs.compare.Reads as of·compare
use Rattle.table.proofs.lend_number.Reads as of·lend-number
use Rattle.table.proofs.list_superfluous.Reads as of·list
use Rattle.record.proofs.check_record.Reads as of·check-record
use Rattle.loose.proofs.compare_records.Reads as of·compare-records
use Rattle.loose.proofs.meet_records.Reads as of·meet-records
use Rattle.writing.proofs.write_rows.Reads as of·write-rows
use Rattle.reading.proofs.read_rows.Reads as of·read-rows
use Rattle.table.proofs.lend.Reads as of·lend
use Rattle.table.proofs.lend.Kinds as lend·kinds
use Rattle.pair.proofs.winning.Reads as of·winning
use Rattle.pair.proofs.winning.Kinds as winning·kinds

-- ---- Calls that answer, and write what was lent to be written

-- fresh::make_fresh
abbrev pub fresh : Lfts 1 → Service
fresh κs = service (of·fresh.Asked κs) (of·fresh.Learnt κs) (λ a. Asked.fresh a.0.now a.1.0) said_done (λ s. s.0.now ∷ [])

pub fresh_serves : (κs : Lfts 1) → Serves (fresh κs)
fresh_serves κs = record { takes = λ a. tt; owes = λ a r s p. p }

pub fresh_determined : (κs : Lfts 1) → Determined (fresh κs)
fresh_determined κs = determined (fresh κs) (fresh_serves κs) done_once

-- table::check
abbrev pub check : Lfts 1 → Service
check κs = service (of·check.Asked κs) (of·check.Learnt κs) (λ a. Asked.check a.0.now) said_done (λ s. [])

pub check_serves : (κs : Lfts 1) → Serves (check κs)
check_serves κs = record { takes = λ a. tt; owes = λ a r s p. p }

pub check_determined : (κs : Lfts 1) → Determined (check κs)
check_determined κs = determined (check κs) (check_serves κs) done_once

-- steps::update
abbrev pub update : Lfts 1 → Service
update κs = service (of·update.Asked κs) (of·update.Learnt κs) (λ a. Asked.update a.0.now a.1.0) said_done (λ s. s.0.now ∷ [])

pub update_serves : (κs : Lfts 1) → Serves (update κs)
update_serves κs = record { takes = λ a. tt; owes = λ a r s p. p }

pub update_determined : (κs : Lfts 1) → Determined (update κs)
update_determined κs = determined (update κs) (update_serves κs) done_once

-- steps::meet
abbrev pub meet : Lfts 1 → Service
meet κs = service (of·meet.Asked κs) (of·meet.Learnt κs) (λ a. Asked.meet a.0.now a.1.0 a.1.1.0) said_done (λ s. s.0.now ∷ [])

pub meet_serves : (κs : Lfts 1) → Serves (meet κs)
meet_serves κs = record { takes = λ a. tt; owes = λ a r s p. p }

-- (`meet_determined` stands in proofs/CallContracts.)

-- table::compare
abbrev pub compare : Lfts 1 → Service
compare κs = service (of·compare.Asked κs) (of·compare.Learnt κs) (λ a. Asked.compare a.0.now a.1.0 a.1.1.0) said_compared (λ s. [])

pub compare_serves : (κs : Lfts 1) → Serves (compare κs)
compare_serves κs = record { takes = λ a. tt; owes = λ a r s p. p }

pub compare_determined : (κs : Lfts 1) → Determined (compare κs)
compare_determined κs = determined (compare κs) (compare_serves κs) compared_once

-- table::lend_number
abbrev pub lend_number : Lfts 1 → Service
lend_number κs = service (of·lend-number.Asked κs) (of·lend-number.Learnt κs) (λ a. Asked.lend a.0.now a.1.0) said_done (λ s. [])

pub lend_number_serves : (κs : Lfts 1) → Serves (lend_number κs)
lend_number_serves κs = record { takes = λ a. tt; owes = λ a r s p. p }

pub lend_number_determined : (κs : Lfts 1) → Determined (lend_number κs)
lend_number_determined κs = determined (lend_number κs) (lend_number_serves κs) done_once

-- table::list_superfluous
abbrev pub list : Lfts 1 → Service
list κs = service (of·list.Asked κs) (of·list.Learnt κs) (λ a. Asked.superfluous a.0.now) said_listed (λ s. [])

pub list_serves : (κs : Lfts 1) → Serves (list κs)
list_serves κs = record { takes = λ a. tt; owes = λ a r s p. p }

pub list_determined : (κs : Lfts 1) → Determined (list κs)
list_determined κs = determined (list κs) (list_serves κs) listed_once

-- record::check_record
abbrev pub check_record : Lfts 1 → Service
check_record κs = service (of·check-record.Asked κs) (of·check-record.Learnt κs) (λ a. Asked.check_record a.0.now) said_done (λ s. [])

pub check_record_serves : (κs : Lfts 1) → Serves (check_record κs)
check_record_serves κs = record { takes = λ a. tt; owes = λ a r s p. p }

pub check_record_determined : (κs : Lfts 1) → Determined (check_record κs)
check_record_determined κs = determined (check_record κs) (check_record_serves κs) done_once

-- loose::compare_records
abbrev pub compare_records : Lfts 2 → Service
compare_records κs = service (of·compare-records.Asked κs) (of·compare-records.Learnt κs) (λ a. Asked.compare_records a.0.now a.1.0.now) said_compared (λ s. [])

pub compare_records_serves : (κs : Lfts 2) → Serves (compare_records κs)
compare_records_serves κs = record { takes = λ a. tt; owes = λ a r s p. p }

pub compare_records_determined : (κs : Lfts 2) → Determined (compare_records κs)
compare_records_determined κs = determined (compare_records κs) (compare_records_serves κs) compared_once

-- loose::meet_records
abbrev pub meet_records : Lfts 2 → Service
meet_records κs = service (of·meet-records.Asked κs) (of·meet-records.Learnt κs) (λ a. Asked.meet_records a.0.now a.1.0.now) said_done (λ s. s.0.now ∷ s.1.0.now ∷ [])

pub meet_records_serves : (κs : Lfts 2) → Serves (meet_records κs)
meet_records_serves κs = record { takes = λ a. tt; owes = λ a r s p. p }

pub meet_records_determined : (κs : Lfts 2) → Determined (meet_records κs)
meet_records_determined κs = determined (meet_records κs) (meet_records_serves κs) done_once

-- writing::write_rows
abbrev pub write_rows : Lfts 1 → Service
write_rows κs = service (of·write-rows.Asked κs) (of·write-rows.Learnt κs) (λ a. Asked.write_rows a.0.now a.1.0) said_done (λ s. s.0.now ∷ [])

pub write_rows_serves : (κs : Lfts 1) → Serves (write_rows κs)
write_rows_serves κs = record { takes = λ a. tt; owes = λ a r s p. p }

pub write_rows_determined : (κs : Lfts 1) → Determined (write_rows κs)
write_rows_determined κs = determined (write_rows κs) (write_rows_serves κs) done_once

-- reading::read_rows: its answer, and the rows, for which a refusal counts as the blank
abbrev pub read_rows : Lfts 1 → Service
read_rows κs = service (of·read-rows.Asked κs) (of·read-rows.Learnt κs) (λ a. Asked.read_rows a.0.now) said_read (λ s. [])

pub read_rows_serves : (κs : Lfts 1) → Serves (read_rows κs)
read_rows_serves κs = record { takes = λ a. tt; owes = λ a r s p. record { answers = p.answers; bytes = refl } }

pub read_rows_gives : (κs : Lfts 1) (a : (read_rows κs).Arguments) (r : (read_rows κs).Result) (s : (read_rows κs).Exit) → (read_rows κs).Learnt a r s → rows_read r ≡ read_gives a.0.now
read_rows_gives κs a r s p = p.rows

pub read_rows_determined : (κs : Lfts 1) → Determined (read_rows κs)
read_rows_determined κs a a' r r' s s' e p p' = (read_once p (rw (same_bytes e) p'), refl)
  where
    same_bytes : {b b' : List ℕ} → Asked.read_rows b ≡ Asked.read_rows b' → b ≡ b'
    same_bytes q = cc

-- ---- Lending: those bytes in that place. That is all there is to a `&`: where it points, and what stands there

module _ (κs : Lfts 1) (a : Dens κs lend·kinds.ps) where
  pub lend_takes : of·lend.Asked κs a
  lend_takes = tt

  pub lend_hands : (r : (res_t lend·kinds.r κs).Denot) (s : AtExit (ended_of 1 lend·kinds.ps lend·kinds.r) κs) → of·lend.Learnt κs a r s
      → Handed a.0.ref_ptr.0 (a.0.ref_ptr.1 + lend_place a.0.now a.1.0) (lend_gives a.0.now a.1.0) r.ref_ptr r.now
  lend_hands r s p = p

  pub lend_determined : (r r' : (res_t lend·kinds.r κs).Denot) (s s' : AtExit (ended_of 1 lend·kinds.ps lend·kinds.r) κs)
      → of·lend.Learnt κs a r s → of·lend.Learnt κs a r' s' → (r.ref_ptr.0 ≡ r'.ref_ptr.0) × (r.ref_ptr.1 ≡ r'.ref_ptr.1) × (r.now ≡ r'.now)
  lend_determined r r' s s' p p' = handed_once (lend_hands r s p) (lend_hands r' s' p')

-- ---- The winning principal row W, 'handed back as a part of the record it stands in, its symbols only, as a step inside the meeting'

module _ (κs : Lfts 1) (x : Dens κs winning·kinds.ps) where
  pub winning_hands : (r : (res_t winning·kinds.r κs).Denot) (s : AtExit (ended_of 1 winning·kinds.ps winning·kinds.r) κs) → of·winning.Learnt κs x r s
      → (
      let n : ℕ = x.1.1.0 in
      let a : ℕ = x.1.1.1.0 in
      let b : ℕ = x.1.1.1.1.0 in
      let p : ℕ = x.1.1.1.1.1.0 in
      let first : Slice = record_rows n x.0.now p in
      let second : Slice = record_rows n x.1.0.now p in
      Handed
      (cond (b_is_winner a b first second) x.1.0.ref_ptr.0 x.0.ref_ptr.0)
      (cond (b_is_winner a b first second) (x.1.0.ref_ptr.1 + row_place n p b) (x.0.ref_ptr.1 + row_place n p a))
      (winning_row a b first second)
      r.ref_ptr
      r.now
      )
  winning_hands r s q = q

  pub winning_determined : (r r' : (res_t winning·kinds.r κs).Denot) (s s' : AtExit (ended_of 1 winning·kinds.ps winning·kinds.r) κs)
      → of·winning.Learnt κs x r s → of·winning.Learnt κs x r' s' → (r.ref_ptr.0 ≡ r'.ref_ptr.0) × (r.ref_ptr.1 ≡ r'.ref_ptr.1) × (r.now ≡ r'.now)
  winning_determined r r' s s' q q' = handed_once (winning_hands r s q) (winning_hands r' s' q')
