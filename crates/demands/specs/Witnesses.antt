-- Calls on which the empty versions fail, by computation: for each name a call that is answered and one that is refused; tables of the
-- bench sheet that compare differently, are listed differently, and are changed by a meeting. Assumes nothing.
use Rattle.std.specs.Prelude.{◌≡◌, refl, true, false, List, [], ◌∷◌, ℕ, ◌<◌, get_or}
use Rattle.std.proofs.Common.{ap, ◌∙◌, sym, inl, arith}
use Rattle.model.specs.Tests.{keep}
use Rattle.model.specs.Steps.{fresh_rows, new_symbol, head_of_other, updated_row}
use Rattle.model.specs.Answers.{ordered, listed}
use Rattle.model.specs.Bytes.{record_in, table_rows}
use Rattle.model.specs.Calls.{fresh_says, check_says, update_leaves, meet_leaves, copy_order, compare_reasons, compare_says, lend_reasons, lend_says, superfluous_reasons, superfluous_says, check_record_says, pair_reasons, meet_records_says, compare_records_says, rows_given, over_room, length_given, cells_given, is_within, read_says, row_passed, record_passed, write_reasons, write_says}
use Rattle.model.specs.Worked.{after, listing}
use Rattle.model.specs.Bench.{updated, then_met, then_updated}
use Rattle.facts.specs.Members.{In}
use Rattle.laws.specs.WellFormed.{WellTable}
use Rattle.laws.specs.Reasons.{is_own}
use Rattle.laws.specs.RoundTrip.{table_formed}
use Rattle.laws.specs.Free.{new_symbol_free}
use Rattle.laws.specs.UpdateKept.{updated-own, updated_record-own, updated_table-own}
use Rattle.laws.specs.Leaves.{update_rows}
use Rattle.demands.specs.Asked.{Asked, says_of}
use Rattle.demands.specs.OnTables.{check_well}
use Rattle.demands.specs.Versions.{Name, Fresh, Check, Update, Meet, Compare, Lend, Superfluous, CheckRecord, CompareRecords, MeetRecords, ReadRows, WriteRows, name_of}

-- Records 0 and 1 of a fresh table of 2 copies.
unfoldable start : List ℕ
start = after 2 []

unfoldable pub answered : Name → Asked
unfolding rows_given over_room length_given cells_given is_within fresh_rows start after
answered Fresh = Asked.fresh start 2
answered Check = Asked.check start
answered Update = Asked.update start 0
answered Meet = Asked.meet start 0 1
answered Compare = Asked.compare start 0 1
answered Lend = Asked.lend start 0
answered Superfluous = Asked.superfluous start
answered CheckRecord = Asked.check_record (record_in 2 start 0)
answered CompareRecords = Asked.compare_records (record_in 2 start 0) (record_in 2 start 1)
answered MeetRecords = Asked.meet_records (record_in 2 start 0) (record_in 2 start 1)
answered ReadRows = Asked.read_rows (record_in 2 start 0)
answered WriteRows =
    Asked.write_rows (record_in 2 start 0) (rows_given 2 0 (fresh_rows 0))

pub answered-own : (c : Name) → (name_of (answered c) ≡ c) × (is_own (says_of (answered c)) ≡ true)
unfolding answered start after listing fresh_says check_says copy_order compare_reasons compare_says lend_reasons lend_says superfluous_reasons superfluous_says check_record_says pair_reasons meet_records_says compare_records_says read_says row_passed record_passed write_reasons write_says rows_given over_room length_given cells_given is_within fresh_rows
answered-own Fresh = (refl, refl)
answered-own Check = (refl, refl)
answered-own Update = (refl, refl)
answered-own Meet = (refl, refl)
answered-own Compare = (refl, refl)
answered-own Lend = (refl, refl)
answered-own Superfluous = (refl, refl)
answered-own CheckRecord = (refl, refl)
answered-own CompareRecords = (refl, refl)
answered-own MeetRecords = (refl, refl)
answered-own ReadRows = (refl, refl)
answered-own WriteRows = (refl, refl)

-- ---- A call of each name that is refused

unfoldable pub refused_call : Name → Asked
unfolding rows_given over_room length_given cells_given is_within fresh_rows after
refused_call Fresh = Asked.fresh [] 0
refused_call Check = Asked.check []
refused_call Update = Asked.update [] 0
refused_call Meet = Asked.meet [] 0 1
refused_call Compare = Asked.compare [] 0 1
refused_call Lend = Asked.lend [] 0
refused_call Superfluous = Asked.superfluous []
refused_call CheckRecord = Asked.check_record []
refused_call CompareRecords = Asked.compare_records [] []
refused_call MeetRecords = Asked.meet_records [] []
refused_call ReadRows = Asked.read_rows []
refused_call WriteRows = Asked.write_rows [] (rows_given 0 0 (fresh_rows 0))

pub refused_own : (c : Name) → (name_of (refused_call c) ≡ c) × (is_own (says_of (refused_call c)) ≡ false)
unfolding refused_call after listing fresh_says check_says copy_order compare_reasons compare_says lend_reasons lend_says superfluous_reasons superfluous_says check_record_says pair_reasons meet_records_says compare_records_says read_says row_passed record_passed write_reasons write_says rows_given over_room length_given cells_given is_within fresh_rows
refused_own Fresh = (refl, refl)
refused_own Check = (refl, refl)
refused_own Update = (refl, refl)
refused_own Meet = (refl, refl)
refused_own Compare = (refl, refl)
refused_own Lend = (refl, refl)
refused_own Superfluous = (refl, refl)
refused_own CheckRecord = (refl, refl)
refused_own CompareRecords = (refl, refl)
refused_own MeetRecords = (refl, refl)
refused_own ReadRows = (refl, refl)
refused_own WriteRows = (refl, refl)

-- ---- The bench sheet's tables

-- P5 and P6, and P2: well formed, all of N = 2.
pub met_well : WellTable 2 then_met
unfolding then_met after check_says
met_well = (check_well then_met).0 refl

pub updated_well : WellTable 2 then_updated
unfolding then_updated after check_says
updated_well = (check_well then_updated).0 refl

-- P5 and P6 compare differently, and are listed differently.
pub met_compares : compare_says then_met 1 0 ≡ ordered 0
unfolding then_met after copy_order compare_reasons compare_says
met_compares = refl

pub updated_compares : compare_says then_updated 1 0 ≡ ordered 1
unfolding then_updated after copy_order compare_reasons compare_says
updated_compares = refl

pub met_listed : superfluous_says then_met ≡ listed 3 2
unfolding then_met listing
met_listed = refl

pub updated_listed : superfluous_says then_updated ≡ listed 2 1
unfolding then_updated listing
updated_listed = refl

-- A meeting of copies 0 and 1 changes P2's table: row 0 of slice 0 of record 0 is 1 0, and then 1 alone.
pub meet_changes : meet_leaves updated 0 1 ≡ updated → ⊥
unfolding updated after
meet_changes e = let b : ◌≡◌ {A = ℕ} 1 2 = ap (λ (l : List ℕ). get_or l 4 0) e in omega arith

-- ---- An update changes every well-formed table: the new symbol stood in no row of the slice

pub update_changes : {n : ℕ} {t : List ℕ} → WellTable n t → (p : ℕ) → p < n → update_leaves t p ≡ t → ⊥
unfolding updated_row
update_changes {n} {t} w p h e =
    let row : table_rows n t p p p ≡ new_symbol n (table_rows n t p p) ∷ keep (head_of_other n p (table_rows n t p p)) (table_rows n t p p p) =
    ap (λ (u : List ℕ). table_rows n u p p p) (sym e)
    ∙ update_rows n t p w h p p p h h h
    ∙ updated_table-own n p (table_rows n t) p p
    ∙ updated_record-own n p (table_rows n t p) p
    ∙ updated-own n p (table_rows n t p p) in
    let there : In (new_symbol n (table_rows n t p p)) (table_rows n t p p p) = rw row (inl refl) in
    new_symbol_free n p (table_rows n t p p) h (((table_formed n t w).copy p h).slice p h) w.least p h there
