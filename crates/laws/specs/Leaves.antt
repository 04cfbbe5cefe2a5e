-- What the steps leave in the bytes: fresh, an accepted update and an accepted meeting write the step's rows, the bytes are well formed
-- again, and what the step does not name keeps every byte: an update changes only slice p of record p, a meeting only records a and b.
-- Assumes nothing.
use Rattle.std.specs.Prelude.{◌≡◌, true, false, List, ℕ, ◌≤◌, ◌<◌, take}
use Rattle.std.proofs.Math.Path.{sym, ap}
use Rattle.std.proofs.Common.{◌∙◌, arith}
use Rattle.model.specs.Steps.{Table, fresh_rows, updated_slice, updated_record, updated_table, met_record, met_table}
use Rattle.model.specs.Answers.{accepted}
use Rattle.model.specs.Bytes.{header_size, slice_bytes, header_bytes, record_bytes, table_bytes, copies_in, own_in, slice_in, record_rows, record_in, table_rows}
use Rattle.model.specs.Calls.{fresh_reasons, fresh_leaves, update_reasons, update_leaves, meet_reasons, meet_leaves, pair_reasons, meet_records_leaves_first, meet_records_leaves_second}
use Rattle.facts.specs.Cases.{by_test}
use Rattle.laws.specs.Formed.{FormedTable}
use Rattle.laws.specs.Layout.{TableFits, slice_in_back, record_in_back, table_rows_back, own_in_back, slice_bytes_same, record_bytes_same}
use Rattle.laws.specs.WellFormed.{WellRecord, WellTable, table_copies}
use Rattle.laws.specs.RoundTrip.{table_fits, record_formed, copy_form, table_formed, →well_record, →well_table}
use Rattle.laws.specs.Reasons.{leave-accepted, leave_refused}
use Rattle.laws.specs.Accepted.{Related, RelatedPair, fresh-accepted→, update-accepted→, →update-accepted, meet-accepted→, →meet-accepted, →pair_accepted}
use Rattle.laws.specs.UpdateKept.{fresh-kept, update-kept, updated_record-own, updated_record-other, updated_table-own, updated_table-other}
use Rattle.laws.specs.MeetingKept.{met_first_kept, met_second_kept, met_table_first, met_table_second, met_table-other, meet-kept}

-- ---- A table written over a well-formed one

module _ (n : ℕ) (t : List ℕ) (w : WellTable n t) (s : Table) (f : TableFits n s) where
  -- Every header stays.
  pub kept-header : (c : ℕ) → c < n → take header_size (record_in n (table_bytes n s) c) ≡ take header_size (record_in n t c)
  unfolding record_bytes header_bytes
  kept-header c h =
      ap (take header_size) (record_in_back n s c f h) ∙ sym (ap (take header_size) (sym (copy_form n t w c h)))

  -- A slice whose rows stay keeps every byte.
  pub kept_slice : (c q : ℕ) → c < n → q < n → ((k : ℕ) → k < n → s c q k ≡ table_rows n t c q k)
      → slice_in n (record_in n (table_bytes n s) c) q ≡ slice_in n (record_in n t c) q
  kept_slice c q h l e =
      ap (λ (r : List ℕ). slice_in n r q) (record_in_back n s c f h)
      ∙ slice_in_back n c (s c) q (f c h) l
      ∙ slice_bytes_same n (s c q) (table_rows n t c q) e
      ∙ sym (slice_in_back n c (table_rows n t c) q (table_fits (table_formed n t w) c h) l)
      ∙ ap (λ (r : List ℕ). slice_in n r q) (copy_form n t w c h)

  -- A record whose rows stay keeps every byte.
  pub kept_record : (c : ℕ) → c < n → ((q k : ℕ) → q < n → k < n → s c q k ≡ table_rows n t c q k)
      → record_in n (table_bytes n s) c ≡ record_in n t c
  kept_record c h e = record_in_back n s c f h ∙ record_bytes_same n c (s c) (table_rows n t c) e ∙ copy_form n t w c h

-- ---- Fresh

pub fresh_leaves_lem : (t : List ℕ) (n : ℕ) → accepted (fresh_reasons t n) ≡ true → fresh_leaves t n ≡ table_bytes n fresh_rows
unfolding fresh_leaves
fresh_leaves_lem t n e = leave-accepted (fresh_reasons t n) t (table_bytes n fresh_rows) e

pub fresh_well : (t : List ℕ) (n : ℕ) → accepted (fresh_reasons t n) ≡ true → WellTable n (fresh_leaves t n)
fresh_well t n e =
    let r = fresh-accepted→ t n e in
    let two : 2 ≤ n = r.0 in
    rw (fresh_leaves_lem t n e) (→well_table n fresh_rows two r.1 (fresh-kept n (omega arith)))

-- ---- Update of copy p

module _ (n : ℕ) (t : List ℕ) (p : ℕ) (w : WellTable n t) (h : p < n) where
  pub update_leaves_lem : update_leaves t p ≡ table_bytes n (updated_table n p (table_rows n t))
  unfolding update_leaves
  update_leaves_lem =
      rw (table_copies w) (leave-accepted (update_reasons t p) t (table_bytes n (updated_table n p (table_rows n t))) (→update-accepted n t p w h))

  formed : FormedTable n (updated_table n p (table_rows n t))
  formed = update-kept n p (table_rows n t) w.least h (table_formed n t w)

  -- The rows afterwards are the step's.
  pub update_rows : (c q k : ℕ) → c < n → q < n → k < n → table_rows n (update_leaves t p) c q k ≡ updated_table n p (table_rows n t) c q k
  update_rows c q k l m j = rw update_leaves_lem (table_rows_back n (updated_table n p (table_rows n t)) c q k (table_fits formed) l m j)

  pub update_well : WellTable n (update_leaves t p)
  update_well = rw update_leaves_lem (→well_table n (updated_table n p (table_rows n t)) w.least w.most formed)

  -- Only record p changes,
  pub update_others : (c : ℕ) → c < n → (c ≡ p → ⊥) → record_in n (update_leaves t p) c ≡ record_in n t c
  update_others c l ne =
      rw update_leaves_lem
      (kept_record n t w (updated_table n p (table_rows n t)) (table_fits formed) c l (λ q k m j. updated_table-other n p (table_rows n t) c q k ne))

  -- of it only slice p: its header stays, and every other slice,
  pub update-header : take header_size (record_in n (update_leaves t p) p) ≡ take header_size (record_in n t p)
  update-header = rw update_leaves_lem (kept-header n t w (updated_table n p (table_rows n t)) (table_fits formed) p h)

  pub update_slices : (q : ℕ) → q < n → (q ≡ p → ⊥) → slice_in n (record_in n (update_leaves t p) p) q ≡ slice_in n (record_in n t p) q
  update_slices q l ne =
      rw update_leaves_lem
      (kept_slice n t w (updated_table n p (table_rows n t)) (table_fits formed) p q h l
      (λ k m. updated_table-own n p (table_rows n t) q k ∙ updated_record-other n p (table_rows n t p) q k ne))

  pub update_record : record_in n (update_leaves t p) p ≡ record_bytes n p (updated_record n p (table_rows n t p))
  update_record =
      rw update_leaves_lem
      (record_in_back n (updated_table n p (table_rows n t)) p (table_fits formed) h
      ∙ record_bytes_same n p (updated_table n p (table_rows n t) p) (updated_record n p (table_rows n t p)) (λ q k l m. updated_table-own n p (table_rows n t) q k))

  -- and that slice holds the updated rows.
  pub update_slice : slice_in n (record_in n (update_leaves t p) p) p ≡ slice_bytes n (updated_slice n p (table_rows n t p p))
  update_slice =
      rw update_leaves_lem
      (ap (λ (r : List ℕ). slice_in n r p) (record_in_back n (updated_table n p (table_rows n t)) p (table_fits formed) h)
      ∙ slice_in_back n p (updated_table n p (table_rows n t) p) p (table_fits formed p h) h
      ∙ slice_bytes_same n (updated_table n p (table_rows n t) p p) (updated_slice n p (table_rows n t p p))
      (λ k l. updated_table-own n p (table_rows n t) p k ∙ updated_record-own n p (table_rows n t p) k))

-- Whatever it answers, an update leaves a well-formed table well formed.
pub update_stays : (t : List ℕ) (p : ℕ) → accepted (update_reasons t p) ≡ false → update_leaves t p ≡ t
unfolding update_leaves
update_stays t p e = leave_refused (update_reasons t p) t _ e

pub update_keeps : (n : ℕ) (t : List ℕ) (p : ℕ) → WellTable n t → WellTable n (update_leaves t p)
update_keeps n t p w =
    by_test (accepted (update_reasons t p))
    (λ e. update_well n t p w (rw (table_copies w) at (update-accepted→ t p e).1))
    (λ e. rw (update_stays t p e) w)

-- ---- Meeting of copies a and b

module _ (n : ℕ) (t : List ℕ) (a b : ℕ) (r : Related n t a b) (differ : a ≡ b → ⊥) where
  pub meet_leaves_lem : meet_leaves t a b ≡ table_bytes n (met_table n a b (table_rows n t))
  unfolding meet_leaves
  meet_leaves_lem =
      rw (table_copies r.well)
      (leave-accepted (meet_reasons t a b) t (table_bytes n (met_table n a b (table_rows n t))) (→meet-accepted n t a b r differ))

  met : FormedTable n (met_table n a b (table_rows n t))
  met = meet-kept n a b (table_rows n t) r.first r.second (table_formed n t r.well)

  pub meet_rows : (c q k : ℕ) → c < n → q < n → k < n → table_rows n (meet_leaves t a b) c q k ≡ met_table n a b (table_rows n t) c q k
  meet_rows c q k l m j = rw meet_leaves_lem (table_rows_back n (met_table n a b (table_rows n t)) c q k (table_fits met) l m j)

  pub meet_well : WellTable n (meet_leaves t a b)
  meet_well = rw meet_leaves_lem (→well_table n (met_table n a b (table_rows n t)) r.well.least r.well.most met)

  -- Other records keep every byte,
  pub meet_others : (c : ℕ) → c < n → (c ≡ a → ⊥) → (c ≡ b → ⊥) → record_in n (meet_leaves t a b) c ≡ record_in n t c
  meet_others c l na nb =
      rw meet_leaves_lem
      (kept_record n t r.well (met_table n a b (table_rows n t)) (table_fits met) c l (λ q k m j. met_table-other n a b (table_rows n t) c q k na nb))

  -- every header stays,
  pub meet-header : (c : ℕ) → c < n → take header_size (record_in n (meet_leaves t a b) c) ≡ take header_size (record_in n t c)
  meet-header c l = rw meet_leaves_lem (kept-header n t r.well (met_table n a b (table_rows n t)) (table_fits met) c l)

  -- and each result is written into the part of the table where that record stands.
  pub meet_first : record_in n (meet_leaves t a b) a ≡ record_bytes n a (met_record n a b (table_rows n t a) (table_rows n t b) (table_rows n t a) (table_rows n t b))
  meet_first =
      rw meet_leaves_lem
      (record_in_back n (met_table n a b (table_rows n t)) a (table_fits met) r.first
      ∙ record_bytes_same n a (met_table n a b (table_rows n t) a) (met_record n a b (table_rows n t a) (table_rows n t b) (table_rows n t a) (table_rows n t b))
      (λ q k l m. met_table_first n a b (table_rows n t) q k))

  pub meet_second : record_in n (meet_leaves t a b) b ≡ record_bytes n b (met_record n a b (table_rows n t a) (table_rows n t b) (table_rows n t b) (table_rows n t a))
  meet_second =
      rw meet_leaves_lem
      (record_in_back n (met_table n a b (table_rows n t)) b (table_fits met) r.second
      ∙ record_bytes_same n b (met_table n a b (table_rows n t) b) (met_record n a b (table_rows n t a) (table_rows n t b) (table_rows n t b) (table_rows n t a))
      (λ q k l m. met_table_second n a b (table_rows n t) q k (λ e. differ (sym e))))

pub meet_stays : (t : List ℕ) (a b : ℕ) → accepted (meet_reasons t a b) ≡ false → meet_leaves t a b ≡ t
unfolding meet_leaves
meet_stays t a b e = leave_refused (meet_reasons t a b) t _ e

pub meet_keeps : (n : ℕ) (t : List ℕ) (a b : ℕ) → WellTable n t → WellTable n (meet_leaves t a b)
meet_keeps n t a b w =
    by_test (accepted (meet_reasons t a b))
    (λ e. let m = meet-accepted→ t a b e in rw (table_copies w) at (meet_well (copies_in t) t a b m.0 m.1))
    (λ e. rw (meet_stays t a b e) w)

-- ---- Meeting of two loose records

module _ (n : ℕ) (a b : List ℕ) (r : RelatedPair n a b) where
  pub meet_records_first : meet_records_leaves_first a b
      ≡ record_bytes n (own_in a) (met_record n (own_in a) (own_in b) (record_rows n a) (record_rows n b) (record_rows n a) (record_rows n b))
  unfolding meet_records_leaves_first
  meet_records_first =
      rw r.first.copies
      (leave-accepted (pair_reasons a b) a
      (record_bytes n (own_in a) (met_record n (own_in a) (own_in b) (record_rows n a) (record_rows n b) (record_rows n a) (record_rows n b)))
      (→pair_accepted n a b r))

  pub meet_records_second : meet_records_leaves_second a b
      ≡ record_bytes n (own_in b) (met_record n (own_in a) (own_in b) (record_rows n a) (record_rows n b) (record_rows n b) (record_rows n a))
  unfolding meet_records_leaves_second
  meet_records_second =
      rw r.first.copies
      (leave-accepted (pair_reasons a b) b
      (record_bytes n (own_in b) (met_record n (own_in a) (own_in b) (record_rows n a) (record_rows n b) (record_rows n b) (record_rows n a)))
      (→pair_accepted n a b r))

  pub meet_records_first_well : WellRecord n (meet_records_leaves_first a b)
  meet_records_first_well =
      rw meet_records_first
      (→well_record n (own_in a) (met_record n (own_in a) (own_in b) (record_rows n a) (record_rows n b) (record_rows n a) (record_rows n b))
      r.first.least r.first.most r.first.own
      (met_first_kept n (own_in a) (own_in b) (record_rows n a) (record_rows n b) r.first.own r.second.own (record_formed n a r.first) (record_formed n b r.second)))

  pub meet_records_second_well : WellRecord n (meet_records_leaves_second a b)
  meet_records_second_well =
      rw meet_records_second
      (→well_record n (own_in b) (met_record n (own_in a) (own_in b) (record_rows n a) (record_rows n b) (record_rows n b) (record_rows n a))
      r.second.least r.second.most r.second.own
      (met_second_kept n (own_in a) (own_in b) (record_rows n a) (record_rows n b) r.first.own r.second.own (record_formed n a r.first) (record_formed n b r.second)))

  -- Each record keeps its own number.
  pub meet_records_owns : (own_in (meet_records_leaves_first a b) ≡ own_in a) × (own_in (meet_records_leaves_second a b) ≡ own_in b)
  meet_records_owns =
      (ap own_in meet_records_first ∙ own_in_back n (own_in a) _, ap own_in meet_records_second ∙ own_in_back n (own_in b) _)
