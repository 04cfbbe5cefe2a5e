-- The steps written in place: what an accepted update or meeting leaves is the old table with the new record put where that record
-- stands, in the form in which a lent part comes back; and an updated record is the old one with one slice put, a slice with one row.
-- Assumes nothing.
use Rattle.std.specs.Prelude.{◌≡◌, ℕ, ◌+◌, ◌*◌, ◌≤◌, ◌<◌, take, drop}
use Rattle.std.proofs.Math.Path.{sym, ap₂}
use Rattle.std.proofs.Common.{ap, ◌∙◌, arith, length-drop}
use mathlib.Core.List.{List, ◌++◌}
use Rattle.std.proofs.Math.ListN.{length}
use Rattle.parts.specs.Parts.{room, part, join, put, length-put, part-put, part-put-other, put-join}
use Rattle.model.specs.Steps.{Table, updated_row, updated_slice, updated_record, updated_table, met_record, met_table}
use Rattle.model.specs.Bytes.{header_size, row_size, slice_size, record_size, row_bytes, slice_bytes, header_bytes, record_bytes, table_bytes, own_in, row_in_slice, slice_in, record_rows, record_in, table_rows}
use Rattle.model.specs.Calls.{update_leaves, meet_leaves}
use Rattle.facts.specs.Cases.{by_eq}
use Rattle.laws.specs.Formed.{FormedSlice, FormedRecord}
use Rattle.laws.specs.Layout.{slice_bytes_same, length_row, length-slice_bytes, length-record_bytes, length-slice_in, length-row_in_slice, record_bytes_same}
use Rattle.laws.specs.WellFormed.{WellSlice, WellRecord, WellTable}
use Rattle.laws.specs.RoundTrip.{slice_fits, record_fits, row_form, slice_form, slice_formed, record_form, record_formed, copy_form, table_formed}
use Rattle.laws.specs.Accepted.{Related}
use Rattle.laws.specs.UpdateKept.{updated-own, updated-other, updated_row_lem, update_slice_kept, updated_record-own, updated_record-other, update_record_kept, updated_table-own, updated_table-other}
use Rattle.laws.specs.MeetingKept.{met_first_kept, met_second_kept, met_table_first, met_table_second, met_table-other}
use Rattle.laws.specs.Leaves.{update_leaves_lem, meet_leaves_lem}

-- A record put over its place in a well-formed table.
module _ (n : ℕ) (t : List ℕ) (w : WellTable n t) (s : Table) where
  at : (c : ℕ) → c < n → c * record_size n + record_size n ≤ length t
  at c h = rw w.size (room (record_size n) h)

  pub table_put : (c : ℕ) (v : List ℕ) → c < n → length v ≡ record_size n → record_bytes n c (s c) ≡ v
      → ((d : ℕ) → d < n → (d ≡ c → ⊥) → (q k : ℕ) → q < n → k < n → s d q k ≡ table_rows n t d q k) → table_bytes n s ≡ put (record_size n) c v t
  unfolding table_bytes record_in
  table_put c v h long e other =
      sym (put-join (record_size n) c v t (at c h) long n (λ d. record_bytes n d (s d)) w.size e
      (λ d l ne. record_bytes_same n d (s d) (table_rows n t d) (other d l ne) ∙ copy_form n t w d l))

  pub table_put_two : (a b : ℕ) (u v : List ℕ) → a < n → b < n → (b ≡ a → ⊥) → length u ≡ record_size n → length v ≡ record_size n
      → record_bytes n a (s a) ≡ u → record_bytes n b (s b) ≡ v
      → ((d : ℕ) → d < n → (d ≡ a → ⊥) → (d ≡ b → ⊥) → (q k : ℕ) → q < n → k < n → s d q k ≡ table_rows n t d q k)
      → table_bytes n s ≡ put (record_size n) b v (put (record_size n) a u t)
  unfolding table_bytes record_in
  table_put_two a b u v ha hb ne lu lv eu ev other =
      let first : length (put (record_size n) a u t) ≡ length t = length-put (record_size n) a u t (at a ha) lu in
      sym (put-join (record_size n) b v (put (record_size n) a u t) (rw first (at b hb)) lv n (λ d. record_bytes n d (s d)) (first ∙ w.size) ev
      (λ d l nb. by_eq d a
      (λ e. rw e (eu ∙ sym (part-put (record_size n) a u t (at a ha) lu)))
      (λ na. record_bytes_same n d (s d) (table_rows n t d) (other d l na nb)
      ∙ copy_form n t w d l
      ∙ sym (part-put-other (record_size n) a u t (at a ha) lu d na))))

-- ---- Update of copy p

module _ (n : ℕ) (t : List ℕ) (p : ℕ) (w : WellTable n t) (h : p < n) where
  -- Record p is put in its place,
  pub update-put : update_leaves t p ≡ put (record_size n) p (record_bytes n p (updated_record n p (table_rows n t p))) t
  update-put =
      update_leaves_lem n t p w h
      ∙ table_put n t w (updated_table n p (table_rows n t)) p (record_bytes n p (updated_record n p (table_rows n t p))) h
      (length-record_bytes n p (updated_record n p (table_rows n t p)) (record_fits (update_record_kept n p (table_rows n t p) w.least h ((table_formed n t w).copy p h))))
      (record_bytes_same n p (updated_table n p (table_rows n t) p) (updated_record n p (table_rows n t p)) (λ q k l m. updated_table-own n p (table_rows n t) q k))
      (λ d l ne q k m j. updated_table-other n p (table_rows n t) d q k ne)

-- in it slice p, behind the header that stays,
module _ (n : ℕ) (r : List ℕ) (w : WellRecord n r) where
  behind : length (drop header_size r) ≡ n * slice_size n
  behind = rw length-drop (omega (arith, w.size))

  updated : FormedSlice n (own_in r) (updated_slice n (own_in r) (record_rows n r (own_in r)))
  updated = update_slice_kept n (own_in r) (record_rows n r (own_in r)) w.least w.own ((record_formed n r w).slice (own_in r) w.own)

  slices : put (slice_size n) (own_in r) (slice_bytes n (updated_slice n (own_in r) (record_rows n r (own_in r)))) (drop header_size r)
      ≡ join n (λ q. slice_bytes n (updated_record n (own_in r) (record_rows n r) q))
  unfolding record_rows slice_in
  slices =
      put-join (slice_size n) (own_in r) (slice_bytes n (updated_slice n (own_in r) (record_rows n r (own_in r)))) (drop header_size r)
      (rw behind (room (slice_size n) w.own))
      (length-slice_bytes n (updated_slice n (own_in r) (record_rows n r (own_in r))) (slice_fits updated))
      n (λ q. slice_bytes n (updated_record n (own_in r) (record_rows n r) q)) behind
      (slice_bytes_same n (updated_record n (own_in r) (record_rows n r) (own_in r)) (updated_slice n (own_in r) (record_rows n r (own_in r)))
      (λ k l. updated_record-own n (own_in r) (record_rows n r) k))
      (λ q l ne.
      slice_bytes_same n (updated_record n (own_in r) (record_rows n r) q) (record_rows n r q) (λ k m. updated_record-other n (own_in r) (record_rows n r) q k ne)
      ∙ slice_form n (own_in r) (slice_in n r q) (length-slice_in n r q w.size l) (w.slice q l))

  pub update_record_put : record_bytes n (own_in r) (updated_record n (own_in r) (record_rows n r))
      ≡ take header_size r ++ put (slice_size n) (own_in r) (slice_bytes n (updated_slice n (own_in r) (record_rows n r (own_in r)))) (drop header_size r)
  unfolding record_bytes header_bytes
  update_record_put = ap₂ ◌++◌ (ap (take header_size) (record_form n r w)) (sym slices)

-- and in that row p.
pub update_slice_put : (n p : ℕ) (b : List ℕ) → 2 ≤ n → p < n → length b ≡ slice_size n → WellSlice n p b
    → slice_bytes n (updated_slice n p (row_in_slice n b)) ≡ put (row_size n) p (row_bytes n (updated_row n p (row_in_slice n b))) b
unfolding slice_bytes row_in_slice
update_slice_put n p b two h size w =
    sym (put-join (row_size n) p (row_bytes n (updated_row n p (row_in_slice n b))) b (rw size (room (row_size n) h))
    (length_row n (updated_row n p (row_in_slice n b)) (updated_row_lem n p (row_in_slice n b) two h (slice_formed n p b size w)).fits)
    n (λ k. row_bytes n (updated_slice n p (row_in_slice n b) k)) size
    (ap (row_bytes n) (updated-own n p (row_in_slice n b)))
    (λ k l ne. ap (row_bytes n) (updated-other n p (row_in_slice n b) k ne) ∙ sym (row_form n (part (row_size n) k b) (length-row_in_slice n b k size l) (w.row k l))))

-- ---- Meeting of copies a and b: both results are put in their places

module _ (n : ℕ) (t : List ℕ) (a b : ℕ) (r : Related n t a b) (differ : a ≡ b → ⊥) where
  first : FormedRecord n a (met_record n a b (table_rows n t a) (table_rows n t b) (table_rows n t a) (table_rows n t b))
  first =
      met_first_kept n a b (table_rows n t a) (table_rows n t b) r.first r.second
      ((table_formed n t r.well).copy a r.first) ((table_formed n t r.well).copy b r.second)

  second : FormedRecord n b (met_record n a b (table_rows n t a) (table_rows n t b) (table_rows n t b) (table_rows n t a))
  second =
      met_second_kept n a b (table_rows n t a) (table_rows n t b) r.first r.second
      ((table_formed n t r.well).copy a r.first) ((table_formed n t r.well).copy b r.second)

  pub meet-put : meet_leaves t a b
      ≡ put (record_size n) b (record_bytes n b (met_record n a b (table_rows n t a) (table_rows n t b) (table_rows n t b) (table_rows n t a)))
      (put (record_size n) a (record_bytes n a (met_record n a b (table_rows n t a) (table_rows n t b) (table_rows n t a) (table_rows n t b))) t)
  meet-put =
      meet_leaves_lem n t a b r differ
      ∙ table_put_two n t r.well (met_table n a b (table_rows n t)) a b
      (record_bytes n a (met_record n a b (table_rows n t a) (table_rows n t b) (table_rows n t a) (table_rows n t b)))
      (record_bytes n b (met_record n a b (table_rows n t a) (table_rows n t b) (table_rows n t b) (table_rows n t a)))
      r.first r.second (λ e. differ (sym e))
      (length-record_bytes n a (met_record n a b (table_rows n t a) (table_rows n t b) (table_rows n t a) (table_rows n t b)) (record_fits first))
      (length-record_bytes n b (met_record n a b (table_rows n t a) (table_rows n t b) (table_rows n t b) (table_rows n t a)) (record_fits second))
      (record_bytes_same n a (met_table n a b (table_rows n t) a) (met_record n a b (table_rows n t a) (table_rows n t b) (table_rows n t a) (table_rows n t b))
      (λ q k l m. met_table_first n a b (table_rows n t) q k))
      (record_bytes_same n b (met_table n a b (table_rows n t) b) (met_record n a b (table_rows n t a) (table_rows n t b) (table_rows n t b) (table_rows n t a))
      (λ q k l m. met_table_second n a b (table_rows n t) q k (λ e. differ (sym e))))
      (λ d l na nb q k m j. met_table-other n a b (table_rows n t) d q k na nb)
