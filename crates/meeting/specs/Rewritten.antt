-- A record whose slices are written one behind another: those below p are new, the rest is as it was, and what was shown of the record is
-- so all the way. Assumes nothing.
use Rattle.std.specs.Prelude.{◌≡◌, refl, ℕ, ◌+◌, ◌*◌, ◌≤◌, ◌<◌, take}
use Rattle.std.proofs.Common.{sym, ◌∙◌, arith}
use Rattle.std.proofs.Math.Path.{ap, ap₂}
use mathlib.Core.List.{List, ◌++◌}
use Rattle.std.proofs.Math.ListN.{length}
use Rattle.parts.specs.Parts.{room}
use Rattle.parts.specs.Written.{written}
use Rattle.parts.proofs.Front.{Front, front_start, front_part, front_next, front_end, front_done, front_rest}
use Rattle.model.specs.Steps.{Record}
use Rattle.model.specs.Bytes.{header_size, slice_size, slice_bytes, header_bytes, record_bytes, own_in, row_in_slice, slice_in, record_rows}
use Rattle.facts.specs.Cases.{by_lt}
use Rattle.laws.specs.Formed.{FormedRecord}
use Rattle.laws.specs.Layout.{length-slice_bytes}
use Rattle.laws.specs.WellFormed.{WellRecord}
use Rattle.laws.specs.RoundTrip.{slice_fits, →well_slice, record_form}
use Rattle.slice.specs.Shown.{SliceShown, RecordShown}
use Rattle.record.specs.Passed.{slice_shown}

-- ---- One record

-- The slices below p are those of the rows m, the rest is as it was.
pub record Rewritten (n p : ℕ) (m : Record) (old r : List ℕ) : Type 0 where
  pub within : p ≤ n
  pub front : Front header_size (slice_size n) p (λ q. slice_bytes n (m q)) old r

pub rewritten_start : (n : ℕ) (m : Record) (r : List ℕ) → Rewritten n 0 m r r
rewritten_start n m r = record { within = omega arith; front = front_start header_size (slice_size n) (λ q. slice_bytes n (m q)) r }

module _ {n p : ℕ} {m : Record} {old r : List ℕ} (so : Rewritten n p m old r) where
  -- Slice p may still be read.
  pub rows_still : record_rows n r p ≡ record_rows n old p
  unfolding record_rows slice_in
  rows_still = ap (row_in_slice n) (front_part so.front)

  -- What was shown of the record is so all the way.
  pub shown_still : {c : ℕ} → c < n → FormedRecord n c m → RecordShown n old → RecordShown n r
  unfolding slice_in
  shown_still {c} own formed shown = record { few = shown.few; long = so.front.long ∙ shown.long; slices = each }
    where
      wide : (q : ℕ) → q < n → length (slice_bytes n (m q)) ≡ slice_size n
      wide q l = length-slice_bytes n (m q) (slice_fits (formed.slice q l))

      each : (q : ℕ) → q < n → SliceShown n (slice_in n r q)
      each q l =
          by_lt q p
          (λ h. rw (front_done so.front (omega (arith, shown.long)) (λ k u. wide k (omega (arith, so.within))) q h)
          (slice_shown shown.few (wide q l) (→well_slice n c (m q) own (formed.slice q l))))
          (λ h. rw (front_rest so.front q h) (shown.slices q l))

  -- One slice more is written.
  pub slice_next : {c : ℕ} → p < n → FormedRecord n c m → RecordShown n old → (v after : List ℕ) → after ≡ written (header_size + p * slice_size n) v r
      → v ≡ slice_bytes n (m p) → Rewritten n (p + 1) m old after
  slice_next less formed shown v after e same =
      record {
        within = omega arith;
        front =
            front_next so.front (header_size + p * slice_size n) v after e refl
            (ap length same ∙ length-slice_bytes n (m p) (slice_fits (formed.slice p less)))
            (omega (arith, room (slice_size n) less, shown.long)) same;
      }

  -- With every slice written, the record is the rows m written.
  pub slices_end : n ≤ p → WellRecord n old → r ≡ record_bytes n (own_in old) m
  unfolding record_bytes header_bytes
  slices_end over w =
      let all : n ≡ p = omega (arith, so.within) in
      front_end so.front (rw (← all) w.size)
      ∙ ap₂ ◌++◌ (ap (take header_size) (sym (record_form n old w))) (rw (← all))
