-- A meeting of two records on its way: the slices below p are the new ones in both, and the next slice may be met as if nothing were
-- written. Assumes nothing.
use Rattle.std.specs.Prelude.{◌≡◌, List, ℕ, ◌+◌, ◌*◌, ◌≤◌, ◌<◌, take}
use Rattle.std.proofs.Math.Path.{ap}
use Rattle.std.proofs.Common.{◌∙◌}
use Rattle.parts.specs.Written.{written}
use Rattle.model.specs.Steps.{met_record}
use Rattle.model.specs.Bytes.{header_size, slice_size, slice_bytes, record_bytes, record_rows}
use Rattle.pair.specs.Pair.{PairShown}
use Rattle.meeting_slice.specs.Met.{MetSlices}
use Rattle.meeting.specs.Pairs.{WellPair, PairMet, first_met, second_met, pair_shown, first_own_lem, second_own_lem, first_formed, second_formed}
use Rattle.meeting.specs.Rewritten.{Rewritten, rewritten_start, rows_still, shown_still, slice_next, slices_end}

-- Both records, from x and y to x' and y'.
pub record Going (n a b p : ℕ) (x y x' y' : List ℕ) : Type 0 where
  pub first : Rewritten n p (first_met n a b x y) x x'
  pub second : Rewritten n p (second_met n a b x y) y y'

pub going_start : (n a b : ℕ) (x y : List ℕ) → Going n a b 0 x y x y
going_start n a b x y =
    record { first = rewritten_start n (first_met n a b x y) x; second = rewritten_start n (second_met n a b x y) y }

module _ {n a b p : ℕ} {x y x' y' : List ℕ} (w : WellPair n a b x y) (so : Going n a b p x y x' y') where
  -- The next slice may be met.
  pub going_shown : PairShown n a b x' y'
  going_shown =
      record {
        first = shown_still so.first (first_own_lem w) (first_formed w) (pair_shown w).first;
        second = shown_still so.second (second_own_lem w) (second_formed w) (pair_shown w).second;
        first_own = first_own_lem w;
        second_own = second_own_lem w;
      }

  -- Its result is that of the records as they were.
  going_same : {u v : List ℕ} → MetSlices n a b p (record_rows n x') (record_rows n y') u v → MetSlices n a b p (record_rows n x) (record_rows n y) u v
  unfolding slice_bytes met_record
  going_same h =
      record {
        first = h.first ∙ rw (rows_still so.first, rows_still so.second);
        second = h.second ∙ rw (rows_still so.first, rows_still so.second);
      }

  pub going_next : {u v : List ℕ} (after behind : List ℕ) → p < n → MetSlices n a b p (record_rows n x') (record_rows n y') u v
      → after ≡ written (header_size + p * slice_size n) (take (slice_size n) u) x'
      → behind ≡ written (header_size + p * slice_size n) (take (slice_size n) v) y'
      → Going n a b (p + 1) x y after behind
  unfolding first_met second_met
  going_next {u} {v} after behind less h e f =
      record {
        first = slice_next so.first less (first_formed w) (pair_shown w).first (take (slice_size n) u) after e (going_same h).first;
        second = slice_next so.second less (second_formed w) (pair_shown w).second (take (slice_size n) v) behind f (going_same h).second;
      }

  pub going_done : n ≤ p → PairMet n a b x y x' y'
  going_done over =
      record {
        first = slices_end so.first over w.first ∙ ap (λ (c : ℕ). record_bytes n c (first_met n a b x y)) w.first_own;
        second = slices_end so.second over w.second ∙ ap (λ (c : ℕ). record_bytes n c (second_met n a b x y)) w.second_own;
      }
