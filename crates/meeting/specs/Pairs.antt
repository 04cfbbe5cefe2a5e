-- Two records that meet: what is asked of them, and what they are afterwards. Assumes nothing.
use Rattle.std.specs.Prelude.{◌≡◌, List, ℕ, ◌<◌}
use Rattle.model.specs.Steps.{Record, met_record}
use Rattle.model.specs.Bytes.{record_bytes, own_in, record_rows}
use Rattle.laws.specs.Formed.{FormedRecord}
use Rattle.laws.specs.WellFormed.{WellRecord}
use Rattle.laws.specs.RoundTrip.{record_formed}
use Rattle.laws.specs.MeetingKept.{met_first_kept, met_second_kept}
use Rattle.pair.specs.Pair.{PairShown}
use Rattle.record.specs.Passed.{record_shown}

-- Both records are well formed, for the same N, and have own numbers a and b.
pub record WellPair (n a b : ℕ) (x y : List ℕ) : Type 0 where
  pub first : WellRecord n x
  pub second : WellRecord n y
  pub first_own : own_in x ≡ a
  pub second_own : own_in y ≡ b

-- The rows of the first record after the meeting, and of the second.
unfoldable pub first_met : ℕ → ℕ → ℕ → List ℕ → List ℕ → Record
first_met n a b x y = met_record n a b (record_rows n x) (record_rows n y) (record_rows n x) (record_rows n y)

unfoldable pub second_met : ℕ → ℕ → ℕ → List ℕ → List ℕ → Record
second_met n a b x y = met_record n a b (record_rows n x) (record_rows n y) (record_rows n y) (record_rows n x)

-- Each record is its new rows written, with its own number.
pub record PairMet (n a b : ℕ) (x y x' y' : List ℕ) : Type 0 where
  pub first : x' ≡ record_bytes n a (first_met n a b x y)
  pub second : y' ≡ record_bytes n b (second_met n a b x y)

module _ {n a b : ℕ} {x y : List ℕ} (w : WellPair n a b x y) where
  pub first_own_lem : a < n
  first_own_lem = rw w.first_own at w.first.own

  pub second_own_lem : b < n
  second_own_lem = rw w.second_own at w.second.own

  -- What is well formed is shown.
  pub pair_shown : PairShown n a b x y
  pair_shown = record { first = record_shown w.first; second = record_shown w.second; first_own = first_own_lem; second_own = second_own_lem }

  first_rows : FormedRecord n a (record_rows n x)
  first_rows = rw w.first_own at (record_formed n x w.first)

  second_rows : FormedRecord n b (record_rows n y)
  second_rows = rw w.second_own at (record_formed n y w.second)

  -- The new rows are formed.
  pub first_formed : FormedRecord n a (first_met n a b x y)
  unfolding first_met
  first_formed = met_first_kept n a b (record_rows n x) (record_rows n y) first_own_lem second_own_lem first_rows second_rows

  pub second_formed : FormedRecord n b (second_met n a b x y)
  unfolding second_met
  second_formed = met_second_kept n a b (record_rows n x) (record_rows n y) first_own_lem second_own_lem first_rows second_rows
