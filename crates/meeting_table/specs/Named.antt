-- Two copies of a table that meet: what is asked of them. Assumes nothing.
use Rattle.std.specs.Prelude.{◌≡◌, List, ℕ, ◌<◌}
use Rattle.model.specs.Bytes.{record_in}
use Rattle.laws.specs.WellFormed.{WellTable}
use Rattle.meeting.specs.Pairs.{WellPair}

-- The table is well formed, and a and b are two of its copies.
pub record Named (n a b : ℕ) (t : List ℕ) : Type 0 where
  pub well : WellTable n t
  pub first : a < n
  pub second : b < n
  pub differ : a ≡ b → ⊥

-- Their records are a pair that can meet.
pub named_pair : {n a b : ℕ} {t : List ℕ} → Named n a b t → WellPair n a b (record_in n t a) (record_in n t b)
named_pair {n} {a} {b} {t} w =
    record {
      first = w.well.copy a w.first;
      second = w.well.copy b w.second;
      first_own = w.well.own a w.first;
      second_own = w.well.own b w.second;
    }
