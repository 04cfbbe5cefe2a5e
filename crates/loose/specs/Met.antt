-- What a meeting of two loose records that is not refused leaves: each record's new rows written. Assumes nothing.
use Rattle.std.specs.Prelude.{◌≡◌, true, List, ℕ}
use Rattle.std.proofs.Math.Path.{refl}
use Rattle.model.specs.Answers.{done, refused, ordered, accepted}
use Rattle.model.specs.Bytes.{copies_in, own_in, record_bytes}
use Rattle.model.specs.Calls.{pair_reasons, compare_records_says, meet_records_says, meet_records_leaves_first, meet_records_leaves_second}
use Rattle.laws.specs.Reasons.{accepted-answer, refused_same, ordered_done}
use Rattle.laws.specs.Accepted.{pair_accepted→}
use Rattle.laws.specs.Leaves.{meet_records_first, meet_records_second}
use Rattle.meeting.specs.Pairs.{WellPair, first_met, second_met}

-- A meeting is refused as the comparison is, and done where that gives an order.
module _ (a b : List ℕ) {k : ℕ} where
  pub met_refused : compare_records_says a b ≡ refused k → meet_records_says a b ≡ refused k
  unfolding compare_records_says meet_records_says
  met_refused e = refused_same (pair_reasons a b) _ k e

  pub met_done : compare_records_says a b ≡ ordered k → meet_records_says a b ≡ done
  unfolding compare_records_says meet_records_says
  met_done e = ordered_done (pair_reasons a b) _ k e

module _ (a b : List ℕ) (e : meet_records_says a b ≡ done) where
  ok : accepted (pair_reasons a b) ≡ true
  unfolding meet_records_says
  ok = accepted-answer (pair_reasons a b) done refl e

  pub met-passed : WellPair (copies_in a) (own_in a) (own_in b) a b
  met-passed =
      let w = pair_accepted→ a b ok in
      record { first = w.first; second = w.second; first_own = refl; second_own = refl }

  pub met_first : meet_records_leaves_first a b ≡ record_bytes (copies_in a) (own_in a) (first_met (copies_in a) (own_in a) (own_in b) a b)
  unfolding first_met
  met_first = meet_records_first (copies_in a) a b (pair_accepted→ a b ok)

  pub met_second : meet_records_leaves_second a b ≡ record_bytes (copies_in a) (own_in b) (second_met (copies_in a) (own_in a) (own_in b) a b)
  unfolding second_met
  met_second = meet_records_second (copies_in a) a b (pair_accepted→ a b ok)
