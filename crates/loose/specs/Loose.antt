-- Two loose records side by side: what passing both checks shows of them, and the reasons behind these checks. Assumes nothing.
use Rattle.std.specs.Prelude.{◌≡◌, not, List, [], ◌∷◌, ℕ, eqb}
use Rattle.std.proofs.Common.{◌∙◌, sym}
use Rattle.model.specs.Answers.{Said, done, refuse, answer}
use Rattle.model.specs.Steps.{unrelated}
use Rattle.model.specs.Bytes.{copies_in, own_in, record_rows}
use Rattle.model.specs.Calls.{record_reasons, pair_reasons, check_record_says}
use Rattle.model.specs.Promises.{Owed}
use Rattle.laws.specs.Reasons.{answer-behind}
use Rattle.laws.specs.WellFormed.{WellRecord}
use Rattle.record.specs.Passed.{record_shown, check-passed}
use Rattle.pair.specs.Pair.{PairShown}

-- A record that the check lets pass is well formed.
pub well_passed : {r : List ℕ} → Owed (check_record_says r) [] done [] → WellRecord (copies_in r) r
well_passed h = check-passed (sym h.answers)

-- Two well-formed records of one N are a pair to compare.
pub pair_shown : {a b : List ℕ} → WellRecord (copies_in a) a → WellRecord (copies_in b) b → copies_in b ≡ copies_in a
    → PairShown (copies_in a) (own_in a) (own_in b) a b
pair_shown {a} {b} one two same =
    let w : WellRecord (copies_in a) b = rw same at two in
    record { first = record_shown one; second = record_shown w; first_own = one.own; second_own = w.own }

-- Where both records pass their checks, 8, 6, 7 decide.
pub pair_behind : (a b : List ℕ) → Owed (check_record_says a) [] done [] → Owed (check_record_says b) [] done [] → (x : Said)
    → answer (pair_reasons a b) x
    ≡ answer
    (refuse (not (eqb (copies_in a) (copies_in b))) 8
    ∷ refuse (eqb (own_in a) (own_in b)) 6
    ∷ refuse (unrelated (copies_in a) (own_in a) (own_in b) (record_rows (copies_in a) a) (record_rows (copies_in a) b)) 7
    ∷ [])
    x
unfolding pair_reasons check_record_says
pair_behind a b one two x = answer-behind (record_reasons a) _ x (sym one.answers) ∙ answer-behind (record_reasons b) _ x (sym two.answers)
