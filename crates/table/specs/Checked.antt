-- What a table that passed the check is shown to be, as the code above asks for it. Assumes nothing.
use Rattle.std.specs.Prelude.{◌≡◌, refl, Bool, ◌&&◌, List, ℕ, ◌≤◌, length}
use Rattle.std.proofs.Common.{arith}
use Rattle.std.proofs.Math.Dec.{eqb}
use Rattle.parts.specs.Parts.{room}
use Rattle.model.specs.Answers.{done}
use Rattle.model.specs.Bytes.{copies_in, own_in, record_size, record_in, record_is_formed}
use Rattle.model.specs.Calls.{table_reasons, check_says}
use Rattle.laws.specs.Reasons.{accepted-answer}
use Rattle.laws.specs.WellFormed.{WellTable}
use Rattle.laws.specs.Accepted.{table_accepted→}
use Rattle.record.specs.Passed.{record_shown}
use Rattle.copies.specs.Copies.{TableShown}

pub table_shown : {n : ℕ} {t : List ℕ} → WellTable n t → TableShown n t
table_shown well = record { few = well.most; long = well.size; records = λ c h. record_shown (well.copy c h) }

pub check-passed : {t : List ℕ} → check_says t ≡ done → WellTable (copies_in t) t
unfolding check_says
check-passed {t} e = table_accepted→ t (accepted-answer (table_reasons t) done refl e)

-- A well-formed table has at least its first header.
pub well_long : {n : ℕ} {t : List ℕ} → WellTable n t → 4 ≤ length t
well_long {n} {t} well = omega (arith, well.size, room (record_size n) {k = 0} {n = n} (omega (arith, well.least)))

-- Record c of a table is well formed and has own number c.
abbrev pub copy_is_formed : ℕ → List ℕ → ℕ → Bool
copy_is_formed n t c = eqb (own_in (record_in n t c)) c && record_is_formed n (record_in n t c)
