-- From the check's answer to reading's: a refusal is read as such, and a record that the check accepts has its rows. Assumes nothing.
use Rattle.std.specs.Prelude.{◌≡◌, List, ℕ, Result, Ok, Err}
use Rattle.std.specs.Result.{IsErrAnd}
use Rattle.std.proofs.Common.{refl, sym, ap, ◌∙◌}
use Rattle.model.specs.Answers.{refused, done, answer, number_of_refusal}
use Rattle.model.specs.Bytes.{copies_in, own_in, record_rows}
use Rattle.model.specs.Calls.{record_reasons, check_record_says, rows_given, blank_rows, read_says, read_gives}
use Rattle.model.specs.Promises.{Read}
use Rattle.model.specs.declared.Refusal.{Refusal}
use Rattle.model.specs.declared.Rows.{Rows}
use Rattle.laws.specs.Reasons.{refused_not, leave_refused, answer-accepted}
use Rattle.laws.specs.Accepted.{→record_accepted}
use Rattle.laws.specs.WellFormed.{WellRecord}
use Rattle.laws.specs.ReadWrite.{read_gives_lem}

-- What the check refuses and `?` hands on.
pub read_refused : (r : List ℕ) (a : Result Rows Refusal) (x : Refusal) → IsErrAnd a (λ y. y ≡ x) → refused (number_of_refusal x) ≡ check_record_says r
    → Read (read_says r) (read_gives r) a
unfolding read_says read_gives check_record_says
read_refused r (Ok rows) x is e = absurd is
read_refused r (Err y) x is e =
    let told : refused (number_of_refusal y) ≡ answer (record_reasons r) done = ap (λ (z : Refusal). refused (number_of_refusal z)) is ∙ e in
    record {
      answers = told;
      rows =
          sym (leave_refused (record_reasons r) blank_rows (rows_given (copies_in r) (own_in r) (record_rows (copies_in r) r))
          (refused_not (record_reasons r) done (number_of_refusal y) refl (sym told)));
    }

pub read_done : (r : List ℕ) (rows : Rows) → WellRecord (copies_in r) r → rows ≡ rows_given (copies_in r) (own_in r) (record_rows (copies_in r) r)
    → Read (read_says r) (read_gives r) (Ok rows)
unfolding read_says
read_done r rows w e =
    record { answers = sym (answer-accepted (record_reasons r) done (→record_accepted (copies_in r) r w)); rows = e ∙ sym (read_gives_lem (copies_in r) r w) }
