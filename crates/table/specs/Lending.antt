-- What the number of a lending tells of the part: record i in its place, or the empty part at the start. Assumes nothing.
use Rattle.std.specs.Prelude.{◌≡◌, true, false, ℕ, ◌*◌, ◌<◌, Result, Ok, Err, is_err}
use Rattle.std.proofs.Math.Path.{refl}
use mathlib.Core.List.{List, []}
use Rattle.model.specs.Answers.{said_done, done, refused, number_of_refusal}
use Rattle.model.specs.Bytes.{copies_in, record_in, record_size}
use Rattle.model.specs.Calls.{lend_reasons, lend_says, lend_gives, lend_place}
use Rattle.model.specs.declared.Refusal.{Refusal}
use Rattle.facts.specs.Cases.{clash}
use Rattle.laws.specs.Reasons.{accepted-answer, refused_not, leave-accepted, leave_refused}
use Rattle.laws.specs.WellFormed.{WellTable}
use Rattle.laws.specs.Accepted.{lend_accepted→}

-- The number, by the test that the lending makes of it.
pub said_ok : (r : Result (Unit {0}) Refusal) → is_err r ≡ false → said_done r ≡ done
said_ok (Ok u) e = refl
said_ok (Err q) e = absurd (clash refl e)

pub said_err : (r : Result (Unit {0}) Refusal) → is_err r ≡ true → (k : ℕ) × (said_done r ≡ refused k)
said_err (Ok u) e = absurd (clash e refl)
said_err (Err q) e = (number_of_refusal q, refl)

module _ (t : List ℕ) (i : ℕ) where
  pub lend_passed : lend_says t i ≡ done → WellTable (copies_in t) t × (i < copies_in t)
  unfolding lend_says
  lend_passed e = lend_accepted→ t i (accepted-answer (lend_reasons t i) done refl e)

  pub lent : lend_says t i ≡ done → (lend_gives t i ≡ record_in (copies_in t) t i) × (lend_place t i ≡ i * record_size (copies_in t))
  unfolding lend_says lend_gives lend_place
  lent e =
      let ok = accepted-answer (lend_reasons t i) done refl e in
      (leave-accepted (lend_reasons t i) [] (record_in (copies_in t) t i) ok, leave-accepted (lend_reasons t i) 0 (i * record_size (copies_in t)) ok)

  pub not_lent : {k : ℕ} → lend_says t i ≡ refused k → (lend_gives t i ≡ []) × (lend_place t i ≡ 0)
  unfolding lend_says lend_gives lend_place
  not_lent {k} e =
      let out = refused_not (lend_reasons t i) done k refl e in
      (leave_refused (lend_reasons t i) [] (record_in (copies_in t) t i) out, leave_refused (lend_reasons t i) 0 (i * record_size (copies_in t)) out)
