-- A lending by the length of the part: an empty part is a refusal, any other is record i in its place. Assumes nothing.
use mathlib.Core.Path.{◌≡◌, sym, ap, ◌∙◌}
use mathlib.Core.Logic.{⊎_elim}
use mathlib.Core.List.{List}
use Prim.Native.Nat.{ℕ, ◌*◌, ◌≤◌}
use native.Mathlib.Omega.{arith}
use lib.ListN.{length}
use Rattle.parts.specs.Parts.{room}
use Rattle.model.specs.Answers.{refused, done}
use Rattle.model.specs.Bytes.{copies_in, record_size}
use Rattle.model.specs.Calls.{lend_reasons, lend_says, lend_gives, lend_place}
use Rattle.laws.specs.Reasons.{answer_either}
use Rattle.table.specs.Lending.{lend_passed, lent, not_lent}

module _ (t : List ℕ) (i : ℕ) where
  -- Record i is as long as a record is.
  long : lend_says t i ≡ done → length (lend_gives t i) ≡ record_size (copies_in t)
  long e = ap length (lent t i e).0 ∙ ((lend_passed t i e).0.copy i (lend_passed t i e).1).size

  pub nothing_lent : length (lend_gives t i) ≡ 0 → (k : ℕ) × (lend_says t i ≡ refused k)
  unfolding lend_says
  nothing_lent z =
      ⊎_elim (λ e. absurd (let l = long e in omega (arith, l, z))) (λ r. r) (answer_either (lend_reasons t i) done)

  pub something_lent : (length (lend_gives t i) ≡ 0 → ⊥) → lend_says t i ≡ done
  unfolding lend_says
  something_lent nz =
      ⊎_elim (λ e. e) (λ r. absurd (nz (ap length (not_lent t i r.1).0))) (answer_either (lend_reasons t i) done)

  -- Its place is so many lengths from the start, and within the table.
  pub lent_at : lend_says t i ≡ done → lend_place t i ≡ i * length (lend_gives t i)
  lent_at e = (lent t i e).1 ∙ ap (λ (w : ℕ). i * w) (sym (long e))

  pub lent_within : lend_says t i ≡ done → i * length (lend_gives t i) ≤ length t
  lent_within e =
      let w = lend_passed t i e in
      rw (long e, w.0.size) (omega (arith, room (record_size (copies_in t)) {k = i} {n = copies_in t} w.1))
