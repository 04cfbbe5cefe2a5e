-- What the heads of two principal rows say is what the counters say: a slice's answer is the order of two whole numbers, so no slice
-- is unrelated (proofs/Answer.antt). Assumes nothing.
use Rattle.std.specs.Prelude.{◌≡◌, refl, false, List, ℕ, ◌<◌, eqb, leb, ltb}
use Rattle.std.proofs.Common.{sym, ap₂, ◌∙◌, arith, eq-eqb, ne_eqb, le-leb, lt-ltb, le-ltb}
use Rattle.std.proofs.lemmas.Bool.{lt-leb}
use Rattle.model.specs.Tests.{head}
use Rattle.model.specs.Steps.{answer_of, is_unrelated, is_behind, is_ahead}
use Rattle.model.specs.declared.SliceAnswer.{SliceAnswer}
use Rattle.facts.specs.Cases.{by_eq, by_lt}
use Rattle.history.specs.Inv.{Good, own_value, symbols_tell, principal_head}

-- An answer that says of two whole numbers how they stand.
pub record Says (x y : ℕ) (s : SliceAnswer) : Type 0 where
  pub related : is_unrelated s ≡ false
  pub behind : is_behind s ≡ ltb x y
  pub ahead : is_ahead s ≡ ltb y x

pub says : (x y : ℕ) → Says x y (answer_of (eqb x y) (leb x y) (leb y x))
says x y =
    by_eq x y
    (λ e. rw (eq-eqb x y e) record { related = refl; behind = sym (le-ltb x y (omega arith)); ahead = sym (le-ltb y x (omega arith)) })
    (λ ne. by_lt x y
    (λ h. rw (ne_eqb x y ne, le-leb x y (omega arith), lt-leb y x h) record { related = refl; behind = sym (lt-ltb x y h); ahead = sym (le-ltb y x (omega arith)) })
    (λ h. rw (ne_eqb x y ne, lt-leb x y (omega arith), le-leb y x h) record { related = refl; behind = sym (le-ltb x y h); ahead = sym (lt-ltb y x (omega arith)) }))

module _ {N p : ℕ} {st : ℕ → ℕ → List ℕ} {vv : ℕ → ℕ} (g : Good N p st vv) (a b : ℕ) (a_n : a < N) (b_n : b < N) where
  pub level_is : eqb (head (st a a)) (head (st b b)) ≡ eqb (vv a) (vv b)
  level_is =
      let I = g.inv in
      ap₂ eqb (principal_head I a a_n) (principal_head I b b_n)
      ∙ symbols_tell I (g.C (g.L a)) (g.C (g.L b)) (a, a_n, (a, a_n, own_value I a a_n)) (b, b_n, (b, b_n, own_value I b b_n))
      ∙ sym (ap₂ eqb (I.counts a a_n) (I.counts b b_n))
