-- A slice's answer is the order of two whole numbers, so no slice is unrelated. Assumes nothing.
use Rattle.std.specs.Prelude.{◌≡◌, List, ℕ, ◌<◌, leb}
use Rattle.std.proofs.Common.{arith, le-leb, leb-true}
use Rattle.model.specs.Tests.{head, is_in}
use Rattle.model.specs.Steps.{slice_answer_of}
use Rattle.facts.specs.Cases.{agree}
use Rattle.facts.specs.Members.{is_in→, →is_in}
use Rattle.history.specs.Inv.{Good, ahead→}
use Rattle.history.specs.Answer.{Says, says, level_is}
use Rattle.history.proofs.Inv.{→ahead}

module _ {N p : ℕ} {st : ℕ → ℕ → List ℕ} {vv : ℕ → ℕ} (g : Good N p st vv) (a b : ℕ) (a_n : a < N) (b_n : b < N) where
  pub found_is : is_in (head (st a a)) (st b b) ≡ leb (vv a) (vv b)
  found_is =
      let I = g.inv in
      agree (is_in (head (st a a)) (st b b)) (leb (vv a) (vv b))
      (λ t. le-leb (vv a) (vv b) (omega (arith, ahead→ I a b a_n b_n (is_in→ (head (st a a)) (st b b) t), I.counts a a_n, I.counts b b_n)))
      (λ t. →is_in (head (st a a)) (st b b) (→ahead I a b a_n b_n (omega (arith, leb-true (vv a) (vv b) t, I.counts a a_n, I.counts b b_n))))

pub answer_says :
    {N p : ℕ} {st : ℕ → ℕ → List ℕ} {vv : ℕ → ℕ}
    → Good N p st vv
    → (a b : ℕ)
    → a < N
    → b < N
    → Says (vv a) (vv b) (slice_answer_of (st a a) (st b b))
unfolding slice_answer_of
answer_says {vv = vv} g a b a_n b_n =
    rw (level_is g a b a_n b_n, found_is g a b a_n b_n, found_is g b a b_n a_n) (says (vv a) (vv b))
