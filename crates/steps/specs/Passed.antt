-- A meeting's refusals beside a comparison's, and what a call that is not refused was shown. Assumes nothing.
use Rattle.std.specs.Prelude.{◌≡◌, refl, Bool, true, false, ◌||◌, List, [], ◌∷◌, ◌++◌, ℕ, ◌<◌, eqb}
use Rattle.std.proofs.Common.{◌∙◌, arith}
use Rattle.std.proofs.Math.Dec.{leb}
use borrow.Author.Tests.{eq-eqb, eqb-true, ne_eqb}
use Rattle.model.specs.Tests.{head, is_in}
use Rattle.model.specs.Answers.{done, refused, ordered, Reason, refuse, answer, number_of_order}
use Rattle.model.specs.Steps.{unrelated, answer_at_slice, answer_of, slice_answer_of, is_unrelated}
use Rattle.model.specs.Bytes.{copies_in, table_rows}
use Rattle.model.specs.Calls.{table_reasons, lend_says, lend_reasons, update_reasons, update_says, meet_reasons, meet_says, compare_reasons, compare_says, unrelated_copies, copy_order}
use Rattle.facts.specs.Numbers.{→none}
use Rattle.laws.specs.Reasons.{accepted-answer, answer_now, answer_later, answer-own, ordered_done}
use Rattle.laws.specs.WellFormed.{WellTable}
use Rattle.laws.specs.Accepted.{Related, update-accepted→, meet-accepted→, compare-accepted→}

-- An update is refused as a lending is.
pub update_lends : (t : List ℕ) (p : ℕ) → lend_says t p ≡ update_says t p
unfolding lend_says lend_reasons update_says update_reasons
update_lends t p = refl

pub update-passed : (t : List ℕ) (p : ℕ) → update_says t p ≡ done → WellTable (copies_in t) t × (p < copies_in t)
unfolding update_says
update-passed t p e = update-accepted→ t p (accepted-answer (update_reasons t p) done refl e)

pub meet-passed : (t : List ℕ) (a b : ℕ) → meet_says t a b ≡ done → Related (copies_in t) t a b × (a ≡ b → ⊥)
unfolding meet_says
meet-passed t a b e = meet-accepted→ t a b (accepted-answer (meet_reasons t a b) done refl e)

pub compare-passed : (t : List ℕ) (a b : ℕ) {k : ℕ} → compare_says t a b ≡ ordered k → Related (copies_in t) t a b
unfolding compare_says
compare-passed t a b {k} e =
    compare-accepted→ t a b (accepted-answer (compare_reasons t a b) done refl (ordered_done (compare_reasons t a b) _ k e))

-- No slice of a copy is unrelated to itself.
not_itself : (t : List ℕ) (a : ℕ) → unrelated_copies t a a ≡ false
unfolding unrelated_copies unrelated answer_at_slice slice_answer_of
not_itself t a =
    let n : ℕ = copies_in t in
    →none n (λ p. is_unrelated (slice_answer_of (table_rows n t a p a) (table_rows n t a p a)))
    (λ p h. level (head (table_rows n t a p a)) (is_in (head (table_rows n t a p a)) (table_rows n t a p a)))
  where
    level : (x : ℕ) (found : Bool) → is_unrelated (answer_of (eqb x x) found found) ≡ false
    level x found = rw (eq-eqb x x refl)

-- 6 stands between 5 and 7 in a meeting's reasons, and never applies together with 7: a comparison's refusal is the meeting's.
refused_between : (l : List Reason) (f s u : Bool) (m k : ℕ) → (s ≡ true → u ≡ false)
    → answer (l ++ (refuse f 5 ∷ refuse u 7 ∷ [])) (ordered m) ≡ refused k → answer (l ++ (refuse f 5 ∷ refuse s 6 ∷ refuse u 7 ∷ [])) done ≡ refused k
unfolding answer
refused_between [] true s u m k not-both e = e
refused_between [] false true true m k not-both e = absurd (let z : ◌≡◌ {A = ℕ} 0 1 = cc (not-both refl) in omega arith)
refused_between [] false false true m k not-both e = e
refused_between [] false s false m k not-both e = absurd (let z : ◌≡◌ {A = ℕ} 0 1 = cc in omega arith)
refused_between (refuse true j ∷ l) f s u m k not-both e = e
refused_between (refuse false j ∷ l) f s u m k not-both e = refused_between l f s u m k not-both e

-- Where the comparison answers, 6 alone is left.
ordered_between : (l : List Reason) (f s u : Bool) (m k : ℕ) → answer (l ++ (refuse f 5 ∷ refuse u 7 ∷ [])) (ordered m) ≡ ordered k
    → answer (l ++ (refuse f 5 ∷ refuse s 6 ∷ refuse u 7 ∷ [])) done ≡ answer (refuse s 6 ∷ []) done
unfolding answer
ordered_between [] true s u m k e = absurd (let z : ◌≡◌ {A = ℕ} 0 1 = cc in omega arith)
ordered_between [] false s true m k e = absurd (let z : ◌≡◌ {A = ℕ} 0 1 = cc in omega arith)
ordered_between [] false true false m k e = refl
ordered_between [] false false false m k e = refl
ordered_between (refuse true j ∷ l) f s u m k e = absurd (let z : ◌≡◌ {A = ℕ} 0 1 = cc in omega arith)
ordered_between (refuse false j ∷ l) f s u m k e = ordered_between l f s u m k e

module _ (t : List ℕ) (a b : ℕ) where
  pub meet_refused_as : {k : ℕ} → compare_says t a b ≡ refused k → meet_says t a b ≡ refused k
  unfolding compare_says compare_reasons meet_says meet_reasons
  meet_refused_as {k} e =
      refused_between (table_reasons t) (leb (copies_in t) a || leb (copies_in t) b) (eqb a b) (unrelated_copies t a b) (number_of_order (copy_order t a b)) k
      (λ s. rw (← eqb-true a b s) (not_itself t a)) e

  meet-behind : {k : ℕ} → compare_says t a b ≡ ordered k → meet_says t a b ≡ answer (refuse (eqb a b) 6 ∷ []) done
  unfolding compare_says compare_reasons meet_says meet_reasons
  meet-behind {k} e =
      ordered_between (table_reasons t) (leb (copies_in t) a || leb (copies_in t) b) (eqb a b) (unrelated_copies t a b) (number_of_order (copy_order t a b)) k e

  pub meet_same : {k : ℕ} → compare_says t a b ≡ ordered k → a ≡ b → meet_says t a b ≡ refused 6
  meet_same e same = meet-behind e ∙ answer_now 6 [] done (eq-eqb a b same)

  pub meet_done : {k : ℕ} → compare_says t a b ≡ ordered k → (a ≡ b → ⊥) → meet_says t a b ≡ done
  meet_done e differ = meet-behind e ∙ answer_later 6 [] done (ne_eqb a b differ) ∙ answer-own done
