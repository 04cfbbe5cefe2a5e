-- Demand 2 on a well-formed table, where laws has it in another form (the whole is stated in Demands): what update, meeting,
-- comparison, lending and check say, by N, the numbers and the rows. Assumes a well-formed table.
use Rattle.std.specs.Prelude.{◌≡◌, refl, ◌↔◌, false, ℕ, ◌*◌, ◌<◌}
use Rattle.std.proofs.Common.{ap, ap₂, ◌∙◌}
use mathlib.Core.List.{List, []}
use borrow.Author.Tests.{lt-leb, eq-eqb, ne_eqb}
use Rattle.model.specs.Tests.{head}
use Rattle.model.specs.Steps.{Record, slice_answer_of, answer_at_slice, is_unrelated, is_behind, is_ahead, unrelated, order_of, comparison}
use Rattle.model.specs.Answers.{refused, done, ordered, answer, number_of_order}
use Rattle.model.specs.Bytes.{record_size, copies_in, record_in, table_rows}
use Rattle.model.specs.Calls.{table_reasons, check_says, update_reasons, update_says, meet_says, compare_says, lend_reasons, lend_says, lend_gives, lend_place}
use Rattle.model.specs.declared.SliceAnswer.TheVariants.{Level}
use Rattle.facts.specs.Cases.{fails}
use Rattle.facts.specs.Numbers.{→none, count_none}
use Rattle.laws.specs.WellFormed.{WellTable, table_copies}
use Rattle.laws.specs.Reasons.{answer-accepted, accepted-answer, leave-accepted}
use Rattle.laws.specs.Grounds.{SomeUnrelated, unrelated→, →unrelated}
use Rattle.laws.specs.Accepted.{Related, table_accepted→, →table_accepted, →update-accepted, →lend_accepted}
use Rattle.laws.specs.Depends.{meet_by, compare_by}

-- No slice is unrelated, and some slice is, as a test.
pub related_test : (n a b : ℕ) (x y : Record) → (SomeUnrelated n a b x y → ⊥) → unrelated n a b x y ≡ false
related_test n a b x y h = fails (unrelated n a b x y) (λ e. h (unrelated→ n a b x y e))

-- Check is done exactly when the table is well formed.
pub check_well : (t : List ℕ) → (check_says t ≡ done) ↔ WellTable (copies_in t) t
unfolding check_says
check_well t = (
  λ e. table_accepted→ t (accepted-answer (table_reasons t) done refl e),
  λ w. answer-accepted (table_reasons t) done (→table_accepted (copies_in t) t w),
)

module _ {n : ℕ} {t : List ℕ} (w : WellTable n t) where
  pub check_done : check_says t ≡ done
  unfolding check_says
  check_done = answer-accepted (table_reasons t) done (→table_accepted n t w)

  pub update_done : (p : ℕ) → p < n → update_says t p ≡ done
  unfolding update_says
  update_done p h = answer-accepted (update_reasons t p) done (→update-accepted n t p w h)

  pub lend_done : (i : ℕ) → i < n → (lend_says t i ≡ done) × (lend_gives t i ≡ record_in n t i) × (lend_place t i ≡ i * record_size n)
  unfolding lend_says lend_gives lend_place
  lend_done i h =
      let e = →lend_accepted n t i w h in (
        answer-accepted (lend_reasons t i) done e,
        rw (table_copies w) (leave-accepted (lend_reasons t i) [] (record_in n t i) e),
        rw (table_copies w) (leave-accepted (lend_reasons t i) 0 (i * record_size n) e),
      )

  module _ (a b : ℕ) (ha : a < n) (hb : b < n) where
    pub →related : (SomeUnrelated n a b (table_rows n t a) (table_rows n t b) → ⊥) → Related n t a b
    →related h = record { well = w; first = ha; second = hb; related = rw (table_copies w) h }

    pub compare_related : (SomeUnrelated n a b (table_rows n t a) (table_rows n t b) → ⊥)
        → compare_says t a b ≡ ordered (number_of_order (comparison n a b (table_rows n t a) (table_rows n t b)))
    unfolding answer
    compare_related h = compare_by n t w a b ∙ rw (lt-leb n a ha, lt-leb n b hb, related_test n a b (table_rows n t a) (table_rows n t b) h)

    pub compare-unrelated : SomeUnrelated n a b (table_rows n t a) (table_rows n t b) → compare_says t a b ≡ refused 7
    unfolding answer
    compare-unrelated u = compare_by n t w a b ∙ rw (lt-leb n a ha, lt-leb n b hb, →unrelated n a b (table_rows n t a) (table_rows n t b) u)

    pub meet_done : (a ≡ b → ⊥) → (SomeUnrelated n a b (table_rows n t a) (table_rows n t b) → ⊥) → meet_says t a b ≡ done
    unfolding answer
    meet_done ne h =
        meet_by n t w a b ∙ rw (lt-leb n a ha, lt-leb n b hb, ne_eqb a b ne, related_test n a b (table_rows n t a) (table_rows n t b) h)

    pub meet-unrelated : (a ≡ b → ⊥) → SomeUnrelated n a b (table_rows n t a) (table_rows n t b) → meet_says t a b ≡ refused 7
    unfolding answer
    meet-unrelated ne u =
        meet_by n t w a b ∙ rw (lt-leb n a ha, lt-leb n b hb, ne_eqb a b ne, →unrelated n a b (table_rows n t a) (table_rows n t b) u)

-- ---- A copy against itself is equal

itself : (a : ℕ) (x : Record) (p : ℕ) → answer_at_slice a a x x p ≡ Level
unfolding answer_at_slice slice_answer_of
itself a x p = rw (eq-eqb (head (x p a)) (head (x p a)) refl)

pub compare_itself : {n : ℕ} {t : List ℕ} → WellTable n t → (a : ℕ) → a < n → compare_says t a a ≡ ordered 0
unfolding answer unrelated comparison
compare_itself {n} {t} w a h =
    let x : Record = table_rows n t a in
    let none : unrelated n a a x x ≡ false = →none n (λ p. is_unrelated (answer_at_slice a a x x p)) (λ p l. ap is_unrelated (itself a x p)) in
    let behind = count_none n (λ p. is_behind (answer_at_slice a a x x p)) (λ p l. ap is_behind (itself a x p)) in
    let ahead = count_none n (λ p. is_ahead (answer_at_slice a a x x p)) (λ p l. ap is_ahead (itself a x p)) in
    compare_by n t w a a
    ∙ rw (lt-leb n a h, none) (ap₂ (λ (i j : ℕ). ordered (number_of_order (order_of i j))) behind ahead)
