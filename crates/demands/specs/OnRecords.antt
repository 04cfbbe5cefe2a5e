-- Demand 2 on two well-formed loose records of one N, and on one (the whole is stated in Demands): what comparison, meeting and check
-- say; rows written and read again. Assumes well-formed records with different own numbers, and rows in their room.
use Rattle.std.specs.Prelude.{◌≡◌, refl, ◌↔◌, true, List, ◌++◌, ℕ}
use Rattle.std.proofs.Common.{sym, ◌∙◌, inl, inr}
use Rattle.model.specs.Steps.{comparison}
use Rattle.model.specs.Answers.{refused, done, ordered, accepted, number_of_order}
use Rattle.model.specs.Bytes.{copies_in, own_in, record_rows}
use Rattle.model.specs.Calls.{record_reasons, check_record_says, pair_reasons, meet_records_says, compare_records_says, read_says, write_reasons, write_says, write_leaves}
use Rattle.model.specs.declared.Rows.{Rows}
use Rattle.laws.specs.WellFormed.{WellRecord}
use Rattle.laws.specs.Reasons.{First, answer-accepted, accepted-answer}
use Rattle.laws.specs.Grounds.{SomeUnrelated, record_grounds, pair_rest, pair_grounds}
use Rattle.laws.specs.Refusals.{meet_records_ruled, compare_records_ruled}
use Rattle.laws.specs.Accepted.{RelatedPair, →record_none, record_accepted→, →record_accepted, →pair_accepted}
use Rattle.laws.specs.Given.{InRoom}
use Rattle.laws.specs.ReadWrite.{write_well}
use Rattle.demands.specs.Behind.{first_behind}

-- Check is done exactly when the record is well formed.
pub check_record_well : (r : List ℕ) → (check_record_says r ≡ done) ↔ WellRecord (copies_in r) r
unfolding check_record_says
check_record_well r = (
  λ e. record_accepted→ r (accepted-answer (record_reasons r) done refl e),
  λ w. answer-accepted (record_reasons r) done (→record_accepted (copies_in r) r w),
)

module _ {n : ℕ} {a b : List ℕ} (w : WellRecord n a) (v : WellRecord n b) (ne : own_in a ≡ own_in b → ⊥) where
  module _ (h : SomeUnrelated n (own_in a) (own_in b) (record_rows n a) (record_rows n b) → ⊥) where
    pub →related_pair : RelatedPair n a b
    →related_pair = record { first = w; second = v; differ = ne; related = h }

    taken : accepted (pair_reasons a b) ≡ true
    taken = →pair_accepted n a b →related_pair

    pub compare_records_related :
        compare_records_says a b ≡ ordered (number_of_order (comparison n (own_in a) (own_in b) (record_rows n a) (record_rows n b)))
    unfolding compare_records_says
    compare_records_related = rw w.copies (answer-accepted (pair_reasons a b) _ taken)

    pub meet_records_done : meet_records_says a b ≡ done
    unfolding meet_records_says
    meet_records_done = answer-accepted (pair_reasons a b) done taken

  module _ (u : SomeUnrelated n (own_in a) (own_in b) (record_rows n a) (record_rows n b)) where
    first_7 : First (pair_grounds a b) 7
    first_7 =
        let here : SomeUnrelated (copies_in a) (own_in a) (own_in b) (record_rows (copies_in a) a) (record_rows (copies_in a) b) = rw w.copies u in
        first_behind (record_grounds a) (record_grounds b ++ pair_rest a b) 7 (→record_none n a w)
        (first_behind (record_grounds b) (pair_rest a b) 7 (→record_none n b v)
        (inr ((λ d. d (w.copies ∙ sym v.copies)), inr (ne, inl (here, refl)))))

    pub compare_records_unrelated : compare_records_says a b ≡ refused 7
    compare_records_unrelated = ((compare_records_ruled a b).refuses 7).1 first_7

    pub meet_records_unrelated : meet_records_says a b ≡ refused 7
    meet_records_unrelated = ((meet_records_ruled a b).refuses 7).1 first_7

-- ---- Rows

pub read_done : {n : ℕ} {r : List ℕ} → WellRecord n r → read_says r ≡ done
unfolding read_says
read_done {n} {r} w = answer-accepted (record_reasons r) done (→record_accepted n r w)

pub write_taken : (b : List ℕ) (x : Rows) → write_says b x ≡ done → accepted (write_reasons b x) ≡ true
unfolding write_says
write_taken b x e = accepted-answer (write_reasons b x) done refl e

pub written_read : (b : List ℕ) (x : Rows) → InRoom x → write_says b x ≡ done → read_says (write_leaves b x) ≡ done
written_read b x i e = read_done (write_well b x i (write_taken b x e))
