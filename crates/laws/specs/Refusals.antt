-- The answers of every call: refusal k exactly when row k of the refusal table holds and no earlier row in that call's order does, the
-- call's own answer exactly when none does, and never a number that the call's list lacks; and a refusal leaves every byte. (Writing
-- rows: ReadWrite.) Assumes nothing.
use Rattle.std.specs.Prelude.{◌≡◌, refl, ◌⊎◌, ◌↔◌, true, List, [], ◌∷◌, ℕ}
use Rattle.std.proofs.Common.{sym, ⊎_elim, inl, inr}
use Rattle.std.specs.Int.Count.{ones}
use Rattle.model.specs.Steps.{comparison}
use Rattle.model.specs.Answers.{Said, refused, done, ordered, listed, Reason, answer, leave, number_of_order}
use Rattle.model.specs.Bytes.{copies_in, own_in, record_rows}
use Rattle.model.specs.Calls.{record_reasons, table_reasons, fresh_reasons, fresh_says, fresh_leaves, check_says, update_reasons, update_says, update_leaves, meet_reasons, meet_says, meet_leaves, copy_order, compare_reasons, compare_says, lend_reasons, lend_says, lend_gives, lend_place, superfluous_reasons, superfluous_mask_of, superfluous_says, check_record_says, pair_reasons, meet_records_says, meet_records_leaves_first, meet_records_leaves_second, compare_records_says, blank_rows, read_says, read_gives}
use Rattle.facts.specs.Members.{In}
use Rattle.laws.specs.Reasons.{Ground, ground, First, NoGround, SaySame, is_own, answer_either, answer-accepted, accepted-answer, refused_not, leave_refused, first→, →first, no_ground→, →no_ground}
use Rattle.laws.specs.Grounds.{record_grounds, table_grounds, fresh_grounds, copy_grounds, meet_grounds, compare_grounds, superfluous_grounds, pair_grounds, record_same, table_same, fresh_same, update_same, lend_same, meet_same, compare_same, superfluous_same, pair_same}

-- The numbers that a call's rows have.
abbrev pub list_of : List Ground → List ℕ
list_of [] = []
list_of (ground P k ∷ g) = k ∷ list_of g

-- What a call says, by its own answer and its rows.
pub record Ruled (says own : Said) (g : List Ground) : Type 0 where
  pub refuses : (k : ℕ) → (says ≡ refused k) ↔ First g k
  pub answers : (says ≡ own) ↔ NoGround g
  pub nothing_else : (says ≡ own) ⊎ ((k : ℕ) × In k (list_of g) × (says ≡ refused k))

first_listed : (g : List Ground) (k : ℕ) → First g k → In k (list_of g)
first_listed [] k f = f
first_listed (ground P m ∷ g) k (inl f) = inl (sym f.1)
first_listed (ground P m ∷ g) k (inr f) = inr (first_listed g k f.1)

pub ruled : (l : List Reason) (g : List Ground) (a : Said) → is_own a ≡ true → SaySame l g → Ruled (answer l a) a g
ruled l g a o s =
    record {
      refuses = λ k. (first→ l g a k o s, →first l g a k s);
      answers = (λ e. no_ground→ l g s (accepted-answer l a o e), λ n. answer-accepted l a (→no_ground l g s n));
      nothing_else = ⊎_elim inl (λ w. inr (w.0, first_listed g w.0 (first→ l g a w.0 o s w.1), w.1)) (answer_either l a);
    }

pub fresh_ruled : (t : List ℕ) (n : ℕ) → Ruled (fresh_says t n) done (fresh_grounds t n)
unfolding fresh_says
fresh_ruled t n = ruled (fresh_reasons t n) (fresh_grounds t n) done refl (fresh_same t n)

pub check_ruled : (t : List ℕ) → Ruled (check_says t) done (table_grounds t)
unfolding check_says
check_ruled t = ruled (table_reasons t) (table_grounds t) done refl (table_same t)

pub update_ruled : (t : List ℕ) (p : ℕ) → Ruled (update_says t p) done (copy_grounds t p)
unfolding update_says
update_ruled t p = ruled (update_reasons t p) (copy_grounds t p) done refl (update_same t p)

pub meet_ruled : (t : List ℕ) (a b : ℕ) → Ruled (meet_says t a b) done (meet_grounds t a b)
unfolding meet_says
meet_ruled t a b = ruled (meet_reasons t a b) (meet_grounds t a b) done refl (meet_same t a b)

pub compare_ruled : (t : List ℕ) (a b : ℕ) → Ruled (compare_says t a b) (ordered (number_of_order (copy_order t a b))) (compare_grounds t a b)
unfolding compare_says
compare_ruled t a b =
    ruled (compare_reasons t a b) (compare_grounds t a b) (ordered (number_of_order (copy_order t a b))) refl (compare_same t a b)

pub lend_ruled : (t : List ℕ) (i : ℕ) → Ruled (lend_says t i) done (copy_grounds t i)
unfolding lend_says
lend_ruled t i = ruled (lend_reasons t i) (copy_grounds t i) done refl (lend_same t i)

pub superfluous_ruled : (t : List ℕ) → Ruled (superfluous_says t) (listed (superfluous_mask_of t) (ones (superfluous_mask_of t))) (superfluous_grounds t)
unfolding superfluous_says
superfluous_ruled t =
    ruled (superfluous_reasons t) (superfluous_grounds t) (listed (superfluous_mask_of t) (ones (superfluous_mask_of t))) refl (superfluous_same t)

pub check_record_ruled : (r : List ℕ) → Ruled (check_record_says r) done (record_grounds r)
unfolding check_record_says
check_record_ruled r = ruled (record_reasons r) (record_grounds r) done refl (record_same r)

pub meet_records_ruled : (a b : List ℕ) → Ruled (meet_records_says a b) done (pair_grounds a b)
unfolding meet_records_says
meet_records_ruled a b = ruled (pair_reasons a b) (pair_grounds a b) done refl (pair_same a b)

pub compare_records_ruled : (a b : List ℕ)
    → Ruled (compare_records_says a b) (ordered (number_of_order (comparison (copies_in a) (own_in a) (own_in b) (record_rows (copies_in a) a) (record_rows (copies_in a) b)))) (pair_grounds a b)
unfolding compare_records_says
compare_records_ruled a b =
    ruled (pair_reasons a b) (pair_grounds a b)
    (ordered (number_of_order (comparison (copies_in a) (own_in a) (own_in b) (record_rows (copies_in a) a) (record_rows (copies_in a) b))))
    refl (pair_same a b)

pub read_ruled : (r : List ℕ) → Ruled (read_says r) done (record_grounds r)
unfolding read_says
read_ruled r = ruled (record_reasons r) (record_grounds r) done refl (record_same r)

-- ---- A refusal leaves every byte

-- What is left where the answer is a refusal is the old.
pub refused_leaves {ℓ} : {A : Type ℓ} (l : List Reason) (a : Said) (old new : A) (k : ℕ) → is_own a ≡ true → answer l a ≡ refused k → leave l old new ≡ old
refused_leaves l a old new k o e = leave_refused l old new (refused_not l a k o e)

pub fresh_refused : (t : List ℕ) (n k : ℕ) → fresh_says t n ≡ refused k → fresh_leaves t n ≡ t
unfolding fresh_says fresh_leaves
fresh_refused t n k = refused_leaves (fresh_reasons t n) done t _ k refl

pub update_refused : (t : List ℕ) (p k : ℕ) → update_says t p ≡ refused k → update_leaves t p ≡ t
unfolding update_says update_leaves
update_refused t p k = refused_leaves (update_reasons t p) done t _ k refl

pub meet_refused : (t : List ℕ) (a b k : ℕ) → meet_says t a b ≡ refused k → meet_leaves t a b ≡ t
unfolding meet_says meet_leaves
meet_refused t a b k = refused_leaves (meet_reasons t a b) done t _ k refl

pub meet_records_refused : (a b : List ℕ) (k : ℕ) → meet_records_says a b ≡ refused k → (meet_records_leaves_first a b ≡ a) × (meet_records_leaves_second a b ≡ b)
unfolding meet_records_says meet_records_leaves_first meet_records_leaves_second
meet_records_refused a b k e =
    (refused_leaves (pair_reasons a b) done a _ k refl e, refused_leaves (pair_reasons a b) done b _ k refl e)

-- A refused lending has the empty part, at place 0.
pub lend_refused : (t : List ℕ) (i k : ℕ) → lend_says t i ≡ refused k → (lend_gives t i ≡ []) × (lend_place t i ≡ 0)
unfolding lend_says lend_gives lend_place
lend_refused t i k e = (refused_leaves (lend_reasons t i) done [] _ k refl e, refused_leaves (lend_reasons t i) done 0 _ k refl e)

-- A refused reading counts as the blank.
pub read_refused : (r : List ℕ) (k : ℕ) → read_says r ≡ refused k → read_gives r ≡ blank_rows
unfolding read_says read_gives
read_refused r k = refused_leaves (record_reasons r) done blank_rows _ k refl
