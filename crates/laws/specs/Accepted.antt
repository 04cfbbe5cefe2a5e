-- When a call is accepted: refusals 1 to 4 let pass exactly the well-formed records and tables, and each call asks the rest of its
-- row conditions. Assumes nothing.
use Rattle.std.specs.Prelude.{◌≡◌, ◌⊎◌, Bool, true, List, ◌++◌, ℕ, ◌≤◌, ◌<◌, length}
use Rattle.std.proofs.Common.{sym, ◌∙◌, inl, inr, ⊎_elim, arith}
use Rattle.parts.specs.Parts.{room}
use Rattle.model.specs.Answers.{accepted}
use Rattle.model.specs.Bytes.{record_size, table_size, copies_in, own_in, record_rows, record_in, record_is_formed, table_is_formed}
use Rattle.model.specs.Calls.{record_reasons, table_reasons, fresh_reasons, update_reasons, meet_reasons, compare_reasons, lend_reasons, superfluous_reasons, pair_reasons}
use Rattle.facts.specs.Cases.{by_lt, by_test, clash}
use Rattle.laws.specs.Layout.{marked_first}
use Rattle.laws.specs.WellFormed.{Marked, WellRecord, WellTable, marked→, →marked, table_copies, record_is_formed→, →record_is_formed, table_is_formed→, →table_is_formed}
use Rattle.laws.specs.Reasons.{NoGround, no_ground→, →no_ground, no_ground_append}
use Rattle.laws.specs.Grounds.{WrongN, WrongLength, SomeUnrelated, CopiesUnrelated, record_grounds, table_grounds, fresh_grounds, copy_rest, copy_grounds, meet_rest, meet_grounds, compare_rest, compare_grounds, superfluous_rest, superfluous_grounds, pair_rest, pair_grounds, right_n, stable, record_same, table_same, fresh_same, update_same, lend_same, meet_same, compare_same, superfluous_same, pair_same}

-- ---- 1 to 4

form_none→ : (b : List ℕ) (size : ℕ) (formed : Bool) (Well : Type 0)
    → (2 ≤ copies_in b → copies_in b ≤ 8 → length b ≡ size → formed ≡ true → Well) → (Well → formed ≡ true)
    → (WrongN (copies_in b) → ⊥) → (WrongLength b size → ⊥) → ((length b ≡ size) × (Well → ⊥) → ⊥) → Well
form_none→ b size formed Well to from r s i =
    let n = right_n r in
    let e = stable (length b) size s in
    by_test formed (to n.0 n.1 e) (λ f. absurd (i (e, λ w. clash (from w) f)))

pub record_none→ : (r : List ℕ) → NoGround (record_grounds r) → WellRecord (copies_in r) r
record_none→ r n =
    form_none→ r (record_size (copies_in r)) (record_is_formed (copies_in r) r) (WellRecord (copies_in r) r)
    (record_is_formed→ (copies_in r) r) (→record_is_formed (copies_in r) r) n.1.0 n.1.1.0 n.1.1.1.0

pub table_none→ : (t : List ℕ) → NoGround (table_grounds t) → WellTable (copies_in t) t
table_none→ t n =
    form_none→ t (table_size (copies_in t)) (table_is_formed (copies_in t) t) (WellTable (copies_in t) t)
    (table_is_formed→ (copies_in t) t) (→table_is_formed (copies_in t) t) n.1.0 n.1.1.0 n.1.1.1.0

not_wrong_n : {n : ℕ} → 2 ≤ n → n ≤ 8 → WrongN n → ⊥
not_wrong_n l h w = ⊎_elim (λ u. omega arith) (λ u. omega arith) w

pub →record_none : (n : ℕ) (r : List ℕ) → WellRecord n r → NoGround (record_grounds r)
→record_none n r w =
    rw w.copies (
      (λ u. ⊎_elim (λ l. omega (arith, w.size)) (λ m. m w.mark) u),
      (not_wrong_n w.least w.most, ((λ l. l w.size), ((λ i. i.1 w), tt))),
    )

pub →table_none : (n : ℕ) (t : List ℕ) → WellTable n t → NoGround (table_grounds t)
→table_none n t w =
    rw (table_copies w) (
      (λ u. ⊎_elim (λ l. omega (arith, w.size, room (record_size n) some)) (λ m. m mark) u),
      (not_wrong_n w.least w.most, ((λ l. l w.size), ((λ i. i.1 w), tt))),
    )
  where
    some : 0 < n
    some = omega (arith, w.least)

    mark : Marked t
    mark = marked→ t (sym (marked_first n t) ∙ →marked (record_in n t 0) (w.copy 0 some).mark)

-- A record, a table passes exactly when it is well formed.
pub record_accepted→ : (r : List ℕ) → accepted (record_reasons r) ≡ true → WellRecord (copies_in r) r
record_accepted→ r e = record_none→ r (no_ground→ (record_reasons r) (record_grounds r) (record_same r) e)

pub →record_accepted : (n : ℕ) (r : List ℕ) → WellRecord n r → accepted (record_reasons r) ≡ true
→record_accepted n r w = →no_ground (record_reasons r) (record_grounds r) (record_same r) (→record_none n r w)

pub table_accepted→ : (t : List ℕ) → accepted (table_reasons t) ≡ true → WellTable (copies_in t) t
table_accepted→ t e = table_none→ t (no_ground→ (table_reasons t) (table_grounds t) (table_same t) e)

pub →table_accepted : (n : ℕ) (t : List ℕ) → WellTable n t → accepted (table_reasons t) ≡ true
→table_accepted n t w = →no_ground (table_reasons t) (table_grounds t) (table_same t) (→table_none n t w)

-- ---- Each call

below : {n i : ℕ} → (n ≤ i → ⊥) → i < n
below {n} {i} h = by_lt i n (λ l. l) (λ l. absurd (h l))

pub fresh-accepted→ : (t : List ℕ) (n : ℕ) → accepted (fresh_reasons t n) ≡ true → (2 ≤ n) × (n ≤ 8) × (length t ≡ table_size n)
fresh-accepted→ t n e =
    let g = no_ground→ (fresh_reasons t n) (fresh_grounds t n) (fresh_same t n) e in
    let r = right_n g.0 in
    (r.0, r.1, stable (length t) (table_size n) g.1.0)

pub →fresh-accepted : (t : List ℕ) (n : ℕ) → 2 ≤ n → n ≤ 8 → length t ≡ table_size n → accepted (fresh_reasons t n) ≡ true
→fresh-accepted t n l h e = →no_ground (fresh_reasons t n) (fresh_grounds t n) (fresh_same t n) (not_wrong_n l h, ((λ u. u e), tt))

copy_none→ : (t : List ℕ) (p : ℕ) → NoGround (copy_grounds t p) → WellTable (copies_in t) t × (p < copies_in t)
copy_none→ t p g = (table_none→ t (g.0, (g.1.0, (g.1.1.0, (g.1.1.1.0, tt)))), below g.1.1.1.1.0)

→copy_none : (n : ℕ) (t : List ℕ) (p : ℕ) → WellTable n t → p < n → NoGround (copy_grounds t p)
→copy_none n t p w h =
    no_ground_append (table_grounds t) (copy_rest t p) (→table_none n t w)
    ((λ u. let c = table_copies w in omega arith), tt)

pub update-accepted→ : (t : List ℕ) (p : ℕ) → accepted (update_reasons t p) ≡ true → WellTable (copies_in t) t × (p < copies_in t)
update-accepted→ t p e = copy_none→ t p (no_ground→ (update_reasons t p) (copy_grounds t p) (update_same t p) e)

pub →update-accepted : (n : ℕ) (t : List ℕ) (p : ℕ) → WellTable n t → p < n → accepted (update_reasons t p) ≡ true
→update-accepted n t p w h = →no_ground (update_reasons t p) (copy_grounds t p) (update_same t p) (→copy_none n t p w h)

pub lend_accepted→ : (t : List ℕ) (i : ℕ) → accepted (lend_reasons t i) ≡ true → WellTable (copies_in t) t × (i < copies_in t)
lend_accepted→ t i e = copy_none→ t i (no_ground→ (lend_reasons t i) (copy_grounds t i) (lend_same t i) e)

pub →lend_accepted : (n : ℕ) (t : List ℕ) (i : ℕ) → WellTable n t → i < n → accepted (lend_reasons t i) ≡ true
→lend_accepted n t i w h = →no_ground (lend_reasons t i) (copy_grounds t i) (lend_same t i) (→copy_none n t i w h)

-- Two copies of a table between which no slice is unrelated.
pub record Related (n : ℕ) (t : List ℕ) (a b : ℕ) : Type 0 where
  pub well : WellTable n t
  pub first : a < n
  pub second : b < n
  pub related : CopiesUnrelated t a b → ⊥

two_none→ : (t : List ℕ) (a b : ℕ) → NoGround (table_grounds t) → ((copies_in t ≤ a) ⊎ (copies_in t ≤ b) → ⊥) → (CopiesUnrelated t a b → ⊥) → Related (copies_in t) t a b
two_none→ t a b g c u = record { well = table_none→ t g; first = below (λ l. c (inl l)); second = below (λ l. c (inr l)); related = u }

→two_none : {n : ℕ} {t : List ℕ} {a b : ℕ} → Related n t a b → (copies_in t ≤ a) ⊎ (copies_in t ≤ b) → ⊥
→two_none {n} {t} {a} {b} r w =
    let c = table_copies r.well in
    ⊎_elim (λ u. omega (arith, r.first)) (λ u. omega (arith, r.second)) w

pub meet-accepted→ : (t : List ℕ) (a b : ℕ) → accepted (meet_reasons t a b) ≡ true → Related (copies_in t) t a b × (a ≡ b → ⊥)
meet-accepted→ t a b e =
    let g = no_ground→ (meet_reasons t a b) (meet_grounds t a b) (meet_same t a b) e in
    (two_none→ t a b (g.0, (g.1.0, (g.1.1.0, (g.1.1.1.0, tt)))) g.1.1.1.1.0 g.1.1.1.1.1.1.0, g.1.1.1.1.1.0)

pub →meet-accepted : (n : ℕ) (t : List ℕ) (a b : ℕ) → Related n t a b → (a ≡ b → ⊥) → accepted (meet_reasons t a b) ≡ true
→meet-accepted n t a b r ne =
    →no_ground (meet_reasons t a b) (meet_grounds t a b) (meet_same t a b)
    (no_ground_append (table_grounds t) (meet_rest t a b)
    (→table_none n t r.well) (→two_none r, (ne, (r.related, tt))))

pub compare-accepted→ : (t : List ℕ) (a b : ℕ) → accepted (compare_reasons t a b) ≡ true → Related (copies_in t) t a b
compare-accepted→ t a b e =
    let g = no_ground→ (compare_reasons t a b) (compare_grounds t a b) (compare_same t a b) e in
    two_none→ t a b (g.0, (g.1.0, (g.1.1.0, (g.1.1.1.0, tt)))) g.1.1.1.1.0 g.1.1.1.1.1.0

pub →compare-accepted : (n : ℕ) (t : List ℕ) (a b : ℕ) → Related n t a b → accepted (compare_reasons t a b) ≡ true
→compare-accepted n t a b r =
    →no_ground (compare_reasons t a b) (compare_grounds t a b) (compare_same t a b)
    (no_ground_append (table_grounds t) (compare_rest t a b)
    (→table_none n t r.well) (→two_none r, (r.related, tt)))

pub superfluous_accepted→ : (t : List ℕ) → accepted (superfluous_reasons t) ≡ true
    → WellTable (copies_in t) t × ((i j : ℕ) → i < j → j < copies_in t → CopiesUnrelated t i j → ⊥)
superfluous_accepted→ t e =
    let g = no_ground→ (superfluous_reasons t) (superfluous_grounds t) (superfluous_same t) e in
    (table_none→ t (g.0, (g.1.0, (g.1.1.0, (g.1.1.1.0, tt)))), λ i j l h u. g.1.1.1.1.0 (i, j, l, h, u))

pub →superfluous_accepted : (n : ℕ) (t : List ℕ) → WellTable n t → ((i j : ℕ) → i < j → j < n → CopiesUnrelated t i j → ⊥)
    → accepted (superfluous_reasons t) ≡ true
→superfluous_accepted n t w h =
    →no_ground (superfluous_reasons t) (superfluous_grounds t) (superfluous_same t)
    (no_ground_append (table_grounds t) (superfluous_rest t)
    (→table_none n t w) ((λ u. h u.0 u.1 u.2 (rw (table_copies w) at u.3) u.4), tt))

-- Two loose records between which no slice is unrelated.
pub record RelatedPair (n : ℕ) (a b : List ℕ) : Type 0 where
  pub first : WellRecord n a
  pub second : WellRecord n b
  pub differ : own_in a ≡ own_in b → ⊥
  pub related : SomeUnrelated n (own_in a) (own_in b) (record_rows n a) (record_rows n b) → ⊥

pub pair_accepted→ : (a b : List ℕ) → accepted (pair_reasons a b) ≡ true → RelatedPair (copies_in a) a b
pair_accepted→ a b e =
    let g = no_ground→ (pair_reasons a b) (pair_grounds a b) (pair_same a b) e in
    let h = g.1.1.1.1 in
    let n : copies_in a ≡ copies_in b = stable (copies_in a) (copies_in b) h.1.1.1.1.0 in
    record {
      first = record_none→ a (g.0, (g.1.0, (g.1.1.0, (g.1.1.1.0, tt))));
      second = rw n (record_none→ b (h.0, (h.1.0, (h.1.1.0, (h.1.1.1.0, tt)))));
      differ = h.1.1.1.1.1.0;
      related = h.1.1.1.1.1.1.0;
    }

pub →pair_accepted : (n : ℕ) (a b : List ℕ) → RelatedPair n a b → accepted (pair_reasons a b) ≡ true
→pair_accepted n a b r =
    →no_ground (pair_reasons a b) (pair_grounds a b) (pair_same a b)
    (no_ground_append (record_grounds a) (record_grounds b ++ pair_rest a b) (→record_none n a r.first)
    (no_ground_append (record_grounds b) (pair_rest a b) (→record_none n b r.second)
    ((λ u. u (r.first.copies ∙ sym r.second.copies)), (r.differ, (rw r.first.copies r.related, tt)))))
