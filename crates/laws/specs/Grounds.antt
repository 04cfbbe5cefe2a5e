-- Document 01's refusal table: its rows as propositions, and each call's rows in that call's order, with the proof that each reason
-- of the model says what its row says (what follows from that: Refusals; writing rows: ReadWrite). Assumes nothing.
use Rattle.std.specs.Prelude.{◌≡◌, refl, ◌⊎◌, Bool, true, not, ◌||◌, List, [], ◌∷◌, ◌++◌, ℕ, ◌≤◌, ◌<◌, length, eqb, ltb, leb}
use Rattle.std.proofs.Common.{ap, inl, inr, ⊎_elim, arith, eqb-true, eq-eqb, ne_eqb, ltb-true, lt-ltb, leb-true, le-leb}
use Rattle.std.proofs.lemmas.Bool.{eqb-false, not-true}
use Rattle.model.specs.Tests.{any_pair}
use Rattle.model.specs.Steps.{Record, answer_at_slice, is_unrelated, unrelated}
use Rattle.model.specs.Answers.{Reason, refuse}
use Rattle.model.specs.Bytes.{record_size, table_size, marked, copies_in, own_in, record_rows, table_rows, is_in_range, record_is_formed, table_is_formed}
use Rattle.model.specs.Calls.{form_reasons, record_reasons, table_reasons, fresh_reasons, update_reasons, unrelated_copies, meet_reasons, compare_reasons, lend_reasons, superfluous_reasons, pair_reasons}
use Rattle.model.specs.declared.SliceAnswer.{SliceAnswer}
use Rattle.model.specs.declared.SliceAnswer.TheVariants.{Level, Behind, Ahead, Unrelated}
use Rattle.facts.specs.Cases.{by_eq, by_lt, clash, fails, true_not, either→, →either}
use Rattle.facts.specs.Numbers.{any→, →any, pair→, →pair}
use Rattle.laws.specs.Formed.{is_in_range→, →is_in_range}
use Rattle.laws.specs.WellFormed.{Marked, marked→, →marked, WellRecord, WellTable, record_is_formed→, →record_is_formed, table_is_formed→, →table_is_formed}
use Rattle.laws.specs.Reasons.{Ground, ground, SaySame, say_append}

-- ---- The rows of the table

-- 1: fewer than 4 bytes, or the first two bytes aren't the mark.
abbrev pub Unmarked : List ℕ → Type 0
Unmarked b = (length b < 4) ⊎ (Marked b → ⊥)

-- 2: N not 2 to 8.
abbrev pub WrongN : ℕ → Type 0
WrongN n = (n < 2) ⊎ (8 < n)

-- 3: length not exactly that of the record or table for this N.
abbrev pub WrongLength : List ℕ → ℕ → Type 0
WrongLength b size = length b ≡ size → ⊥

-- 4: lengths right, but not well formed.
abbrev pub IllFormed : List ℕ → ℕ → Type 0 → Type 0
IllFormed b size Well = (length b ≡ size) × (Well → ⊥)

-- 5: a copy number is N or more.
abbrev pub NoCopy : ℕ → ℕ → Type 0
NoCopy n i = n ≤ i

-- 7: an unrelated slice between the pair.
abbrev pub SomeUnrelated : ℕ → ℕ → ℕ → Record → Record → Type 0
SomeUnrelated n a b x y = (p : ℕ) × (p < n) × (answer_at_slice a b x y p ≡ Unrelated)

abbrev pub CopiesUnrelated : List ℕ → ℕ → ℕ → Type 0
CopiesUnrelated t a b = SomeUnrelated (copies_in t) a b (table_rows (copies_in t) t a) (table_rows (copies_in t) t b)

-- ---- Each call's rows, in its order

-- 1, 2, 3, 4 of a record, of a whole table.
abbrev pub form_grounds : List ℕ → ℕ → Type 0 → List Ground
form_grounds b size Well =
    ground (Unmarked b) 1 ∷ ground (WrongN (copies_in b)) 2 ∷ ground (WrongLength b size) 3 ∷ ground (IllFormed b size Well) 4 ∷ []

abbrev pub record_grounds : List ℕ → List Ground
record_grounds r = form_grounds r (record_size (copies_in r)) (WellRecord (copies_in r) r)

abbrev pub table_grounds : List ℕ → List Ground
table_grounds t = form_grounds t (table_size (copies_in t)) (WellTable (copies_in t) t)

-- Fresh: 2, then 3.
abbrev pub fresh_grounds : List ℕ → ℕ → List Ground
fresh_grounds t n = ground (WrongN n) 2 ∷ ground (WrongLength t (table_size n)) 3 ∷ []

-- For a table: 1 to 4, then 5, 6, 7, as far as the call has them. Update and lending.
abbrev pub copy_rest : List ℕ → ℕ → List Ground
copy_rest t i = ground (NoCopy (copies_in t) i) 5 ∷ []

abbrev pub copy_grounds : List ℕ → ℕ → List Ground
copy_grounds t i = table_grounds t ++ copy_rest t i

-- Meeting.
abbrev pub meet_rest : List ℕ → ℕ → ℕ → List Ground
meet_rest t a b =
    ground (NoCopy (copies_in t) a ⊎ NoCopy (copies_in t) b) 5 ∷ ground (a ≡ b) 6 ∷ ground (CopiesUnrelated t a b) 7 ∷ []

abbrev pub meet_grounds : List ℕ → ℕ → ℕ → List Ground
meet_grounds t a b = table_grounds t ++ meet_rest t a b

-- Comparison.
abbrev pub compare_rest : List ℕ → ℕ → ℕ → List Ground
compare_rest t a b = ground (NoCopy (copies_in t) a ⊎ NoCopy (copies_in t) b) 5 ∷ ground (CopiesUnrelated t a b) 7 ∷ []

abbrev pub compare_grounds : List ℕ → ℕ → ℕ → List Ground
compare_grounds t a b = table_grounds t ++ compare_rest t a b

-- Superfluous copies: any pair.
abbrev pub superfluous_rest : List ℕ → List Ground
superfluous_rest t = ground ((i : ℕ) × (j : ℕ) × (i < j) × (j < copies_in t) × CopiesUnrelated t i j) 7 ∷ []

abbrev pub superfluous_grounds : List ℕ → List Ground
superfluous_grounds t = table_grounds t ++ superfluous_rest t

-- For loose records: 1 to 4 of the first, 1 to 4 of the second, then 8, 6, 7.
abbrev pub pair_rest : List ℕ → List ℕ → List Ground
pair_rest a b =
    ground (copies_in a ≡ copies_in b → ⊥) 8
    ∷ ground (own_in a ≡ own_in b) 6
    ∷ ground (SomeUnrelated (copies_in a) (own_in a) (own_in b) (record_rows (copies_in a) a) (record_rows (copies_in a) b)) 7
    ∷ []

abbrev pub pair_grounds : List ℕ → List ℕ → List Ground
pair_grounds a b = record_grounds a ++ (record_grounds b ++ pair_rest a b)

-- ---- Each reason says what its row says

pub wrong_n→ : (n : ℕ) → not (is_in_range n) ≡ true → WrongN n
wrong_n→ n e = by_lt n 2 inl (λ h. by_lt 8 n inr (λ l. absurd (clash (→is_in_range n h l) (not-true (is_in_range n) e))))

pub →wrong_n : (n : ℕ) → WrongN n → not (is_in_range n) ≡ true
→wrong_n n w =
    true_not (fails (is_in_range n) (λ t. let r = is_in_range→ n t in let h : 2 ≤ n = r.0 in let l : n ≤ 8 = r.1 in ⊎_elim (λ u. omega arith) (λ u. omega arith) w))

pub right_n : {n : ℕ} → (WrongN n → ⊥) → (2 ≤ n) × (n ≤ 8)
right_n {n} h = (by_lt n 2 (λ l. absurd (h (inl l))) (λ l. l), by_lt 8 n (λ l. absurd (h (inr l))) (λ l. l))

pub unequal→ : (x y : ℕ) → not (eqb x y) ≡ true → x ≡ y → ⊥
unequal→ x y e = eqb-false x y (not-true (eqb x y) e)

pub →unequal : (x y : ℕ) → (x ≡ y → ⊥) → not (eqb x y) ≡ true
→unequal x y h = true_not (ne_eqb x y h)

pub stable : (x y : ℕ) → ((x ≡ y → ⊥) → ⊥) → x ≡ y
stable x y h = by_eq x y (λ e. e) (λ ne. absurd (h ne))

unmarked→ : (b : List ℕ) → (ltb (length b) 4 || not (marked b)) ≡ true → Unmarked b
unmarked→ b e =
    ⊎_elim (λ t. inl (ltb-true (length b) 4 t)) (λ t. inr (λ m. clash (→marked b m) (not-true (marked b) t)))
    (either→ (ltb (length b) 4) (not (marked b)) e)

→unmarked : (b : List ℕ) → Unmarked b → (ltb (length b) 4 || not (marked b)) ≡ true
→unmarked b u =
    →either (ltb (length b) 4) (not (marked b))
    (⊎_elim (λ l. inl (lt-ltb (length b) 4 l)) (λ n. inr (true_not (fails (marked b) (λ t. n (marked→ b t))))) u)

form_same : (b : List ℕ) (size : ℕ) (formed : Bool) (Well : Type 0)
    → (2 ≤ copies_in b → copies_in b ≤ 8 → length b ≡ size → formed ≡ true → Well) → (Well → formed ≡ true)
    → SaySame (form_reasons b size formed) (form_grounds b size Well)
unfolding form_reasons
form_same b size formed Well to from = (
  refl,
  unmarked→ b,
  →unmarked b,
  λ m. (
    refl,
    wrong_n→ (copies_in b),
    →wrong_n (copies_in b),
    λ r. (
      refl,
      unequal→ (length b) size,
      →unequal (length b) size,
      λ s.
          let i = right_n r in
          let e = stable (length b) size s in
          (refl, (λ t. (e, λ w. clash (from w) (not-true formed t))), (λ w. true_not (fails formed (λ t. w.1 (to i.0 i.1 e t)))), λ z. tt),
    ),
  ),
)

pub record_same : (r : List ℕ) → SaySame (record_reasons r) (record_grounds r)
unfolding record_reasons
record_same r =
    form_same r (record_size (copies_in r)) (record_is_formed (copies_in r) r) (WellRecord (copies_in r) r)
    (record_is_formed→ (copies_in r) r) (→record_is_formed (copies_in r) r)

pub table_same : (t : List ℕ) → SaySame (table_reasons t) (table_grounds t)
unfolding table_reasons
table_same t =
    form_same t (table_size (copies_in t)) (table_is_formed (copies_in t) t) (WellTable (copies_in t) t)
    (table_is_formed→ (copies_in t) t) (→table_is_formed (copies_in t) t)

copy→ : (n a b : ℕ) → (leb n a || leb n b) ≡ true → NoCopy n a ⊎ NoCopy n b
copy→ n a b e = ⊎_elim (λ t. inl (leb-true n a t)) (λ t. inr (leb-true n b t)) (either→ (leb n a) (leb n b) e)

→copy : (n a b : ℕ) → NoCopy n a ⊎ NoCopy n b → (leb n a || leb n b) ≡ true
→copy n a b w = →either (leb n a) (leb n b) (⊎_elim (λ t. inl (le-leb n a t)) (λ t. inr (le-leb n b t)) w)

is_unrelated→ : (s : SliceAnswer) → is_unrelated s ≡ true → s ≡ Unrelated
is_unrelated→ Level e = absurd (clash e refl)
is_unrelated→ Behind e = absurd (clash e refl)
is_unrelated→ Ahead e = absurd (clash e refl)
is_unrelated→ Unrelated e = refl

pub unrelated→ : (n a b : ℕ) (x y : Record) → unrelated n a b x y ≡ true → SomeUnrelated n a b x y
unfolding unrelated
unrelated→ n a b x y e =
    let w = any→ n (λ p. is_unrelated (answer_at_slice a b x y p)) e in
    (w.0, w.1, is_unrelated→ (answer_at_slice a b x y w.0) w.2)

pub →unrelated : (n a b : ℕ) (x y : Record) → SomeUnrelated n a b x y → unrelated n a b x y ≡ true
unfolding unrelated
→unrelated n a b x y w = →any n (λ p. is_unrelated (answer_at_slice a b x y p)) w.0 w.1 (ap is_unrelated w.2)

copies→ : (t : List ℕ) (a b : ℕ) → unrelated_copies t a b ≡ true → CopiesUnrelated t a b
unfolding unrelated_copies
copies→ t a b e = unrelated→ (copies_in t) a b (table_rows (copies_in t) t a) (table_rows (copies_in t) t b) e

→copies : (t : List ℕ) (a b : ℕ) → CopiesUnrelated t a b → unrelated_copies t a b ≡ true
unfolding unrelated_copies
→copies t a b w = →unrelated (copies_in t) a b (table_rows (copies_in t) t a) (table_rows (copies_in t) t b) w

pub fresh_same : (t : List ℕ) (n : ℕ) → SaySame (fresh_reasons t n) (fresh_grounds t n)
unfolding fresh_reasons
fresh_same t n =
    (refl, wrong_n→ n, →wrong_n n, λ r. (refl, unequal→ (length t) (table_size n), →unequal (length t) (table_size n), λ s. tt))

one_copy : (t : List ℕ) (i : ℕ) → SaySame (table_reasons t ++ (refuse (leb (copies_in t) i) 5 ∷ [])) (copy_grounds t i)
one_copy t i =
    say_append (table_reasons t) (refuse (leb (copies_in t) i) 5 ∷ []) (table_grounds t) (copy_rest t i) (table_same t)
    (λ n. (refl, leb-true (copies_in t) i, le-leb (copies_in t) i, λ z. tt))

pub update_same : (t : List ℕ) (p : ℕ) → SaySame (update_reasons t p) (copy_grounds t p)
unfolding update_reasons
update_same t p = one_copy t p

pub lend_same : (t : List ℕ) (i : ℕ) → SaySame (lend_reasons t i) (copy_grounds t i)
unfolding lend_reasons
lend_same t i = one_copy t i

pub meet_same : (t : List ℕ) (a b : ℕ) → SaySame (meet_reasons t a b) (meet_grounds t a b)
unfolding meet_reasons
meet_same t a b =
    say_append (table_reasons t)
    (refuse (leb (copies_in t) a || leb (copies_in t) b) 5 ∷ refuse (eqb a b) 6 ∷ refuse (unrelated_copies t a b) 7 ∷ [])
    (table_grounds t)
    (meet_rest t a b)
    (table_same t)
    (λ n. (refl, copy→ (copies_in t) a b, →copy (copies_in t) a b, λ c. (refl, eqb-true a b, eq-eqb a b, λ d. (refl, copies→ t a b, →copies t a b, λ z. tt))))

pub compare_same : (t : List ℕ) (a b : ℕ) → SaySame (compare_reasons t a b) (compare_grounds t a b)
unfolding compare_reasons
compare_same t a b =
    say_append (table_reasons t)
    (refuse (leb (copies_in t) a || leb (copies_in t) b) 5 ∷ refuse (unrelated_copies t a b) 7 ∷ [])
    (table_grounds t)
    (compare_rest t a b)
    (table_same t)
    (λ n. (refl, copy→ (copies_in t) a b, →copy (copies_in t) a b, λ c. (refl, copies→ t a b, →copies t a b, λ z. tt)))

pub superfluous_same : (t : List ℕ) → SaySame (superfluous_reasons t) (superfluous_grounds t)
unfolding superfluous_reasons
superfluous_same t =
    say_append (table_reasons t)
    (refuse (any_pair (copies_in t) (unrelated_copies t)) 7 ∷ [])
    (table_grounds t)
    (superfluous_rest t)
    (table_same t)
    (λ n. (
      refl,
      (λ e. let w = pair→ (copies_in t) (unrelated_copies t) e in (w.0, w.1, w.2, w.3, copies→ t w.0 w.1 w.4)),
      (λ w. →pair (copies_in t) (unrelated_copies t) w.0 w.1 w.2 w.3 (→copies t w.0 w.1 w.4)),
      λ z. tt,
    ))

pub pair_same : (a b : List ℕ) → SaySame (pair_reasons a b) (pair_grounds a b)
unfolding pair_reasons
pair_same a b =
    say_append (record_reasons a) (record_reasons b ++ last) (record_grounds a) (record_grounds b ++ pair_rest a b) (record_same a)
    (λ n. say_append (record_reasons b) last (record_grounds b) (pair_rest a b) (record_same b)
    (λ m. (
      refl,
      unequal→ (copies_in a) (copies_in b),
      →unequal (copies_in a) (copies_in b),
      λ c. (
        refl,
        eqb-true (own_in a) (own_in b),
        eq-eqb (own_in a) (own_in b),
        λ d. (
          refl,
          unrelated→ (copies_in a) (own_in a) (own_in b) (record_rows (copies_in a) a) (record_rows (copies_in a) b),
          →unrelated (copies_in a) (own_in a) (own_in b) (record_rows (copies_in a) a) (record_rows (copies_in a) b),
          λ z. tt,
        ),
      ),
    )))
  where
    last : List Reason
    last =
        refuse (not (eqb (copies_in a) (copies_in b))) 8
        ∷ refuse (eqb (own_in a) (own_in b)) 6
        ∷ refuse (unrelated (copies_in a) (own_in a) (own_in b) (record_rows (copies_in a) a) (record_rows (copies_in a) b)) 7
        ∷ []
