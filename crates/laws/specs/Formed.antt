-- Document 01's 'well formed' of rows that stand in no bytes, as propositions, quantified, each proved equivalent to the model's test.
-- Assumes nothing.
use Rattle.std.specs.Prelude.{◌≡◌, refl, ◌↔◌, Bool, true, List, ℕ, ◌*◌, ◌≤◌, ◌<◌, length, eqb, ltb, leb}
use Rattle.std.proofs.Common.{eqb-true, eq-eqb, ltb-true, lt-ltb, leb-true, le-leb}
use Rattle.model.specs.Tests.{any, all, head, is_in, every, different}
use Rattle.model.specs.Steps.{Slice, Record, Table}
use Rattle.model.specs.Bytes.{is_in_range, length_is_formed, symbols_are_formed, principal_is_formed, formed_row, formed_slice, formed_record, formed_table}
use Rattle.facts.specs.Cases.{both→, →both}
use Rattle.facts.specs.Numbers.{any→, →any, all→, →all}
use Rattle.facts.specs.Members.{In, Different, is_in→, →is_in, different→, →different, every→, →every}

-- A row has length 1 to N, symbols in range and all different.
pub record FormedRow (n : ℕ) (row : List ℕ) : Type 0 where
  pub filled : 1 ≤ length row
  pub fits : length row ≤ n
  pub below : (x : ℕ) → In x row → x < n * n
  pub differ : Different row

-- Symbol x is the head of some row of the slice.
abbrev pub IsHead : ℕ → Slice → ℕ → Type 0
IsHead n s x = (k : ℕ) × (k < n) × (head (s k) ≡ x)

-- Every row; and the principal row's symbols are exactly the set of the heads of all rows.
pub record FormedSlice (n own : ℕ) (s : Slice) : Type 0 where
  pub row : (k : ℕ) → k < n → FormedRow n (s k)
  pub principal : (x : ℕ) → In x (s own) ↔ IsHead n s x

pub record FormedRecord (n own : ℕ) (r : Record) : Type 0 where
  pub slice : (p : ℕ) → p < n → FormedSlice n own (r p)

pub record FormedTable (n : ℕ) (t : Table) : Type 0 where
  pub copy : (c : ℕ) → c < n → FormedRecord n c (t c)

-- ---- The model's tests say the same

pub is_in_range→ : (n : ℕ) → is_in_range n ≡ true → (2 ≤ n) × (n ≤ 8)
unfolding is_in_range
is_in_range→ n e = let b = both→ (leb 2 n) (leb n 8) e in (leb-true 2 n b.0, leb-true n 8 b.1)

pub →is_in_range : (n : ℕ) → 2 ≤ n → n ≤ 8 → is_in_range n ≡ true
unfolding is_in_range
→is_in_range n h l = →both (le-leb 2 n h) (le-leb n 8 l)

pub length_is_formed→ : (n m : ℕ) → length_is_formed n m ≡ true → (1 ≤ m) × (m ≤ n)
unfolding length_is_formed
length_is_formed→ n m e = let b = both→ (leb 1 m) (leb m n) e in (leb-true 1 m b.0, leb-true m n b.1)

pub →length_is_formed : (n m : ℕ) → 1 ≤ m → m ≤ n → length_is_formed n m ≡ true
unfolding length_is_formed
→length_is_formed n m h l = →both (le-leb 1 m h) (le-leb m n l)

pub symbols_are_formed→ : (n : ℕ) (row : List ℕ) → symbols_are_formed n row ≡ true → ((x : ℕ) → In x row → x < n * n) × Different row
unfolding symbols_are_formed
symbols_are_formed→ n row e =
    let b = both→ (every (λ x. ltb x (n * n)) row) (different row) e in
    (λ x i. ltb-true x (n * n) (every→ (λ x. ltb x (n * n)) row b.0 x i), different→ row b.1)

pub →symbols_are_formed : (n : ℕ) (row : List ℕ) → ((x : ℕ) → In x row → x < n * n) → Different row → symbols_are_formed n row ≡ true
unfolding symbols_are_formed
→symbols_are_formed n row h d =
    →both (→every (λ x. ltb x (n * n)) row (λ x i. lt-ltb x (n * n) (h x i))) (→different row d)

pub principal_is_formed→ : (n own : ℕ) (s : Slice) → principal_is_formed n own s ≡ true → (x : ℕ) → In x (s own) ↔ IsHead n s x
unfolding principal_is_formed
principal_is_formed→ n own s e x = (within, found)
  where
    heads : ℕ → Bool
    heads y = any n (λ k. eqb (head (s k)) y)

    b : (every (λ y. any n (λ k. eqb (head (s k)) y)) (s own) ≡ true) × (all n (λ k. is_in (head (s k)) (s own)) ≡ true)
    b = both→ (every (λ y. any n (λ k. eqb (head (s k)) y)) (s own)) (all n (λ k. is_in (head (s k)) (s own))) e

    within : In x (s own) → IsHead n s x
    within i =
        let w = any→ n (λ k. eqb (head (s k)) x) (every→ (λ y. any n (λ k. eqb (head (s k)) y)) (s own) b.0 x i) in
        (w.0, w.1, eqb-true (head (s w.0)) x w.2)

    found : IsHead n s x → In x (s own)
    found w = rw w.2 at (is_in→ (head (s w.0)) (s own) (all→ n (λ k. is_in (head (s k)) (s own)) b.1 w.0 w.1))

pub →principal_is_formed : (n own : ℕ) (s : Slice) → ((x : ℕ) → In x (s own) ↔ IsHead n s x) → principal_is_formed n own s ≡ true
unfolding principal_is_formed
→principal_is_formed n own s h =
    →both
    (→every (λ y. any n (λ k. eqb (head (s k)) y)) (s own)
    (λ x i. let w = (h x).0 i in →any n (λ k. eqb (head (s k)) x) w.0 w.1 (eq-eqb (head (s w.0)) x w.2)))
    (→all n (λ k. is_in (head (s k)) (s own)) (λ k l. →is_in (head (s k)) (s own) ((h (head (s k))).1 (k, l, refl))))

pub formed_row→ : (n : ℕ) (row : List ℕ) → formed_row n row ≡ true → FormedRow n row
unfolding formed_row
formed_row→ n row e =
    let b = both→ (length_is_formed n (length row)) (symbols_are_formed n row) e in
    let l = length_is_formed→ n (length row) b.0 in
    let s = symbols_are_formed→ n row b.1 in
    record { filled = l.0; fits = l.1; below = s.0; differ = s.1 }

pub →formed_row : (n : ℕ) (row : List ℕ) → FormedRow n row → formed_row n row ≡ true
unfolding formed_row
→formed_row n row f = →both (→length_is_formed n (length row) f.filled f.fits) (→symbols_are_formed n row f.below f.differ)

pub formed_slice→ : (n own : ℕ) (s : Slice) → formed_slice n own s ≡ true → FormedSlice n own s
unfolding formed_slice
formed_slice→ n own s e =
    let b = both→ (all n (λ k. formed_row n (s k))) (principal_is_formed n own s) e in
    record { row = λ k h. formed_row→ n (s k) (all→ n (λ k. formed_row n (s k)) b.0 k h); principal = principal_is_formed→ n own s b.1 }

pub →formed_slice : (n own : ℕ) (s : Slice) → FormedSlice n own s → formed_slice n own s ≡ true
unfolding formed_slice
→formed_slice n own s f =
    →both (→all n (λ k. formed_row n (s k)) (λ k h. →formed_row n (s k) (f.row k h))) (→principal_is_formed n own s f.principal)

pub formed_record→ : (n own : ℕ) (r : Record) → formed_record n own r ≡ true → FormedRecord n own r
unfolding formed_record
formed_record→ n own r e = record { slice = λ p h. formed_slice→ n own (r p) (all→ n (λ p. formed_slice n own (r p)) e p h) }

pub →formed_record : (n own : ℕ) (r : Record) → FormedRecord n own r → formed_record n own r ≡ true
unfolding formed_record
→formed_record n own r f = →all n (λ p. formed_slice n own (r p)) (λ p h. →formed_slice n own (r p) (f.slice p h))

pub formed_table→ : (n : ℕ) (t : Table) → formed_table n t ≡ true → FormedTable n t
unfolding formed_table
formed_table→ n t e = record { copy = λ c h. formed_record→ n c (t c) (all→ n (λ c. formed_record n c (t c)) e c h) }

pub →formed_table : (n : ℕ) (t : Table) → FormedTable n t → formed_table n t ≡ true
unfolding formed_table
→formed_table n t f = →all n (λ c. formed_record n c (t c)) (λ c h. →formed_record n c (t c) (f.copy c h))

-- ---- Only the rows below N count

pub formed_row_same : {n : ℕ} {x y : List ℕ} → x ≡ y → FormedRow n x → FormedRow n y
formed_row_same e f = rw e at f

pub formed_slice_same : {n own : ℕ} {s s' : Slice} → own < n → ((k : ℕ) → k < n → s k ≡ s' k) → FormedSlice n own s → FormedSlice n own s'
formed_slice_same {n} {own} {s} {s'} h e f = record { row = λ k l. formed_row_same (e k l) (f.row k l); principal = λ x. (within x, found x) }
  where
    within : (x : ℕ) → In x (s' own) → IsHead n s' x
    within x i = let w = (f.principal x).0 (rw (e own h) i) in (w.0, w.1, rw (e w.0 w.1) at w.2)

    found : (x : ℕ) → IsHead n s' x → In x (s' own)
    found x w = rw (e own h) at ((f.principal x).1 (w.0, w.1, rw (e w.0 w.1) w.2))

pub formed_record_same : {n own : ℕ} {r r' : Record} → own < n → ((p k : ℕ) → p < n → k < n → r p k ≡ r' p k) → FormedRecord n own r → FormedRecord n own r'
formed_record_same h e f = record { slice = λ p l. formed_slice_same h (λ k m. e p k l m) (f.slice p l) }

pub formed_table_same : {n : ℕ} {t t' : Table} → ((c p k : ℕ) → c < n → p < n → k < n → t c p k ≡ t' c p k) → FormedTable n t → FormedTable n t'
formed_table_same e f = record { copy = λ c l. formed_record_same l (λ p k m j. e c p k l m j) (f.copy c l) }
