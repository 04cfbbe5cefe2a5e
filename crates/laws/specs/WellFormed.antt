-- Document 01's 'well formed' of bytes, as propositions with one field for each item of its sentence, each proved equivalent to the
-- model's test (that refusals 1 to 4 let pass exactly the well formed: Accepted). Assumes nothing.
use Rattle.std.specs.Prelude.{◌≡◌, ◌↔◌, ◌&&◌, List, ℕ, ◌+◌, ◌*◌, ◌-◌, ◌≤◌, ◌<◌, drop}
use Rattle.std.proofs.Common.{sym, ◌∙◌}
use Rattle.std.proofs.Math.Bool.{true}
use native.Mathlib.Omega.{arith}
use Rattle.std.proofs.Math.ListN.{length, get_or, length-drop}
use Rattle.std.proofs.Math.Seq.{get_or-drop}
use Rattle.std.proofs.Math.Dec.{eqb, ltb}
use borrow.Author.Tests.{eqb-true, eq-eqb, ltb-true, lt-ltb}
use Rattle.parts.specs.Parts.{part}
use Rattle.model.specs.Tests.{all, every}
use Rattle.model.specs.Bytes.{row_size, slice_size, record_size, table_size, unused, marked, copies_in, own_in, symbols_in, row_in_slice, slice_in, record_in, length_is_formed, symbols_are_formed, principal_is_formed, row_is_formed, slice_is_formed, header_is_formed, record_is_formed, table_is_formed}
use Rattle.facts.specs.Cases.{both→, →both}
use Rattle.facts.specs.Numbers.{all→, →all}
use Rattle.facts.specs.Members.{In, Different, in_at, at_in, every→, →every}
use Rattle.laws.specs.Formed.{IsHead, length_is_formed→, →length_is_formed, symbols_are_formed→, →symbols_are_formed, principal_is_formed→, →principal_is_formed}
use Rattle.laws.specs.Layout.{length-record_in, length-slice_in, length-row_in_slice, copies_in_first}

-- The first two bytes are B5 0A.
abbrev pub Marked : List ℕ → Type 0
Marked b = (get_or b 0 0 ≡ 0xB5) × (get_or b 1 0 ≡ 0x0A)

-- A row: length 1 to N, symbols in range and all different, FF in the unused cells. Cell i is byte 1 + i.
pub record WellRow (n : ℕ) (b : List ℕ) : Type 0 where
  pub filled : 1 ≤ get_or b 0 0
  pub fits : get_or b 0 0 ≤ n
  pub below : (x : ℕ) → In x (symbols_in b) → x < n * n
  pub differ : Different (symbols_in b)
  pub blank : (i : ℕ) → get_or b 0 0 ≤ i → i < n → get_or b (1 + i) 0 ≡ unused

-- A slice: every row; and the principal row's symbols are exactly the set of the heads of all rows.
pub record WellSlice (n own : ℕ) (s : List ℕ) : Type 0 where
  pub row : (k : ℕ) → k < n → WellRow n (part (row_size n) k s)
  pub principal : (x : ℕ) → In x (row_in_slice n s own) ↔ IsHead n (row_in_slice n s) x

-- A record of N = n: the mark, N and size are right, its own number is below N, and each slice.
pub record WellRecord (n : ℕ) (r : List ℕ) : Type 0 where
  pub mark : Marked r
  pub copies : copies_in r ≡ n
  pub least : 2 ≤ n
  pub most : n ≤ 8
  pub size : length r ≡ record_size n
  pub own : own_in r < n
  pub slice : (p : ℕ) → p < n → WellSlice n (own_in r) (slice_in n r p)

-- A table of N = n: N and size are right, each record is well formed, all with the same N, and record i has own number i.
pub record WellTable (n : ℕ) (t : List ℕ) : Type 0 where
  pub least : 2 ≤ n
  pub most : n ≤ 8
  pub size : length t ≡ table_size n
  pub copy : (c : ℕ) → c < n → WellRecord n (record_in n t c)
  pub own : (c : ℕ) → c < n → own_in (record_in n t c) ≡ c

-- The table's own byte N is that n, and its first bytes are the mark.
pub table_copies : {n : ℕ} {t : List ℕ} → WellTable n t → copies_in t ≡ n
table_copies {n} {t} w = sym (copies_in_first n t) ∙ (w.copy 0 (omega (arith, w.least))).copies

-- ---- The model's tests say the same

pub marked→ : (b : List ℕ) → marked b ≡ true → Marked b
unfolding marked
marked→ b e =
    let x = both→ (eqb (get_or b 0 0) 0xB5) (eqb (get_or b 1 0) 0x0A) e in
    (eqb-true (get_or b 0 0) 0xB5 x.0, eqb-true (get_or b 1 0) 0x0A x.1)

pub →marked : (b : List ℕ) → Marked b → marked b ≡ true
unfolding marked
→marked b m = →both (eq-eqb (get_or b 0 0) 0xB5 m.0) (eq-eqb (get_or b 1 0) 0x0A m.1)

module _ (n : ℕ) (b : List ℕ) (wide : length b ≡ row_size n) where
  pub row_is_formed→ : row_is_formed n b ≡ true → WellRow n b
  unfolding row_is_formed
  row_is_formed→ e = record { filled = l.0; fits = l.1; below = s.0; differ = s.1; blank = blank }
    where
      x : (length_is_formed n (get_or b 0 0) ≡ true) × ((symbols_are_formed n (symbols_in b) && every (λ x. eqb x unused) (drop (1 + get_or b 0 0) b)) ≡ true)
      x = both→ (length_is_formed n (get_or b 0 0)) (symbols_are_formed n (symbols_in b) && every (λ x. eqb x unused) (drop (1 + get_or b 0 0) b)) e

      y : (symbols_are_formed n (symbols_in b) ≡ true) × (every (λ x. eqb x unused) (drop (1 + get_or b 0 0) b) ≡ true)
      y = both→ (symbols_are_formed n (symbols_in b)) (every (λ x. eqb x unused) (drop (1 + get_or b 0 0) b)) x.1

      l : (1 ≤ get_or b 0 0) × (get_or b 0 0 ≤ n)
      l = length_is_formed→ n (get_or b 0 0) x.0

      s : ((x : ℕ) → In x (symbols_in b) → x < n * n) × Different (symbols_in b)
      s = symbols_are_formed→ n (symbols_in b) y.0

      blank : (i : ℕ) → get_or b 0 0 ≤ i → i < n → get_or b (1 + i) 0 ≡ unused
      blank i h u =
          let v : i - get_or b 0 0 < length (drop (1 + get_or b 0 0) b) = rw length-drop (omega arith) in
          let at : 1 + get_or b 0 0 + (i - get_or b 0 0) ≡ 1 + i = omega arith in
          let q = in_at (drop (1 + get_or b 0 0) b) (i - get_or b 0 0) v in
          rw (get_or-drop, at) at (eqb-true (get_or (drop (1 + get_or b 0 0) b) (i - get_or b 0 0) 0) unused (every→ (λ x. eqb x unused) (drop (1 + get_or b 0 0) b) y.1 _ q))

  pub →row_is_formed : WellRow n b → row_is_formed n b ≡ true
  unfolding row_is_formed
  →row_is_formed w =
      →both (→length_is_formed n (get_or b 0 0) w.filled w.fits)
      (→both (→symbols_are_formed n (symbols_in b) w.below w.differ) (→every (λ x. eqb x unused) (drop (1 + get_or b 0 0) b) each))
    where
      each : (x : ℕ) → In x (drop (1 + get_or b 0 0) b) → eqb x unused ≡ true
      each x i =
          let q = at_in x (drop (1 + get_or b 0 0) b) i in
          let long : q.0 < length b - (1 + get_or b 0 0) = rw length-drop at q.1 in
          let f : get_or b (1 + (get_or b 0 0 + q.0)) 0 ≡ unused = w.blank (get_or b 0 0 + q.0) (omega arith) (omega arith) in
          let at : 1 + (get_or b 0 0 + q.0) ≡ 1 + get_or b 0 0 + q.0 = omega arith in
          eq-eqb x unused (sym q.2 ∙ get_or-drop (1 + get_or b 0 0) b q.0 0 ∙ (rw at at f))

module _ (n own : ℕ) (s : List ℕ) (wide : length s ≡ slice_size n) where
  pub slice_is_formed→ : slice_is_formed n own s ≡ true → WellSlice n own s
  unfolding slice_is_formed
  slice_is_formed→ e =
      let x = both→ (all n (λ k. row_is_formed n (part (row_size n) k s))) (principal_is_formed n own (row_in_slice n s)) e in
      record {
        row = λ k h. row_is_formed→ n (part (row_size n) k s) (length-row_in_slice n s k wide h) (all→ n (λ k. row_is_formed n (part (row_size n) k s)) x.0 k h);
        principal = principal_is_formed→ n own (row_in_slice n s) x.1;
      }

  pub →slice_is_formed : WellSlice n own s → slice_is_formed n own s ≡ true
  unfolding slice_is_formed
  →slice_is_formed w =
      →both
      (→all n (λ k. row_is_formed n (part (row_size n) k s)) (λ k h. →row_is_formed n (part (row_size n) k s) (length-row_in_slice n s k wide h) (w.row k h)))
      (→principal_is_formed n own (row_in_slice n s) w.principal)

module _ (n : ℕ) (r : List ℕ) where
  pub record_is_formed→ : 2 ≤ n → n ≤ 8 → length r ≡ record_size n → record_is_formed n r ≡ true → WellRecord n r
  unfolding record_is_formed header_is_formed
  record_is_formed→ low high size e =
      let x = both→ (marked r && (eqb (copies_in r) n && ltb (own_in r) n)) (all n (λ p. slice_is_formed n (own_in r) (slice_in n r p))) e in
      let y = both→ (marked r) (eqb (copies_in r) n && ltb (own_in r) n) x.0 in
      let z = both→ (eqb (copies_in r) n) (ltb (own_in r) n) y.1 in
      record {
        mark = marked→ r y.0;
        copies = eqb-true (copies_in r) n z.0;
        least = low;
        most = high;
        size = size;
        own = ltb-true (own_in r) n z.1;
        slice = λ p h. slice_is_formed→ n (own_in r) (slice_in n r p) (length-slice_in n r p size h) (all→ n (λ p. slice_is_formed n (own_in r) (slice_in n r p)) x.1 p h);
      }

  pub →record_is_formed : WellRecord n r → record_is_formed n r ≡ true
  unfolding record_is_formed header_is_formed
  →record_is_formed w =
      →both (→both (→marked r w.mark) (→both (eq-eqb (copies_in r) n w.copies) (lt-ltb (own_in r) n w.own)))
      (→all n (λ p. slice_is_formed n (own_in r) (slice_in n r p)) (λ p h. →slice_is_formed n (own_in r) (slice_in n r p) (length-slice_in n r p w.size h) (w.slice p h)))

module _ (n : ℕ) (t : List ℕ) where
  pub table_is_formed→ : 2 ≤ n → n ≤ 8 → length t ≡ table_size n → table_is_formed n t ≡ true → WellTable n t
  unfolding table_is_formed
  table_is_formed→ low high size e = record { least = low; most = high; size = size; copy = copy; own = own }
    where
      each : (c : ℕ) → c < n → (eqb (own_in (record_in n t c)) c ≡ true) × (record_is_formed n (record_in n t c) ≡ true)
      each c h =
          both→ (eqb (own_in (record_in n t c)) c) (record_is_formed n (record_in n t c))
          (all→ n (λ c. eqb (own_in (record_in n t c)) c && record_is_formed n (record_in n t c)) e c h)

      copy : (c : ℕ) → c < n → WellRecord n (record_in n t c)
      copy c h = record_is_formed→ n (record_in n t c) low high (length-record_in n t c size h) (each c h).1

      own : (c : ℕ) → c < n → own_in (record_in n t c) ≡ c
      own c h = eqb-true (own_in (record_in n t c)) c (each c h).0

  pub →table_is_formed : WellTable n t → table_is_formed n t ≡ true
  unfolding table_is_formed
  →table_is_formed w =
      →all n (λ c. eqb (own_in (record_in n t c)) c && record_is_formed n (record_in n t c))
      (λ c h. →both (eq-eqb (own_in (record_in n t c)) c (w.own c h)) (→record_is_formed n (record_in n t c) (w.copy c h)))
