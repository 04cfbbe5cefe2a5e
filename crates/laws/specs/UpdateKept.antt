-- Fresh and update keep well-formedness, on rows: fresh rows are formed, and the update of any formed rows is, forged ones included
-- (the meeting: MeetingKept). For every N ≥ 2. Assumes nothing.
use Rattle.std.specs.Prelude.{◌≡◌, refl, true, not, ◌&&◌, [], ◌∷◌, ℕ, ◌*◌, ◌≤◌, ◌<◌, eqb}
use Rattle.std.proofs.Math.Path.{sym, ap}
use Rattle.std.proofs.Common.{◌∙◌, mul-pos, arith, eq-eqb, ne_eqb, eqb-true}
use Rattle.std.proofs.Math.Logic.{inl, inr, ⊎_elim}
use Rattle.std.proofs.lemmas.Bool.{eqb-false, not-true}
use Rattle.model.specs.Tests.{head}
use Rattle.model.specs.Steps.{Slice, Record, Table, fresh_rows, new_symbol, head_of_other, updated_row, updated_slice, updated_record, updated_table}
use Rattle.facts.specs.Cases.{by_eq, true_not, both→, →both, cond_true, cond_false}
use Rattle.facts.specs.Numbers.{any→, →any}
use Rattle.facts.specs.Members.{In, Different}
use Rattle.facts.specs.Keeping.{keep→, →keep, keep-different}
use Rattle.facts.specs.Counting.{few}
use Rattle.laws.specs.Formed.{IsHead, FormedRow, FormedSlice, FormedRecord, FormedTable, formed_slice_same, formed_record_same}
use Rattle.laws.specs.Free.{new_symbol_below, new_symbol_free}

-- ---- Fresh

pub fresh_row_lem : (n : ℕ) → 1 ≤ n → FormedRow n (0 ∷ [])
fresh_row_lem n h =
    record {
      filled = omega arith;
      fits = omega arith;
      below = λ x i. ⊎_elim (λ e. let p : 0 < n * n = mul-pos h h in omega arith) (λ a. absurd a) i;
      differ = (λ a. a, tt);
    }

pub fresh-kept : (n : ℕ) → 1 ≤ n → FormedTable n fresh_rows
unfolding fresh_rows
fresh-kept n h = record { copy = λ c l. record { slice = λ p m. slice c l } }
  where
    slice : (c : ℕ) → c < n → FormedSlice n c (λ k. 0 ∷ [])
    slice c l =
        record {
          row = λ k u. fresh_row_lem n h;
          principal = λ x. (λ i. ⊎_elim (λ e. (c, l, sym e)) (λ a. absurd a) i, λ w. inl (sym w.2));
        }

-- ---- Update

pub head_of_other→ : (n p : ℕ) (s : Slice) (x : ℕ) → head_of_other n p s x ≡ true → (k : ℕ) × (k < n) × (k ≡ p → ⊥) × (head (s k) ≡ x)
unfolding head_of_other
head_of_other→ n p s x e =
    let w = any→ n (λ k. not (eqb k p) && eqb (head (s k)) x) e in
    let b = both→ (not (eqb w.0 p)) (eqb (head (s w.0)) x) w.2 in
    (w.0, w.1, eqb-false w.0 p (not-true (eqb w.0 p) b.0), eqb-true (head (s w.0)) x b.1)

pub →head_of_other : (n p : ℕ) (s : Slice) (x k : ℕ) → k < n → (k ≡ p → ⊥) → head (s k) ≡ x → head_of_other n p s x ≡ true
unfolding head_of_other
→head_of_other n p s x k h ne e =
    →any n (λ k. not (eqb k p) && eqb (head (s k)) x) k h (→both (true_not (ne_eqb k p ne)) (eq-eqb (head (s k)) x e))

pub updated-own : (n p : ℕ) (s : Slice) → updated_slice n p s p ≡ updated_row n p s
unfolding updated_slice
updated-own n p s = cond_true (updated_row n p s) (s p) (eq-eqb p p refl)

pub updated-other : (n p : ℕ) (s : Slice) (k : ℕ) → (k ≡ p → ⊥) → updated_slice n p s k ≡ s k
unfolding updated_slice
updated-other n p s k ne = cond_false (updated_row n p s) (s k) (ne_eqb k p ne)

module _ (n p : ℕ) (s : Slice) (two : 2 ≤ n) (h : p < n) (f : FormedSlice n p s) where
  within : (x : ℕ) → In x (updated_row n p s) → IsHead n (updated_slice n p s) x
  unfolding updated_row
  within x (inl e) = (p, h, ap head (updated-own n p s) ∙ sym e)
  within x (inr i) =
      let w = head_of_other→ n p s x (keep→ (head_of_other n p s) x (s p) i).1 in
      (w.0, w.1, ap head (updated-other n p s w.0 w.2) ∙ w.3)

  found : (x : ℕ) → IsHead n (updated_slice n p s) x → In x (updated_row n p s)
  unfolding updated_row
  found x w =
      by_eq w.0 p
      (λ e. inl (sym w.2 ∙ ap (λ (k : ℕ). head (updated_slice n p s k)) e ∙ ap head (updated-own n p s)))
      (λ ne.
      let e : head (s w.0) ≡ x = ap head (sym (updated-other n p s w.0 ne)) ∙ w.2 in
      inr (→keep (head_of_other n p s) x (s p) ((f.principal x).1 (w.0, w.1, e)) (→head_of_other n p s x w.0 w.1 ne e)))

  differ : Different (updated_row n p s)
  unfolding updated_row
  differ = (
    λ i. new_symbol_free n p s h f two p h (keep→ (head_of_other n p s) (new_symbol n s) (s p) i).0,
    keep-different (head_of_other n p s) (s p) (f.row p h).differ,
  )

  pub updated_row_lem : FormedRow n (updated_row n p s)
  unfolding updated_row
  updated_row_lem =
      record {
        filled = omega arith;
        fits = few n (λ k. head (updated_slice n p s k)) (updated_row n p s) differ within;
        below = λ x i. ⊎_elim (λ e. rw e (new_symbol_below n p s h f two)) (λ j. (f.row p h).below x (keep→ (head_of_other n p s) x (s p) j).0) i;
        differ = differ;
      }

  pub update_slice_kept : FormedSlice n p (updated_slice n p s)
  update_slice_kept =
      record {
        row = λ k l. by_eq k p
            (λ e. rw (e, updated-own n p s) updated_row_lem)
            (λ ne. rw (updated-other n p s k ne) (f.row k l));
        principal = λ x. (λ i. within x (rw (updated-own n p s) at i), λ w. rw (updated-own n p s) (found x w));
      }

-- Slice q of record c after the update: only slice p of record p changes.
pub updated_record-own : (n p : ℕ) (r : Record) (k : ℕ) → updated_record n p r p k ≡ updated_slice n p (r p) k
unfolding updated_record
updated_record-own n p r k = cond_true (updated_slice n p (r p) k) (r p k) (eq-eqb p p refl)

pub updated_record-other : (n p : ℕ) (r : Record) (q k : ℕ) → (q ≡ p → ⊥) → updated_record n p r q k ≡ r q k
unfolding updated_record
updated_record-other n p r q k ne = cond_false (updated_slice n p (r p) k) (r q k) (ne_eqb q p ne)

pub updated_table-own : (n p : ℕ) (t : Table) (q k : ℕ) → updated_table n p t p q k ≡ updated_record n p (t p) q k
unfolding updated_table
updated_table-own n p t q k = cond_true (updated_record n p (t p) q k) (t p q k) (eq-eqb p p refl)

pub updated_table-other : (n p : ℕ) (t : Table) (c q k : ℕ) → (c ≡ p → ⊥) → updated_table n p t c q k ≡ t c q k
unfolding updated_table
updated_table-other n p t c q k ne = cond_false (updated_record n p (t p) q k) (t c q k) (ne_eqb c p ne)

pub update_record_kept : (n p : ℕ) (r : Record) → 2 ≤ n → p < n → FormedRecord n p r → FormedRecord n p (updated_record n p r)
update_record_kept n p r two h f = record { slice = slice }
  where
    slice : (q : ℕ) → q < n → FormedSlice n p (updated_record n p r q)
    slice q l =
        by_eq q p
        (λ e. rw e (formed_slice_same h (λ k u. sym (updated_record-own n p r k)) (update_slice_kept n p (r p) two h (f.slice p h))))
        (λ ne. formed_slice_same h (λ k u. sym (updated_record-other n p r q k ne)) (f.slice q l))

pub update-kept : (n p : ℕ) (t : Table) → 2 ≤ n → p < n → FormedTable n t → FormedTable n (updated_table n p t)
update-kept n p t two h f = record { copy = copy }
  where
    copy : (c : ℕ) → c < n → FormedRecord n c (updated_table n p t c)
    copy c l =
        by_eq c p
        (λ e. rw e (formed_record_same h (λ q k u v. sym (updated_table-own n p t q k)) (update_record_kept n p (t p) two h (f.copy p h))))
        (λ ne. formed_record_same l (λ q k u v. sym (updated_table-other n p t c q k ne)) (f.copy c l))
