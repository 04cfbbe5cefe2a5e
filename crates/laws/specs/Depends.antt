-- On a well-formed table the answer of update, meeting and comparison, and the named records' bytes after it, depend only on N, the
-- numbers given and the named records: two well-formed tables of the same N that agree on these give the same, refusals included.
-- Assumes nothing.
use Rattle.std.specs.Prelude.{◌≡◌, refl, Bool, true, false, ◌&&◌, ◌||◌, ℕ, ◌<◌, eqb, leb}
use Rattle.std.proofs.Common.{sym, ap₂, ◌∙◌}
use Rattle.std.proofs.Math.Path.{ap}
use mathlib.Core.List.{List, [], ◌∷◌, ◌++◌}
use Rattle.model.specs.Steps.{Record, updated_record, unrelated, comparison, met_record}
use Rattle.model.specs.Answers.{Said, done, ordered, Reason, refuse, answer, accepted, number_of_order}
use Rattle.model.specs.Bytes.{record_bytes, record_rows, record_in, table_rows}
use Rattle.model.specs.Calls.{table_reasons, update_reasons, update_says, update_leaves, unrelated_copies, meet_reasons, meet_says, meet_leaves, copy_order, compare_reasons, compare_says}
use Rattle.facts.specs.Cases.{by_test, clash}
use Rattle.laws.specs.WellFormed.{WellTable, table_copies}
use Rattle.laws.specs.Reasons.{accepted-append}
use Rattle.laws.specs.Accepted.{Related, →table_accepted, update-accepted→, meet-accepted→}
use Rattle.laws.specs.Leaves.{update_record, update_stays, meet_first, meet_second, meet_stays}

-- Where the first reasons let pass, the rest answers.
answer_rest : (l r : List Reason) (a : Said) → accepted l ≡ true → answer (l ++ r) a ≡ answer r a
unfolding answer accepted
answer_rest [] r a e = refl
answer_rest (refuse true k ∷ l) r a e = absurd (clash e refl)
answer_rest (refuse false k ∷ l) r a e = answer_rest l r a e

accepted_rest : (l r : List Reason) → accepted l ≡ true → accepted (l ++ r) ≡ accepted r
accepted_rest l r e = accepted-append l r ∙ ap (λ (b : Bool). b && accepted r) e

-- What a call on a well-formed table of n still asks after refusals 1 to 4.
update_asks : ℕ → ℕ → List Reason
update_asks n p = refuse (leb n p) 5 ∷ []

meet_asks : ℕ → ℕ → ℕ → Record → Record → List Reason
meet_asks n a b x y = refuse (leb n a || leb n b) 5 ∷ refuse (eqb a b) 6 ∷ refuse (unrelated n a b x y) 7 ∷ []

compare_asks : ℕ → ℕ → ℕ → Record → Record → List Reason
compare_asks n a b x y = refuse (leb n a || leb n b) 5 ∷ refuse (unrelated n a b x y) 7 ∷ []

module _ (n : ℕ) (t : List ℕ) (w : WellTable n t) where
  passed : accepted (table_reasons t) ≡ true
  passed = →table_accepted n t w

  update_reasons_lem : (p : ℕ) → update_reasons t p ≡ table_reasons t ++ update_asks n p
  unfolding update_reasons update_asks
  update_reasons_lem p = rw (table_copies w)

  meet_reasons_lem : (a b : ℕ) → meet_reasons t a b ≡ table_reasons t ++ meet_asks n a b (table_rows n t a) (table_rows n t b)
  unfolding meet_reasons meet_asks unrelated_copies
  meet_reasons_lem a b = rw (table_copies w)

  compare_reasons_lem : (a b : ℕ) → compare_reasons t a b ≡ table_reasons t ++ compare_asks n a b (table_rows n t a) (table_rows n t b)
  unfolding compare_reasons compare_asks unrelated_copies
  compare_reasons_lem a b = rw (table_copies w)

  -- What each call says and whether it is accepted, by N, the numbers and the named rows alone.
  pub update_by : (p : ℕ) → update_says t p ≡ answer (refuse (leb n p) 5 ∷ []) done
  unfolding update_says update_asks
  update_by p = ap (λ (l : List Reason). answer l done) (update_reasons_lem p) ∙ answer_rest (table_reasons t) (update_asks n p) done passed

  update-accepted : (p : ℕ) → accepted (update_reasons t p) ≡ accepted (update_asks n p)
  update-accepted p = ap accepted (update_reasons_lem p) ∙ accepted_rest (table_reasons t) (update_asks n p) passed

  pub meet_by : (a b : ℕ)
      → meet_says t a b ≡ answer (refuse (leb n a || leb n b) 5 ∷ refuse (eqb a b) 6 ∷ refuse (unrelated n a b (table_rows n t a) (table_rows n t b)) 7 ∷ []) done
  unfolding meet_says meet_asks
  meet_by a b =
      ap (λ (l : List Reason). answer l done) (meet_reasons_lem a b)
      ∙ answer_rest (table_reasons t) (meet_asks n a b (table_rows n t a) (table_rows n t b)) done passed

  meet-accepted : (a b : ℕ) → accepted (meet_reasons t a b) ≡ accepted (meet_asks n a b (table_rows n t a) (table_rows n t b))
  meet-accepted a b = ap accepted (meet_reasons_lem a b) ∙ accepted_rest (table_reasons t) (meet_asks n a b (table_rows n t a) (table_rows n t b)) passed

  pub compare_by : (a b : ℕ)
      → compare_says t a b
      ≡ answer (refuse (leb n a || leb n b) 5 ∷ refuse (unrelated n a b (table_rows n t a) (table_rows n t b)) 7 ∷ [])
      (ordered (number_of_order (comparison n a b (table_rows n t a) (table_rows n t b))))
  unfolding compare_says compare_asks copy_order
  compare_by a b =
      rw (table_copies w)
      (ap (λ (l : List Reason). answer l (ordered (number_of_order (comparison n a b (table_rows n t a) (table_rows n t b))))) (compare_reasons_lem a b)
      ∙ answer_rest (table_reasons t) (compare_asks n a b (table_rows n t a) (table_rows n t b)) _ passed)

-- ---- Two tables that agree on the named records

module _ (n : ℕ) (t u : List ℕ) (w : WellTable n t) (v : WellTable n u) where
  same_rows : (c : ℕ) → record_in n t c ≡ record_in n u c → table_rows n t c ≡ table_rows n u c
  unfolding table_rows
  same_rows c e = ap (record_rows n) e

  -- An update says the same of every two.
  pub update_says_same : (p : ℕ) → update_says t p ≡ update_says u p
  update_says_same p = update_by n t w p ∙ sym (update_by n u v p)

  pub update-bytes_same : (p : ℕ) → record_in n t p ≡ record_in n u p → record_in n (update_leaves t p) p ≡ record_in n (update_leaves u p) p
  update-bytes_same p e =
      by_test (accepted (update_reasons t p))
      (λ a.
      let h : p < n = rw (table_copies w) at (update-accepted→ t p a).1 in
      update_record n t p w h
      ∙ ap (λ (r : Record). record_bytes n p (updated_record n p r)) (same_rows p e)
      ∙ sym (update_record n u p v h))
      (λ a.
      let a' : accepted (update_reasons u p) ≡ false = update-accepted n u v p ∙ sym (update-accepted n t w p) ∙ a in
      ap (λ (x : List ℕ). record_in n x p) (update_stays t p a) ∙ e ∙ sym (ap (λ (x : List ℕ). record_in n x p) (update_stays u p a')))

  module _ (a b : ℕ) (ea : record_in n t a ≡ record_in n u a) (eb : record_in n t b ≡ record_in n u b) where
    pub meet_says_same : meet_says t a b ≡ meet_says u a b
    meet_says_same =
        meet_by n t w a b
        ∙ ap₂ (λ (x y : Record). answer (refuse (leb n a || leb n b) 5 ∷ refuse (eqb a b) 6 ∷ refuse (unrelated n a b x y) 7 ∷ []) done) (same_rows a ea) (same_rows b eb)
        ∙ sym (meet_by n u v a b)

    pub compare_says_same : compare_says t a b ≡ compare_says u a b
    compare_says_same =
        compare_by n t w a b
        ∙ ap₂ (λ (x y : Record). answer (refuse (leb n a || leb n b) 5 ∷ refuse (unrelated n a b x y) 7 ∷ []) (ordered (number_of_order (comparison n a b x y)))) (same_rows a ea) (same_rows b eb)
        ∙ sym (compare_by n u v a b)

    same_accepted : accepted (meet_reasons t a b) ≡ accepted (meet_reasons u a b)
    same_accepted =
        meet-accepted n t w a b
        ∙ ap₂ (λ (x y : Record). accepted (meet_asks n a b x y)) (same_rows a ea) (same_rows b eb)
        ∙ sym (meet-accepted n u v a b)

    -- Both named records.
    pub meet-bytes_same : (record_in n (meet_leaves t a b) a ≡ record_in n (meet_leaves u a b) a) × (record_in n (meet_leaves t a b) b ≡ record_in n (meet_leaves u a b) b)
    meet-bytes_same =
        by_test (accepted (meet_reasons t a b))
        (λ e.
        let m = meet-accepted→ t a b e in
        let m' = meet-accepted→ u a b (sym same_accepted ∙ e) in
        let r : Related n t a b = rw (table_copies w) at m.0 in
        let r' : Related n u a b = rw (table_copies v) at m'.0 in (
          meet_first n t a b r m.1
              ∙ ap₂ (λ (x y : Record). record_bytes n a (met_record n a b x y x y)) (same_rows a ea) (same_rows b eb)
              ∙ sym (meet_first n u a b r' m.1),
          meet_second n t a b r m.1
              ∙ ap₂ (λ (x y : Record). record_bytes n b (met_record n a b x y y x)) (same_rows a ea) (same_rows b eb)
              ∙ sym (meet_second n u a b r' m.1),
        ))
        (λ e.
        let st : meet_leaves t a b ≡ t = meet_stays t a b e in
        let su : meet_leaves u a b ≡ u = meet_stays u a b (sym same_accepted ∙ e) in (
          ap (λ (x : List ℕ). record_in n x a) st ∙ ea ∙ sym (ap (λ (x : List ℕ). record_in n x a) su),
          ap (λ (x : List ℕ). record_in n x b) st ∙ eb ∙ sym (ap (λ (x : List ℕ). record_in n x b) su),
        ))
