-- The bytes of a well-formed table viewed as rows: a call on the bytes moves the rows as it moves rows, and is accepted where it is
-- accepted on rows. So what history proves of rows holds of the bytes. Assumes nothing.
use Rattle.std.specs.Prelude.{◌≡◌, refl, false, ◌&&◌, List, ℕ, ◌<◌, eqb}
use Rattle.std.proofs.Common.{sym, ap, ◌∙◌}
use Rattle.std.proofs.Math.Bool.{true, not}
use Rattle.std.proofs.Math.Dec.{ltb}
use borrow.Author.Tests.{ltb-true, lt-ltb, eqb-false, ne_eqb, not-true}
use Rattle.model.specs.Steps.{Table, unrelated}
use Rattle.model.specs.Answers.{accepted}
use Rattle.model.specs.Bytes.{table_rows}
use Rattle.model.specs.Calls.{update_reasons, meet_reasons}
use Rattle.model.specs.History.{Call, update, meet, call_leaves, run_bytes, is_valid, step_rows, rows_accept, call_rows}
use Rattle.facts.specs.Cases.{by_test, agree, fails, clash, true_not, both→, →both, cond_true, cond_false}
use Rattle.laws.specs.WellFormed.{WellTable, table_copies}
use Rattle.laws.specs.Grounds.{SomeUnrelated, unrelated→, →unrelated}
use Rattle.laws.specs.Accepted.{Related, update-accepted→, →update-accepted, meet-accepted→, →meet-accepted}
use Rattle.laws.specs.Leaves.{update_rows, update_stays, update_keeps, meet_rows, meet_stays, meet_keeps}
use Rattle.history.specs.Table.{SameRows}
use Rattle.history.specs.View.{View}

module _ (n : ℕ) (t : List ℕ) (w : WellTable n t) where
  -- Two copies are related in the bytes exactly when no slice of their rows is unrelated.
  related : (a b : ℕ) → a < n → b < n → unrelated n a b (table_rows n t a) (table_rows n t b) ≡ false → Related n t a b
  related a b ha hb e =
      record { well = w; first = ha; second = hb; related = rw (table_copies w) (λ u. clash (→unrelated n a b (table_rows n t a) (table_rows n t b) u) e) }

  update_both : (p : ℕ) → accepted (update_reasons t p) ≡ rows_accept n (table_rows n t) (update p)
  unfolding rows_accept is_valid
  update_both p =
      agree (accepted (update_reasons t p)) (ltb p n)
      (λ e. lt-ltb p n (rw (table_copies w) at (update-accepted→ t p e).1))
      (λ e. →update-accepted n t p w (ltb-true p n e))

  meet_both : (a b : ℕ) → accepted (meet_reasons t a b) ≡ rows_accept n (table_rows n t) (meet a b)
  unfolding rows_accept is_valid
  meet_both a b = agree (accepted (meet_reasons t a b)) (((ltb a n && ltb b n) && not (eqb a b)) && not (unrelated n a b (table_rows n t a) (table_rows n t b))) to from
    where
      to : accepted (meet_reasons t a b) ≡ true → (((ltb a n && ltb b n) && not (eqb a b)) && not (unrelated n a b (table_rows n t a) (table_rows n t b))) ≡ true
      to e =
          let m = meet-accepted→ t a b e in
          let r : Related n t a b = rw (table_copies w) at m.0 in
          let off : SomeUnrelated n a b (table_rows n t a) (table_rows n t b) → ⊥ = rw (table_copies w) at r.related in
          →both (→both (→both (lt-ltb a n r.first) (lt-ltb b n r.second)) (true_not (ne_eqb a b m.1)))
          (true_not (fails (unrelated n a b (table_rows n t a) (table_rows n t b)) (λ u. off (unrelated→ n a b (table_rows n t a) (table_rows n t b) u))))

      from : (((ltb a n && ltb b n) && not (eqb a b)) && not (unrelated n a b (table_rows n t a) (table_rows n t b))) ≡ true → accepted (meet_reasons t a b) ≡ true
      from e =
          let x = both→ ((ltb a n && ltb b n) && not (eqb a b)) (not (unrelated n a b (table_rows n t a) (table_rows n t b))) e in
          let y = both→ (ltb a n && ltb b n) (not (eqb a b)) x.0 in
          let z = both→ (ltb a n) (ltb b n) y.0 in
          →meet-accepted n t a b
          (related a b (ltb-true a n z.0) (ltb-true b n z.1) (not-true (unrelated n a b (table_rows n t a) (table_rows n t b)) x.1))
          (eqb-false a b (not-true (eqb a b) y.1))

-- The rows after a call, where it is accepted and where it isn't.
as_accepted : (n : ℕ) (t u : Table) (c : Call) → rows_accept n t c ≡ true → SameRows n u (step_rows n t c) → SameRows n u (call_rows n t c)
unfolding call_rows
as_accepted n t u c e s i p k hi hp hk = s i p k hi hp hk ∙ sym (cond_true (step_rows n t c i p k) (t i p k) e)

as_refused : (n : ℕ) (t u : Table) (c : Call) → rows_accept n t c ≡ false → SameRows n u t → SameRows n u (call_rows n t c)
unfolding call_rows
as_refused n t u c e s i p k hi hp hk = s i p k hi hp hk ∙ sym (cond_false (step_rows n t c i p k) (t i p k) e)

pub moves : (n : ℕ) (t : List ℕ) (c : Call) → WellTable n t → SameRows n (table_rows n (call_leaves t c)) (call_rows n (table_rows n t) c)
unfolding call_leaves step_rows
moves n t (update p) w =
    by_test (accepted (update_reasons t p))
    (λ e. as_accepted n (table_rows n t) _ (update p) (sym (update_both n t w p) ∙ e) (update_rows n t p w (rw (table_copies w) at (update-accepted→ t p e).1)))
    (λ e. as_refused n (table_rows n t) _ (update p) (sym (update_both n t w p) ∙ e) (λ i q k hi hq hk. ap (λ (u : List ℕ). table_rows n u i q k) (update_stays t p e)))
moves n t (meet a b) w =
    by_test (accepted (meet_reasons t a b))
    (λ e.
    let m = meet-accepted→ t a b e in
    as_accepted n (table_rows n t) _ (meet a b) (sym (meet_both n t w a b) ∙ e) (meet_rows n t a b (rw (table_copies w) at m.0) m.1))
    (λ e. as_refused n (table_rows n t) _ (meet a b) (sym (meet_both n t w a b) ∙ e) (λ i q k hi hq hk. ap (λ (u : List ℕ). table_rows n u i q k) (meet_stays t a b e)))

pub keeps : (n : ℕ) (t : List ℕ) (c : Call) → WellTable n t → WellTable n (call_leaves t c)
unfolding call_leaves
keeps n t (update p) w = update_keeps n t p w
keeps n t (meet a b) w = meet_keeps n t a b w

-- The bytes of a table of n copies, run by the calls' own outcome definitions.
unfoldable pub bytes : (n : ℕ) → View n (List ℕ)
unfolding run_bytes
bytes n =
    record {
      rows = table_rows n;
      step = call_leaves;
      run = λ t l. (run_bytes t l).table;
      none = λ t. refl;
      next = λ t c l. refl;
      Sound = WellTable n;
      keeps = λ t c w f. keeps n t c w;
      moves = λ t c w f. moves n t c w;
    }
