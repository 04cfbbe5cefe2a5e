-- All slices: every call keeps the invariant of each, and is accepted exactly when its numbers are valid. Assumes N ≥ 2 where an update
-- needs a free symbol.
use Rattle.std.specs.Prelude.{◌≡◌, refl, ◌≢◌, true, false, ℕ, ◌≤◌, ◌<◌}
use Rattle.std.proofs.Common.{sym, ◌∙◌, inl, inr, ltb-true}
use Rattle.model.specs.Steps.{Table, new_symbol, updated_row, updated_slice, updated_table, answer_at_slice, unrelated, is_unrelated, met_record, met_table}
use Rattle.model.specs.Vectors.{Vectors, updated_vectors, met_vectors}
use Rattle.model.specs.History.{Call, update, meet, is_valid, step_rows, rows_accept, call_rows, step_vectors, call_vectors}
use Rattle.facts.specs.Cases.{by_eq, by_test, clash, cond_true, cond_false}
use Rattle.facts.specs.Numbers.{→none}
use Rattle.laws.specs.Formed.{FormedTable}
use Rattle.laws.specs.UpdateKept.{updated-own, updated-other, updated_record-own, updated_table-own, updated_table-other, update-kept}
use Rattle.laws.specs.MeetingKept.{→is_named, met_table_first, met_table_second, met_table-other, meet-kept}
use Rattle.history.specs.Upd.{Upd}
use Rattle.history.specs.Slice.{good_same}
use Rattle.history.specs.Table.{Fine, fine_same, symbol_free, elsewhere, uncounted, counted, meet_valid}
use Rattle.history.proofs.Upd.{update_good}
use Rattle.history.proofs.Answer.{answer_says}
use Rattle.history.proofs.Slice.{met_good}

-- ---- Update of copy p

updated : {n : ℕ} {t : Table} → 2 ≤ n → FormedTable n t → (p : ℕ) → p < n → Upd n p (new_symbol n (t p p)) (λ c k. t c p k) (λ c k. updated_table n p t c p k)
unfolding updated_row
updated {n} {t} two f p pn =
    record {
      free = symbol_free two f p pn;
      row = own p ∙ updated-own n p (t p p);
      rest = λ k ne kn. own k ∙ updated-other n p (t p p) k ne;
      other = λ c k ne cn kn. updated_table-other n p t c p k ne;
    }
  where
    own : (k : ℕ) → updated_table n p t p p k ≡ updated_slice n p (t p p) k
    own k = updated_table-own n p t p k ∙ updated_record-own n p (t p) k

fine_update : {n : ℕ} {t : Table} {v : Vectors} → 2 ≤ n → Fine n t v → (p : ℕ) → p < n → Fine n (updated_table n p t) (updated_vectors p v)
fine_update {n} {t} {v} two f p pn =
    record {
      slice = λ q qn. by_eq q p
          (λ e. rw e (update_good (f.slice p pn) (updated two f.formed p pn) (counted p v) (λ c ne cn. uncounted p v c p (λ e. absurd (ne e)))))
          (λ ne. good_same (f.slice q qn) (λ c k cn kn. elsewhere n p q t ne c k) (λ c cn. uncounted p v c q (λ e. ne)));
      formed = update-kept n p t two pn f.formed;
    }

-- ---- Meeting of a and b

fine_meet : {n : ℕ} {t : Table} {v : Vectors} → Fine n t v → (a b : ℕ) → a < n → b < n → a ≢ b → Fine n (met_table n a b t) (met_vectors a b v)
unfolding met_record met_vectors
fine_meet {n} {t} {v} f a b an bn ne =
    record {
      slice = λ p pn.
          met_good (f.slice p pn) an bn
          (λ k kn. met_table_first n a b t p k)
          (λ k kn. met_table_second n a b t p k (λ e. ne (sym e)))
          (λ c k e cn kn. met_table-other n a b t c p k (λ q. clash (→is_named a b c (inl q)) e) (λ q. clash (→is_named a b c (inr q)) e))
          (λ c e cn. rw e)
          (λ c e cn. rw e);
      formed = meet-kept n a b t an bn f.formed;
    }

-- ---- Every call

-- No slice of any pair is unrelated.
pub not-unrelated : {n : ℕ} {t : Table} {v : Vectors} → Fine n t v → (a b : ℕ) → a < n → b < n → unrelated n a b (t a) (t b) ≡ false
unfolding unrelated answer_at_slice
not-unrelated {n} {t} f a b an bn =
    →none n (λ p. is_unrelated (answer_at_slice a b (t a) (t b) p)) (λ p pn. (answer_says (f.slice p pn) a b an bn).related)

-- A call is accepted exactly when its numbers are valid.
pub accepted : {n : ℕ} {t : Table} {v : Vectors} → Fine n t v → (c : Call) → rows_accept n t c ≡ is_valid n c
unfolding rows_accept
accepted f (update p) = refl
accepted {n} {t} f (meet a b) =
    by_test (is_valid n (meet a b))
    (λ e. let (an, bn, ne) = meet_valid n a b e in rw (e, not-unrelated f a b an bn))
    (λ e. rw e)

fine_step : {n : ℕ} {t : Table} {v : Vectors} → 2 ≤ n → Fine n t v → (c : Call) → is_valid n c ≡ true → Fine n (step_rows n t c) (step_vectors v c)
unfolding step_rows step_vectors is_valid
fine_step {n} two f (update p) e = fine_update two f p (ltb-true p n e)
fine_step {n} two f (meet a b) e = let (an, bn, ne) = meet_valid n a b e in fine_meet f a b an bn ne

pub fine_call : {n : ℕ} {t : Table} {v : Vectors} → 2 ≤ n → Fine n t v → (c : Call) → Fine n (call_rows n t c) (call_vectors n v c)
unfolding call_rows call_vectors
fine_call {n} {t} {v} two f c =
    by_test (is_valid n c)
    (λ e. fine_same (fine_step two f c e)
    (λ i p k hi hp hk. cond_true (step_rows n t c i p k) (t i p k) (accepted f c ∙ e))
    (λ i p. cond_true (step_vectors v c i p) (v i p) e))
    (λ e. fine_same f
    (λ i p k hi hp hk. cond_false (step_rows n t c i p k) (t i p k) (accepted f c ∙ e))
    (λ i p. cond_false (step_vectors v c i p) (v i p) e))
