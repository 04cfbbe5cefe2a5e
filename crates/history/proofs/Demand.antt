-- Demand 3 on rows, whole: after every list of calls from fresh, with numbers of any size, bounded stamps stand as unbounded version
-- vectors stand after the same list (`Agreement` of specs/Demand.antt). Assumes N ≥ 2.
use Rattle.std.specs.Prelude.{refl, List, ℕ, ◌≤◌, ltb}
use Rattle.std.proofs.Common.{ap, ap₂, ◌∙◌}
use Rattle.model.specs.Tests.{is_in}
use Rattle.model.specs.Steps.{Table, fresh_rows, new_symbol, is_behind, is_ahead, answer_at_slice, order_of, comparison}
use Rattle.model.specs.Vectors.{Vectors, initial_vectors, vector_order}
use Rattle.model.specs.History.{Call, run_rows, run_vectors}
use Rattle.facts.specs.Numbers.{count_same}
use Rattle.facts.specs.Members.{→not_in}
use Rattle.laws.specs.Formed.{→formed_table}
use Rattle.history.specs.Table.{Fine, SameRows, symbol_free}
use Rattle.history.specs.View.{View}
use Rattle.history.specs.Demand.{Agreement, new_head, itself}
use Rattle.history.proofs.Upd.{unused}
use Rattle.history.proofs.Answer.{answer_says}
use Rattle.history.proofs.Table.{accepted, not-unrelated}
use Rattle.history.proofs.View.{fine_history}

agreement : {n : ℕ} {t : Table} {v : Vectors} → 2 ≤ n → Fine n t v → Agreement n t v
unfolding comparison vector_order answer_at_slice
agreement {n} {t} {v} two f =
    record {
      accepts = accepted f;
      related = not-unrelated f;
      agrees = λ a b an bn.
          ap₂ order_of
          (count_same n (λ p. is_behind (answer_at_slice a b (t a) (t b) p)) (λ p. ltb (v a p) (v b p)) (λ p pn. (answer_says (f.slice p pn) a b an bn).behind))
          (count_same n (λ p. is_ahead (answer_at_slice a b (t a) (t b) p)) (λ p. ltb (v b p) (v a p)) (λ p pn. (answer_says (f.slice p pn) a b an bn).ahead));
      unseen = λ p c pn cn.
          ap (λ (x : ℕ). is_in x (t c p c)) (new_head n p t)
          ∙ →not_in (new_symbol n (t p p)) (t c p c) (unused (f.slice p pn) (new_symbol n (t p p)) (symbol_free two f.formed p pn) c cn);
      formed = →formed_table n t f.formed;
    }

-- Demand 3 on rows.
pub demand : (n : ℕ) → 2 ≤ n → (l : List Call) → Agreement n (run_rows n fresh_rows l) (run_vectors n initial_vectors l)
unfolding itself
demand n two l = agreement two (fine_history two (itself n) fresh_rows tt (λ c p k cn pn kn. refl) l)

-- The same of any state that can be viewed as rows and is viewed as fresh rows at first.
pub demand_viewed :
    {n : ℕ} {B : Type 0}
    → 2 ≤ n
    → (w : View n B) (b : B)
    → w.Sound b
    → SameRows n (w.rows b) fresh_rows
    → (l : List Call)
    → Agreement n (w.rows (w.run b l)) (run_vectors n initial_vectors l)
demand_viewed two w b sound fresh l = agreement two (fine_history two w b sound fresh l)
