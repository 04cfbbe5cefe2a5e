-- The one induction over the calls of a history: what holds of rows holds of the rows that are viewed. Assumes N ≥ 2.
use Rattle.std.specs.Prelude.{◌≡◌, refl, true, ℕ, ◌≤◌}
use mathlib.Core.List.{List, [], ◌∷◌}
use Rattle.model.specs.Steps.{fresh_rows}
use Rattle.model.specs.Bytes.{formed_table}
use Rattle.model.specs.Vectors.{Vectors, initial_vectors}
use Rattle.model.specs.History.{Call, call_vectors, run_vectors}
use Rattle.laws.specs.Formed.{→formed_table}
use Rattle.history.specs.Table.{Fine, SameRows, fine_same, fine_fresh}
use Rattle.history.specs.View.{View}
use Rattle.history.proofs.Table.{fine_call}

module _ {n : ℕ} {B : Type 0} (two : 2 ≤ n) (w : View n B) where
  formed : (b : B) {v : Vectors} → Fine n (w.rows b) v → formed_table n (w.rows b) ≡ true
  formed b f = →formed_table n (w.rows b) f.formed

  -- One call.
  moved : (b : B) (c : Call) {v : Vectors} → w.Sound b → Fine n (w.rows b) v → Fine n (w.rows (w.step b c)) (call_vectors n v c)
  moved b c s f = fine_same (fine_call two f c) (w.moves b c s (formed b f)) (λ i k. refl)

  kept : (b : B) (c : Call) {v : Vectors} → w.Sound b → Fine n (w.rows b) v → w.Sound (w.step b c)
  kept b c s f = w.keeps b c s (formed b f)

  -- The run of no call, and of one more: apart from the induction, whose check they would slow down.
  of_none : (b : B) {v : Vectors} → Fine n (w.rows b) v → Fine n (w.rows (w.run b [])) v
  of_none b f = rw (w.none b) f

  of_next : (b : B) (c : Call) (l : List Call) {v : Vectors} → Fine n (w.rows (w.run (w.step b c) l)) v → Fine n (w.rows (w.run b (c ∷ l))) v
  of_next b c l f = rw (w.next b c l) f

  fine_run : (l : List Call) (b : B) {v : Vectors} → w.Sound b → Fine n (w.rows b) v → Fine n (w.rows (w.run b l)) (run_vectors n v l)
  unfolding run_vectors
  fine_run [] b s f = of_none b f
  fine_run (c ∷ l) b s f = of_next b c l (fine_run l (w.step b c) (kept b c s f) (moved b c s f))

  pub fine_history : (b : B) → w.Sound b → SameRows n (w.rows b) fresh_rows → (l : List Call) → Fine n (w.rows (w.run b l)) (run_vectors n initial_vectors l)
  fine_history b s fresh l = fine_run l b s (fine_same (fine_fresh n two) fresh (λ i k. refl))
