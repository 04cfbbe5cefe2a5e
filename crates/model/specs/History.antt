-- Histories: a list of updates and meetings, run on the bytes of a table by the calls' own definitions with the answers kept, and run
-- on version vectors by the numbers alone, so that a model which refuses everything is not in agreement. Between the two stands the
-- same list run on rows. Assumes nothing.
use Rattle.std.specs.Prelude.{Bool, cond, not, ◌&&◌, List, [], ◌∷◌, ℕ, eqb, ltb}
use Rattle.model.specs.Steps.{Table, updated_table, met_table, unrelated}
use Rattle.model.specs.Answers.{Said}
use Rattle.model.specs.Calls.{update_says, update_leaves, meet_says, meet_leaves}
use Rattle.model.specs.Vectors.{Vectors, updated_vectors, met_vectors}

-- A call of a history, with numbers of any size.
pub data Call : Type 0 where
  update : ℕ → Call
  meet : ℕ → ℕ → Call

-- What a call answers on the bytes of a table, and what it leaves there.
unfoldable pub call_says : List ℕ → Call → Said
call_says t (update p) = update_says t p
call_says t (meet a b) = meet_says t a b

unfoldable pub call_leaves : List ℕ → Call → List ℕ
call_leaves t (update p) = update_leaves t p
call_leaves t (meet a b) = meet_leaves t a b

-- The table after the calls, and the answer of each.
pub record Run : Type 0 where
  pub table : List ℕ
  pub answers : List Said

unfoldable pub run_bytes : List ℕ → List Call → Run
run_bytes t [] = record { table = t; answers = [] }
run_bytes t (c ∷ l) =
    let rest : Run = run_bytes (call_leaves t c) l in
    record { table = rest.table; answers = call_says t c ∷ rest.answers }

-- The numbers of a call are valid: below N, and two different ones for a meeting.
unfoldable pub is_valid : ℕ → Call → Bool
is_valid n (update p) = ltb p n
is_valid n (meet a b) = (ltb a n && ltb b n) && not (eqb a b)

-- What a call does to rows; it is accepted when its numbers are valid and, for a meeting, no slice of the pair is unrelated.
unfoldable pub step_rows : ℕ → Table → Call → Table
step_rows n t (update p) = updated_table n p t
step_rows n t (meet a b) = met_table n a b t

unfoldable pub rows_accept : ℕ → Table → Call → Bool
rows_accept n t (update p) = is_valid n (update p)
rows_accept n t (meet a b) = is_valid n (meet a b) && not (unrelated n a b (t a) (t b))

unfoldable pub call_rows : ℕ → Table → Call → Table
call_rows n t c i p k = cond (rows_accept n t c) (step_rows n t c i p k) (t i p k)

unfoldable pub run_rows : ℕ → Table → List Call → Table
run_rows n t [] = t
run_rows n t (c ∷ l) = run_rows n (call_rows n t c) l

-- What a call does to version vectors; it counts when its numbers are valid.
unfoldable pub step_vectors : Vectors → Call → Vectors
step_vectors v (update p) = updated_vectors p v
step_vectors v (meet a b) = met_vectors a b v

unfoldable pub call_vectors : ℕ → Vectors → Call → Vectors
call_vectors n v c i k = cond (is_valid n c) (step_vectors v c i k) (v i k)

unfoldable pub run_vectors : ℕ → Vectors → List Call → Vectors
run_vectors n v [] = v
run_vectors n v (c ∷ l) = run_vectors n (call_vectors n v c) l
