-- Demand 3 on rows, whole: after every list of calls from fresh, with numbers of any size, bounded stamps stand as unbounded version
-- vectors stand after the same list. The statement uses the model's definitions alone; its proof is in proofs/Demand.antt. Assumes N ≥ 2.
use Rattle.std.specs.Prelude.{◌≡◌, refl, true, false, ℕ, ◌<◌}
use Rattle.std.proofs.Common.{ap, ◌∙◌}
use Rattle.model.specs.Tests.{head, is_in}
use Rattle.model.specs.Steps.{Table, new_symbol, updated_row, updated_table, unrelated, comparison}
use Rattle.model.specs.Bytes.{formed_table}
use Rattle.model.specs.Vectors.{Vectors, vector_order}
use Rattle.model.specs.History.{Call, is_valid, rows_accept, call_rows, run_rows}
use Rattle.laws.specs.UpdateKept.{updated-own, updated_record-own, updated_table-own}
use Rattle.history.specs.View.{View}

-- What demand 3 asks of the rows of a table beside version vectors.
pub record Agreement (n : ℕ) (t : Table) (v : Vectors) : Type 0 where
  -- A call is accepted exactly when its numbers are valid.
  pub accepts : (c : Call) → rows_accept n t c ≡ is_valid n c
  -- No comparison and no meeting finds an unrelated slice.
  pub related : (a b : ℕ) → a < n → b < n → unrelated n a b (t a) (t b) ≡ false
  -- Comparing any two copies gives what the vectors give.
  pub agrees : (a b : ℕ) → a < n → b < n → comparison n a b (t a) (t b) ≡ vector_order n v a b
  -- The head that an update writes stood in no copy's principal row of that slice just before.
  pub unseen : (p c : ℕ) → p < n → c < n → is_in (head (updated_table n p t p p p)) (t c p c) ≡ false
  -- Every record is well formed.
  pub formed : formed_table n t ≡ true

pub new_head : (n p : ℕ) (t : Table) → head (updated_table n p t p p p) ≡ new_symbol n (t p p)
unfolding updated_row
new_head n p t = ap head (updated_table-own n p t p p ∙ updated_record-own n p (t p) p ∙ updated-own n p (t p p))

-- Rows viewed as themselves.
unfoldable pub itself : (n : ℕ) → View n Table
unfolding run_rows
itself n =
    record {
      rows = λ t. t;
      step = call_rows n;
      run = run_rows n;
      none = λ t. refl;
      next = λ t c l. refl;
      Sound = λ t. Unit {0};
      keeps = λ t c s f. tt;
      moves = λ t c s f i p k hi hp hk. refl;
    }
