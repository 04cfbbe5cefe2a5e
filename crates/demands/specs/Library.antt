-- The library as it is: a version whose outcomes are those that the functions' own promises allow. It meets the promise, so the demands
-- hold of it: proofs/Library has demand 1 and demand 3 written out, the latter for histories that are lived with it. Assumes nothing.
use Rattle.std.specs.Prelude.{◌≡◌, false, List, map, ℕ, ◌<◌}
use Rattle.std.proofs.Common.{ap, ◌∙◌}
use Rattle.std.specs.Int.Count.{ones}
use contract.Lifetimes.{Lfts}
use Rattle.model.specs.Tests.{head, is_in}
use Rattle.model.specs.Steps.{is_superfluous, mask_of}
use Rattle.model.specs.Answers.{done, ordered, listed, number_of_order}
use Rattle.model.specs.Bytes.{table_rows}
use Rattle.model.specs.Calls.{fresh_leaves}
use Rattle.model.specs.Vectors.{Vectors, initial_vectors, vector_order}
use Rattle.model.specs.History.{Call, Run, run_bytes}
use Rattle.demands.specs.Asked.{Asked}
use Rattle.demands.specs.Versions.{Version, Meets, Name, Fresh, Check, Update, Meet, Compare, Lend, Superfluous, CheckRecord, CompareRecords, MeetRecords, ReadRows, WriteRows, name_of}
use Rattle.demands.specs.Serves.{Service, Allows}
use Rattle.demands.specs.CallContracts.{fresh, check, update, meet, compare, lend_number, list, check_record, compare_records, meet_records, read_rows, write_rows}
use Rattle.demands.specs.Counted.{by_numbers, accepted_of, vectors_after, table_after}
use Rattle.demands.specs.Demands.{Demand3}
use Rattle.demands.specs.Lived.{buffer}

-- The function that serves a call of each name.
abbrev pub service_of : Lfts 2 → Name → Service
service_of κs Fresh = fresh (κs.0, tt)
service_of κs Check = check (κs.0, tt)
service_of κs Update = update (κs.0, tt)
service_of κs Meet = meet (κs.0, tt)
service_of κs Compare = compare (κs.0, tt)
service_of κs Lend = lend_number (κs.0, tt)
service_of κs Superfluous = list (κs.0, tt)
service_of κs CheckRecord = check_record (κs.0, tt)
service_of κs CompareRecords = compare_records κs
service_of κs MeetRecords = meet_records κs
service_of κs ReadRows = read_rows (κs.0, tt)
service_of κs WriteRows = write_rows (κs.0, tt)

-- Every outcome is one that the promise of the function called allows.
abbrev pub Library : Version → Type 0
Library v = (k : ℕ) (q : Asked) → (κs : Lfts 2) × Allows (service_of κs (name_of q)) q (v k q)

-- ---- Demand 3, lived

-- The version vectors after the calls of a history that were answered 'done'.
abbrev pub vectors_beside : List Call → Run → Vectors
vectors_beside l h = vectors_after initial_vectors (accepted_of l h.answers)

-- After the history h of the calls of l; k calls went before the one that is made then, whatever they were.
pub record Lives (v : Version) (n : ℕ) (l : List Call) (h : Run) : Type 0 where
  pub answers : h.answers ≡ map (by_numbers n) l
  pub compares : (k i j : ℕ) → i < n → j < n → (v k (Asked.compare h.table i j)).said ≡ ordered (number_of_order (vector_order n (vectors_beside l h) i j))
  pub checks : (k : ℕ) → (v k (Asked.check h.table)).said ≡ done
  pub updates : (k p : ℕ) → p < n → (v k (Asked.update h.table p)).said ≡ done
  pub meets : (k i j : ℕ) → i < n → j < n → (i ≡ j → ⊥) → (v k (Asked.meet h.table i j)).said ≡ done
  pub lends : (k i : ℕ) → i < n → (v k (Asked.lend h.table i)).said ≡ done
  pub lists : (k : ℕ) →
      let mask : ℕ = mask_of n (is_superfluous n (vector_order n (vectors_beside l h))) in
      (v k (Asked.superfluous h.table)).said ≡ listed mask (ones mask)
  pub unseen : (k p c : ℕ) → p < n → c < n
      → is_in (head (table_rows n (buffer (v k (Asked.update h.table p)).lent) p p p)) (table_rows n h.table c p c) ≡ false

pub lives : (v : Version) → Meets v → (n : ℕ) (b : List ℕ) (l : List Call) → Demand3 n b l → Lives v n l (run_bytes (fresh_leaves b n) l)
lives v m n b l d =
    record {
      answers = d.answers;
      compares = λ k i j hi hj. (m k (Asked.compare (table_after n b l) i j)).answers ∙ d.compares i j hi hj;
      checks = λ k. (m k (Asked.check (table_after n b l))).answers ∙ d.checks;
      updates = λ k p h. (m k (Asked.update (table_after n b l) p)).answers ∙ d.updates p h;
      meets = λ k i j hi hj ne. (m k (Asked.meet (table_after n b l) i j)).answers ∙ d.meets i j hi hj ne;
      lends = λ k i h. (m k (Asked.lend (table_after n b l) i)).answers ∙ d.lends i h;
      lists = λ k. (m k (Asked.superfluous (table_after n b l))).answers ∙ d.lists;
      unseen = λ k p c hp hc. rw (ap buffer (m k (Asked.update (table_after n b l) p)).bytes) (d.unseen p c hp hc);
    }
