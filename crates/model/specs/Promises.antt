-- What a public function promises: records that its `ensures` cites, each with the law that two outcomes which satisfy it are the
-- same. A part that is handed back is promised by `Handed` of parts. Assumes nothing.
use Rattle.std.specs.Prelude.{◌≡◌, List, ℕ, Result, Ok, Err}
use Rattle.std.proofs.Common.{refl, sym, ◌∙◌}
use Rattle.model.specs.Answers.{Said, done, said, heard, err_heard}
use Rattle.model.specs.Calls.{blank_rows}
use Rattle.model.specs.declared.Rows.{Rows}
use Rattle.model.specs.declared.Refusal.{Refusal}

-- A call owes its answer, in document 01's number and values, and every byte of every buffer that was lent to be written, in the order
-- of the parameters. A call that only reads was lent none.
pub record Owed (answer : Said) (leaves : List (List ℕ)) (said : Said) (lent : List (List ℕ)) : Type 0 where
  pub answers : said ≡ answer
  pub bytes : lent ≡ leaves

pub owed_once : {answer : Said} {leaves : List (List ℕ)} {said said' : Said} {lent lent' : List (List ℕ)}
    → Owed answer leaves said lent → Owed answer leaves said' lent' → (said ≡ said') × (lent ≡ lent')
owed_once x y = (x.answers ∙ sym y.answers, x.bytes ∙ sym y.bytes)

-- What a reading says, and its rows, for which a refusal counts as the blank.
abbrev pub said_read : Result Rows Refusal → Said
said_read = said (λ _. done)

abbrev pub rows_read : Result Rows Refusal → Rows
rows_read (Ok rows) = rows
rows_read (Err r) = blank_rows

-- Reading owes its answer and the rows.
pub record Read (answer : Said) (gives : Rows) (r : Result Rows Refusal) : Type 0 where
  pub answers : said_read r ≡ answer
  pub rows : rows_read r ≡ gives

pub read_once : {answer : Said} {gives : Rows} {r r' : Result Rows Refusal} → Read answer gives r → Read answer gives r' → r ≡ r'
unfolding heard
read_once {r = r} {r' = r'} x y =
    let says : said_read r ≡ said_read r' = x.answers ∙ sym y.answers in
    let rows : rows_read r ≡ rows_read r' = x.rows ∙ sym y.rows in
    sym (back r) ∙ (λ i. heard (λ _. rows i) (says i)) ∙ back r'
  where
    back : (r : Result Rows Refusal) → heard (λ _. rows_read r) (said_read r) ≡ r
    back (Ok rows) = refl
    back (Err r) = err_heard (λ _. blank_rows) r
