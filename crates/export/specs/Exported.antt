-- What a call under a C name promises: the number that it returns, the numbers in its out-parameters and every lent byte, each from
-- what the call of document 01 says. Assumes nothing.
use Rattle.std.specs.Prelude.{◌≡◌, List, [], ◌∷◌, ℕ}
use Rattle.std.proofs.Common.{sym, ◌∙◌}
use Rattle.model.specs.Answers.{Said, refused, done, ordered, listed}
use Rattle.model.specs.declared.Rows.{Rows}

-- The number returned: 0 where the call is done or answered, else the refusal's.
abbrev pub number_of : Said → ℕ
number_of (refused k) = k
number_of done = 0
number_of (ordered k) = 0
number_of (listed m c) = 0

-- The values that an answer has, as they go into out-parameters.
abbrev pub values : Said → List ℕ
values (refused k) = []
values done = []
values (ordered k) = k ∷ []
values (listed m c) = m ∷ c ∷ []

-- What out-parameters hold afterwards: the old at a refusal, else the new.
abbrev pub given {ℓ} : {A : Type ℓ} → Said → A → A → A
given (refused k) old new = old
given done old new = new
given (ordered k) old new = new
given (listed m c) old new = new

-- The rows that four parameters pass.
abbrev pub passed : ℕ → ℕ → List ℕ → List ℕ → Rows
passed n own lengths cells = record { n = n; own = own; lengths = lengths; cells = cells }

-- The number returned, the numbers in the out-parameters and every byte of the lent buffers, each list in the order of the parameters.
pub record Exported (says : Said) (outs : List ℕ) (leaves : List (List ℕ)) (number : ℕ) (out : List ℕ) (lent : List (List ℕ)) : Type 0 where
  pub returns : number ≡ number_of says
  pub puts : out ≡ outs
  pub bytes : lent ≡ leaves

-- Two outcomes that satisfy it are the same.
pub exported_once : {says : Said} {outs : List ℕ} {leaves : List (List ℕ)} {number number' : ℕ} {out out' : List ℕ} {lent lent' : List (List ℕ)}
    → Exported says outs leaves number out lent → Exported says outs leaves number' out' lent'
    → (number ≡ number') × (out ≡ out') × (lent ≡ lent')
exported_once x y = (x.returns ∙ sym y.returns, x.puts ∙ sym y.puts, x.bytes ∙ sym y.bytes)
