-- A function that serves a call, by its own contract as its source has it, and what is asked of it: it takes any arguments, every
-- outcome that its `ensures` allows is the call's, and no two outcomes satisfy it. Assumes nothing.
use Rattle.std.specs.Prelude.{◌≡◌, List, ℕ}
use Rattle.std.proofs.Common.{sym, ap, ◌∙◌}
use Rattle.model.specs.Answers.{Said}
use Rattle.model.specs.Promises.{Owed}
use Rattle.demands.specs.Asked.{Asked, says_of, left_by}
use Rattle.demands.specs.Versions.{Outcome}

-- A function's contract, and how it is read.
pub record Service : Type 1 where
  pub Arguments : Type 0
  pub Result : Type 0
  -- The parameters at exit.
  pub Exit : Type 0
  -- What its `requires` asks of the arguments, and what a caller learns from its `ensures`.
  pub Requires : Arguments → Type 0
  pub Learnt : Arguments → Result → Exit → Type 0
  -- The call that the arguments make, what the result says, the lent buffers at exit.
  pub ask : Arguments → Asked
  pub said : Result → Said
  pub lent : Exit → List (List ℕ)

abbrev pub service : {A R S : Type 0} → (A → Type 0) → (A → R → S → Type 0) → (A → Asked) → (R → Said) → (S → List (List ℕ)) → Service
service Requires Learnt ask said lent =
    record { Arguments = _; Result = _; Exit = _; Requires = Requires; Learnt = Learnt; ask = ask; said = said; lent = lent }

pub record Serves (f : Service) : Type 0 where
  -- 'Every call takes any bytes and numbers': nothing is asked of them.
  pub takes : (a : f.Arguments) → f.Requires a
  -- 'For every input the promise determines the answer and each lent byte afterwards, refusals too': it is the outcome definition's.
  pub owes : (a : f.Arguments) (r : f.Result) (s : f.Exit) → f.Learnt a r s
      → Owed (says_of (f.ask a)) (left_by (f.ask a)) (f.said r) (f.lent s)

-- 'no two different outcomes satisfy it': of the same bytes and numbers, by whatever references they come.
abbrev pub Determined : Service → Type 0
Determined f =
    (a a' : f.Arguments) (r r' : f.Result) (s s' : f.Exit)
    → f.ask a ≡ f.ask a' → f.Learnt a r s → f.Learnt a' r' s' → (r ≡ r') × (f.lent s ≡ f.lent s')

-- Where the answers are one-to-one.
pub determined : (f : Service) → Serves f → ((r r' : f.Result) → f.said r ≡ f.said r' → r ≡ r') → Determined f
determined f v once a a' r r' s s' e p p' =
    let x = v.owes a r s p in
    let y = v.owes a' r' s' p' in
    (once r r' (x.answers ∙ ap says_of e ∙ sym y.answers), x.bytes ∙ ap left_by e ∙ sym y.bytes)

-- An outcome of the call q that the function's promise allows.
pub record Allows (f : Service) (q : Asked) (o : Outcome) : Type 0 where
  pub arguments : f.Arguments
  pub result : f.Result
  pub exit : f.Exit
  pub learnt : f.Learnt arguments result exit
  pub asks : f.ask arguments ≡ q
  pub says : f.said result ≡ o.said
  pub leaves : f.lent exit ≡ o.lent

pub allowed_owed : (f : Service) {q : Asked} {o : Outcome} → Serves f → Allows f q o → Owed (says_of q) (left_by q) o.said o.lent
allowed_owed f v e =
    let x = v.owes e.arguments e.result e.exit e.learnt in
    record { answers = sym e.says ∙ x.answers ∙ ap says_of e.asks; bytes = sym e.leaves ∙ x.bytes ∙ ap left_by e.asks }
