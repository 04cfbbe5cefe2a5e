-- Versions of the library, as document 01's empty versions need them: one may answer and leave what it likes, and may remember how many
-- calls went before. Assumes nothing.
use Rattle.std.specs.Prelude.{refl, List, ℕ}
use Rattle.model.specs.Answers.{Said}
use Rattle.model.specs.Promises.{Owed}
use Rattle.demands.specs.Asked.{Asked, says_of, left_by}

-- What a version makes of a call: what it says, and the lent buffers afterwards.
pub record Outcome : Type 0 where
  pub said : Said
  pub lent : List (List ℕ)

-- The outcome of a call, after so many calls.
abbrev pub Version : Type 0
Version = ℕ → Asked → Outcome

-- It meets the promise: every call's outcome is what the promise fixes, whatever went before.
abbrev pub Meets : Version → Type 0
Meets v = (k : ℕ) (q : Asked) → Owed (says_of q) (left_by q) (v k q).said (v k q).lent

-- It can be met: by the version that gives the outcome definitions.
pub as_promised : Meets (λ k q. record { said = says_of q; lent = left_by q })
as_promised k q = record { answers = refl; bytes = refl }

-- The calls by name.
pub data Name : Type 0 where
  Fresh Check Update Meet Compare Lend Superfluous CheckRecord CompareRecords MeetRecords ReadRows WriteRows : Name

abbrev pub name_of : Asked → Name
name_of (Asked.fresh t n) = Fresh
name_of (Asked.check t) = Check
name_of (Asked.update t p) = Update
name_of (Asked.meet t a b) = Meet
name_of (Asked.compare t a b) = Compare
name_of (Asked.lend t i) = Lend
name_of (Asked.superfluous t) = Superfluous
name_of (Asked.check_record r) = CheckRecord
name_of (Asked.compare_records a b) = CompareRecords
name_of (Asked.meet_records a b) = MeetRecords
name_of (Asked.read_rows r) = ReadRows
name_of (Asked.write_rows b x) = WriteRows
