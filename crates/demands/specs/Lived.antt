-- Histories lived with a version of the library: the calls are made one after another, each on the bytes that the last one left. Where
-- the version meets the promise they are the histories of the outcome definitions. Assumes a version that meets the promise.
use Rattle.std.specs.Prelude.{◌≡◌, ℕ, ◌+◌}
use Rattle.std.proofs.Math.Path.{refl, ap, ap₂}
use Rattle.std.proofs.Common.{◌∙◌}
use mathlib.Core.List.{List, [], ◌∷◌}
use Rattle.model.specs.Answers.{Said}
use Rattle.model.specs.Calls.{fresh_leaves}
use Rattle.model.specs.History.{Call, update, meet, call_says, call_leaves, Run, run_bytes}
use Rattle.demands.specs.Asked.{Asked}
use Rattle.demands.specs.Versions.{Version, Meets}

-- A call of a history, asked of the bytes of a table; the buffer that it was lent.
abbrev pub asked : List ℕ → Call → Asked
asked t (update p) = Asked.update t p
asked t (meet a b) = Asked.meet t a b

abbrev pub buffer : List (List ℕ) → List ℕ
buffer [] = []
buffer (b ∷ l) = b

-- The table after the calls, and the answer of each; k calls went before.
unfoldable pub lived : Version → ℕ → List ℕ → List Call → Run
lived v k t [] = record { table = t; answers = [] }
lived v k t (c ∷ l) =
    let rest : Run = lived v (k + 1) (buffer (v k (asked t c)).lent) l in
    record { table = rest.table; answers = (v k (asked t c)).said ∷ rest.answers }

module _ (v : Version) (m : Meets v) where
  call_said : (k : ℕ) (t : List ℕ) (c : Call) → (v k (asked t c)).said ≡ call_says t c
  unfolding call_says
  call_said k t (update p) = (m k (Asked.update t p)).answers
  call_said k t (meet a b) = (m k (Asked.meet t a b)).answers

  call_left : (k : ℕ) (t : List ℕ) (c : Call) → buffer (v k (asked t c)).lent ≡ call_leaves t c
  unfolding call_leaves
  call_left k t (update p) = ap buffer (m k (Asked.update t p)).bytes
  call_left k t (meet a b) = ap buffer (m k (Asked.meet t a b)).bytes

  pub lived_run : (l : List Call) (k : ℕ) (t : List ℕ) → lived v k t l ≡ run_bytes t l
  unfolding lived run_bytes
  lived_run [] k t = refl
  lived_run (c ∷ l) k t =
      let rest : lived v (k + 1) (buffer (v k (asked t c)).lent) l ≡ run_bytes (call_leaves t c) l =
      lived_run l (k + 1) (buffer (v k (asked t c)).lent) ∙ ap (λ (u : List ℕ). run_bytes u l) (call_left k t c) in
      ap₂ (λ (s : Said) (r : Run). record { table = r.table; answers = s ∷ r.answers }) (call_said k t c) rest

-- A fresh table made in the buffer b by the first call, and then the calls of l.
abbrev pub lived_from : Version → ℕ → List ℕ → List Call → Run
lived_from v n b l = lived v 1 (buffer (v 0 (Asked.fresh b n)).lent) l

pub from_run : (v : Version) → Meets v → (n : ℕ) (b : List ℕ) (l : List Call) → lived_from v n b l ≡ run_bytes (fresh_leaves b n) l
from_run v m n b l =
    lived_run v m l 1 (buffer (v 0 (Asked.fresh b n)).lent) ∙ ap (λ (t : List ℕ). run_bytes t l) (ap buffer (m 0 (Asked.fresh b n)).bytes)
