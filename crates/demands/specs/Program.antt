-- The program's functions by their own contracts, as the sources have them (`Learnt`, as in CallContracts): what the desk writes for an
-- input is document 01's output text, and no two outcomes satisfy a promise. Assumes nothing.
use Rattle.std.specs.Prelude.{◌≡◌, List, ℕ}
use Rattle.std.proofs.Common.{sym, ◌∙◌}
use contract.Lifetimes.{Lfts}
use borrow.Fn.Kinds.{Dens, ended_of, res_t}
use denote.Triple.Clauses.{AtExit}
use Rattle.print.specs.Room.{Filled, filled_once, put_once}
use Rattle.desk.specs.Desk.{desk_text}
use Rattle.demands.specs.Helpers.{Fixed}
use Rattle.lines.proofs.place_of.Reads as of·place-of
use Rattle.lines.proofs.read_line.Reads as of·read-line
use Rattle.print.proofs.put.Reads as of·put
use Rattle.print.proofs.put_line.Reads as of·put-line
use Rattle.desk.proofs.run.Reads as of·run
use Rattle.desk.proofs.run.Kinds as run·kinds

-- ---- lines

pub place_of_fixed : (κs : Lfts 1) → Fixed (of·place-of.Learnt κs) (λ r s. r)
place_of_fixed κs a r r' s s' p q = p.at ∙ sym q.at

pub read_line_fixed : (κs : Lfts 1) → Fixed (of·read-line.Learnt κs) (λ r s. r)
read_line_fixed κs a r r' s s' p q = p ∙ sym q

-- ---- print

-- What is seen of a writer: where the next text goes, and the buffer.
abbrev pub seen_written : ℕ → List ℕ → ℕ × List ℕ
seen_written r l = (r, l)

both_same : {r r' : ℕ} {l l' : List ℕ} → (r ≡ r') × (l ≡ l') → seen_written r l ≡ seen_written r' l'
both_same e = λ i. (e.0 i, e.1 i)

pub put_fixed : (κs : Lfts 2) → Fixed (of·put.Learnt κs) (λ r s. seen_written r s.0.now)
put_fixed κs a r r' s s' p q = both_same (put_once p q)

pub put_line_fixed : (κs : Lfts 1) → Fixed (of·put-line.Learnt κs) (λ r s. seen_written r s.0.now)
put_line_fixed κs a r r' s s' p q = both_same (put_once p.0 q.0)

-- ---- desk

-- `run` takes any input and any buffer,
pub run_takes : (κs : Lfts 2) (a : Dens κs run·kinds.ps) → of·run.Asked κs a
run_takes κs a = tt

-- fills the buffer with the output text of the input, and says how long the text is.
pub run_fills : (κs : Lfts 2) (a : Dens κs run·kinds.ps) (r : (res_t run·kinds.r κs).Denot) (s : AtExit (ended_of 2 run·kinds.ps run·kinds.r) κs)
    → of·run.Learnt κs a r s → Filled (desk_text a.0.now) a.1.0.now s.1.0.now r
run_fills κs a r s p = p.0

pub run_fixed : (κs : Lfts 2) → Fixed (of·run.Learnt κs) (λ r s. seen_written r s.1.0.now)
run_fixed κs a r r' s s' p q = both_same (filled_once (run_fills κs a r s p) (run_fills κs a r' s' q))
