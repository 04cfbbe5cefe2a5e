-- The copies of a checked table: what the check has shown, how two copies compare, and which are superfluous. Assumes nothing.
use Rattle.std.specs.Prelude.{◌≡◌, Bool, cond, not, ◌&&◌, List, ℕ, ◌≤◌, ◌<◌, length, eqb, Result, Ok, Err}
use Rattle.model.specs.Tests.{any}
use Rattle.model.specs.Steps.{Table, unrelated, comparison, is_covered}
use Rattle.model.specs.Bytes.{table_size, record_in}
use Rattle.model.specs.declared.Order.{Order}
use Rattle.model.specs.declared.Refusal.{Refusal}
use Rattle.model.specs.declared.Refusal.TheVariants.{UnrelatedSlice}
use Rattle.slice.specs.Shown.{RecordShown}

pub record TableShown (n : ℕ) (t : List ℕ) : Type 0 where
  pub few : n ≤ 8
  pub long : length t ≡ table_size n
  pub records : (c : ℕ) → c < n → RecordShown n (record_in n t c)

-- Copies a and b of the rows have an unrelated slice; their order where they have none.
unfoldable pub apart : ℕ → Table → ℕ → ℕ → Bool
apart n t a b = unrelated n a b (t a) (t b)

unfoldable pub order : ℕ → Table → ℕ → ℕ → Order
order n t a b = comparison n a b (t a) (t b)

-- Copy i is apart from one of the first m copies that is not itself.
unfoldable pub apart_from : ℕ → Table → ℕ → ℕ → Bool
apart_from n t i m = any m (λ j. not (eqb j i) && apart n t i j)

-- Copy i is covered by one of the first m copies that is not itself.
unfoldable pub covered_by : ℕ → Table → ℕ → ℕ → Bool
covered_by n t i m = any m (λ j. not (eqb j i) && is_covered (order n t i j))

-- From: some other copy is unrelated; some other copy is equal or newer.
abbrev pub cover_of : Bool → Bool → Result Bool Refusal
cover_of apart covered = cond apart (Err UnrelatedSlice) (Ok covered)
