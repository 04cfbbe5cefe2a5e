-- The mask of the superfluous copies of a table's rows, or refusal 7 where some pair is unrelated. Assumes nothing.
use Rattle.std.specs.Prelude.{cond, ℕ, Result, Ok, Err}
use Rattle.model.specs.Tests.{any_pair}
use Rattle.model.specs.Steps.{Table, mask_of, is_superfluous}
use Rattle.model.specs.declared.Refusal.{Refusal}
use Rattle.model.specs.declared.Refusal.TheVariants.{UnrelatedSlice}
use Rattle.copies.specs.Copies.{apart, order}

unfoldable pub masked : ℕ → Table → Result ℕ Refusal
masked n t = cond (any_pair n (apart n t)) (Err UnrelatedSlice) (Ok (mask_of n (is_superfluous n (order n t))))
