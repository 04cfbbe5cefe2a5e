-- What the header of a record or a table tells before anything behind it is looked at. Assumes nothing.
use Rattle.std.specs.Prelude.{true, List, ℕ, take}
use Rattle.model.specs.Answers.{Reason}
use Rattle.model.specs.Calls.{form_reasons}

-- The first two reasons of `form_reasons`, which ask for neither a size nor a form: no mark, N not 2 to 8.
unfoldable pub header_reasons : List ℕ → List Reason
header_reasons b = take 2 (form_reasons b 0 true)
