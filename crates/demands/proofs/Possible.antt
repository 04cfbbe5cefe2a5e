-- The promises can be kept together (specs/Possible). Assumes nothing.
use contract.Lifetimes.{Lfts}
use Rattle.demands.specs.Asked.{says_of, left_by}
use Rattle.demands.specs.Library.{Library}
use Rattle.demands.specs.Possible.{allowed}

-- The version that gives the outcome definitions is such a library, whatever lifetimes are taken.
pub library_possible : Lfts 2 → Library (λ k q. record { said = says_of q; lent = left_by q })
library_possible κs k q = (κs, allowed κs q)
