-- The one theorem of document 01's bench sheet: each of the cases P1 to P12 gives what is wanted, by computation. Assumes nothing.
use Rattle.std.specs.Prelude.{◌≡◌, refl, map}
use Rattle.model.specs.Bench.{cases}

-- P1 to P12: each case gives what is wanted.
pub bench_sheet : map (λ c. c.got) cases ≡ map (λ c. c.wanted) cases
unfolding cases
bench_sheet = refl
