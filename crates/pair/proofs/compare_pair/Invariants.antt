-- `pair::compare_pair` meets its contract. The invariant: the slices below p are counted, and none is unrelated. Assumes nothing.
use Rattle.model.specs.Bytes.{record_rows}
use Rattle.pair.specs.Counted.{Counted}
use Rattle.pair.proofs.compare_pair.Given as goal

abbrev pub invariant-loop-p : goal.invariant-loop-p
invariant-loop-p l = Counted l.n l.a l.b (record_rows l.n l.x) (record_rows l.n l.y) l.p l.behind l.ahead
