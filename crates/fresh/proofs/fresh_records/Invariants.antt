-- `fresh::fresh_records` meets its contract: after as many turns as an own number says the records below it are fresh. Assumes nothing.
use Rattle.parts.proofs.Front.{Front}
use Rattle.model.specs.Steps.{fresh_rows}
use Rattle.model.specs.Bytes.{record_size, record_bytes}
use Rattle.fresh.proofs.fresh_records.Given as goal

abbrev pub invariant-loop-own : goal.invariant-loop-own
invariant-loop-own l = Front 0 (record_size l.n) l.own (λ i. record_bytes l.n i (fresh_rows i)) l.initial.t l.t
