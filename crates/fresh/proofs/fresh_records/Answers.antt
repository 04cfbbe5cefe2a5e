-- `fresh::fresh_records` meets its contract: after as many turns as an own number says the records below it are fresh. Assumes nothing.
use Rattle.std.proofs.Common.{◌≡◌, ap, ◌∙◌, arith, ◌*◌, length}
use Rattle.parts.specs.Parts.{room}
use Rattle.parts.proofs.Front.{front_start, front_next, front_end, lent_back}
use Rattle.model.specs.Bytes.{record_size, table_bytes}
use Rattle.fresh.proofs.Repeated.{length-fresh_record}
use Rattle.fresh.proofs.fresh_records.Goals as goal

pub loop-own-init : goal.loop-own-init
loop-own-init c = front_start _ _ _ _

pub loop-own-preserved : goal.loop-own-preserved
loop-own-preserved c =
    let n = c.args.n in
    let v = c.fresh_record.new.r in
    let wide : length v ≡ record_size n = ap length c.fresh_record.ensures ∙ length-fresh_record n c.loop-own.own c.requires.0 in
    front_next c.loop-own.invariant (c.loop-own.own * record_size n) v _
    (rw c.record_len-w.ensures (lent_back (c.loop-own.own * record_size n) (record_size n) v c.loop-own.t wide)) (omega arith) wide
    (rw c.requires.2 (room (record_size n) c.loop-own-test.true)) c.fresh_record.ensures

pub returns : goal.returns
unfolding table_bytes
returns c =
    let all : c.loop-own.own ≡ c.args.n = omega arith in
    front_end (rw all at c.loop-own.invariant) (omega (arith, c.requires.2))
