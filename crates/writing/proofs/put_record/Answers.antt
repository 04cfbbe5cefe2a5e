-- `put_record` writes the header, then one slice behind another. Assumes nothing.
use Rattle.std.proofs.Common.{rules, arith, ◌∙◌}
use Rattle.parts.proofs.Front.{front_start}
use Rattle.writing.proofs.Passed.{slice_next, record_end}
use Rattle.writing.proofs.put_record.Goals as goal

pub loop-p-init : goal.loop-p-init
loop-p-init c = front_start _ _ _ _

pub loop-p-preserved : goal.loop-p-preserved
loop-p-preserved c =
    slice_next c.args.rows.now (record { lengths = search rules; cells = search rules }) c.requires.0 c.loop-p.p c.loop-p-test.true
    c.loop-p.invariant (c.put_header.auto.r ∙ c.requires.2) _ c.copy.new.dst c.slice_passed.ensures (rw c.slice_len-w.ensures at c.copy.ensures)

pub returns : goal.returns
returns c = record_end c.args.rows.now _ _ _ _ c.loop-p.invariant (omega arith) (c.put_header.auto.r ∙ c.requires.2) c.put_header.ensures
