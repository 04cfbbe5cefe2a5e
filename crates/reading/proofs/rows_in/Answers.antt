-- `rows_in` puts one row after another into the room, over lengths of 0 and cells of FF. Assumes nothing.
use Rattle.std.proofs.Common.{refl, ap₂, ◌∙◌, arith, List, ℕ}
use Rattle.parts.proofs.Front.{front_start}
use Rattle.model.specs.Bytes.{unused}
use Rattle.model.specs.Calls.{length_given, cells_given, rows_given}
use Rattle.reading.proofs.Given.{row_next, row_blank, length_next, room_end}
use Rattle.reading.proofs.rows_in.Goals.{in-Some, in_default}
use Rattle.reading.proofs.rows_in.Goals as goal

pub loop-i-init : goal.loop-i-init
loop-i-init c = (front_start _ _ _ _, front_start _ _ _ _)

pub loop-i-preserved : goal.loop-i-preserved
unfolding length_given cells_given
loop-i-preserved c =
    let i = c.loop-i in
    elim c.match-room_row.branch [
      | in-Some w ↦ (
        length_next i.invariant.0 c.loop-i-test.true _ _ w.lengths-is (rw (w.in-Some.ensures.0, w.in-Some.ensures.1)),
        row_next unused 512 i.invariant.1 (omega arith) w.in-Some.row.now _ w.in-Some.ensures.2 (w.cells-is ∙ w.copy.ensures) (rw (w.in-Some.ensures.0, w.in-Some.ensures.1)),
      )
      | in_default w ↦ (
        row_blank 0 64 i.invariant.0 (omega arith) _ w.lengths-is (rw w.in_default.ensures),
        row_blank unused 512 i.invariant.1 (omega arith) _ w.cells-is (rw w.in_default.ensures),
      )
    ]

pub returns : goal.returns
unfolding rows_given
returns c =
    ap₂ (λ (x y : List ℕ). record { n = c.args.n; own = c.args.own; lengths = x; cells = y })
    (room_end _ _ _ _ _ c.loop-i.invariant.0 (omega arith) refl)
    (room_end _ _ _ _ _ c.loop-i.invariant.1 (omega arith) refl)
