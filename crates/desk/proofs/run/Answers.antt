-- `run`: the header, then the one line of input that is too long, or the lines. Assumes nothing.
use Rattle.std.specs.Prelude.{◌<◌, ◌≤◌, length}
use native.Mathlib.Omega.{arith}
use Rattle.print.specs.Room.{put_then, put-filled}
use Rattle.desk.specs.Desk.{header}
use Rattle.desk.specs.Running.{desk_long, desk_lines}
use Rattle.desk.proofs.run.Goals as goal

pub returns-then-input-gt65536 : goal.returns-then-input-gt65536
unfolding header
returns-then-input-gt65536 c =
    let input = c.args.input.now in
    let long : 65536 < length input = omega arith in (
      put-filled (rw (desk_long input long) (put_then c.put-at.ensures c.put_line.ensures.0)),
      omega (arith, c.put-at.ensures.next, c.put_line.ensures.1),
    )

pub returns : goal.returns
unfolding header
returns c =
    let input = c.args.input.now in
    let short : length input ≤ 65536 = omega arith in (
      put-filled (rw (desk_lines input short) (put_then c.put-at.ensures c.run_lines.ensures.0)),
      omega (arith, c.put-at.ensures.next, c.run_lines.ensures.1),
    )
