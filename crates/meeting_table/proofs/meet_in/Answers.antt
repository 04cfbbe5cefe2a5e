-- `meet_in`: both records are lent at once, and come back met. Assumes nothing.
use Rattle.std.proofs.Common.{◌≡◌, ◌∙◌, ◌<◌, arith, length-take}
use Rattle.parts.specs.Parts.{part}
use Rattle.model.specs.Bytes.{record_size, record_in}
use Rattle.meeting.specs.Pairs.{PairMet}
use Rattle.meeting_table.specs.Named.{named_pair}
use Rattle.meeting_table.proofs.Lent.{lower_part, lent_two}
use Rattle.meeting_table.proofs.InTable.{fits, first_long, second_long, second_over_first, first_over_second}
use Rattle.meeting_table.proofs.meet_in.Goals as goal

pub slice_bounds-upper-end-2 : goal.slice_bounds-upper-end-2
slice_bounds-upper-end-2 c =
    let back = rw c.record_len-size.ensures at c.split_at_mut-front.ensures.back_len in
    rw (c.record_len-size.ensures, length-take) (omega (arith, fits c.requires c.max.result (omega arith)))

pub meet_pair-requires : goal.meet_pair-requires
unfolding record_in part
meet_pair-requires c =
    let a = c.args in
    let low : c.min.result ≡ a.a = omega arith in
    let high : c.max.result ≡ a.b = omega arith in
    rw (
      c.split_at_mut-front.ensures.front,
      c.split_at_mut-front.ensures.back,
      low,
      high,
      c.record_len-size.ensures,
      lower_part (record_size a.n) a.t.now c.if-a-b.true (fits c.requires a.b c.requires.second),
    )
    (named_pair c.requires)

pub meet_pair-requires-else-a-b : goal.meet_pair-requires-else-a-b
unfolding record_in part
meet_pair-requires-else-a-b c =
    let a = c.args in
    let low : c.min.result ≡ a.b = omega arith in
    let high : c.max.result ≡ a.a = omega arith in
    let less : a.b < a.a = omega arith in
    rw (
      c.split_at_mut-front.ensures.front,
      c.split_at_mut-front.ensures.back,
      low,
      high,
      c.record_len-size.ensures,
      lower_part (record_size a.n) a.t.now less (fits c.requires a.a c.requires.first),
    )
    (named_pair c.requires)

pub returns-then-a-b : goal.returns-then-a-b
unfolding record_in part
returns-then-a-b c =
    let a = c.args in
    let low : c.min.result ≡ a.a = omega arith in
    let high : c.max.result ≡ a.b = omega arith in
    let room = fits c.requires a.b c.requires.second in
    let met : PairMet a.n a.a a.b (record_in a.n a.t.now a.a) (record_in a.n a.t.now a.b) c.meet_pair.new.x c.meet_pair.new.y =
    rw (
      c.split_at_mut-front.ensures.front,
      c.split_at_mut-front.ensures.back,
      low,
      high,
      c.record_len-size.ensures,
      lower_part (record_size a.n) a.t.now c.if-a-b.true room,
    ) at c.meet_pair.ensures in
    rw (c.split_at_mut-front.ensures.front, c.split_at_mut-front.ensures.back, low, high, c.record_len-size.ensures)
    (lent_two (record_size a.n) a.t.now c.if-a-b.true room _ _ (first_long c.requires met) (second_long c.requires met)
    ∙ second_over_first c.requires met)

pub returns-else-a-b : goal.returns-else-a-b
unfolding record_in part
returns-else-a-b c =
    let a = c.args in
    let low : c.min.result ≡ a.b = omega arith in
    let high : c.max.result ≡ a.a = omega arith in
    let less : a.b < a.a = omega arith in
    let room = fits c.requires a.a c.requires.first in
    let met : PairMet a.n a.a a.b (record_in a.n a.t.now a.a) (record_in a.n a.t.now a.b) c.meet_pair-else-a-b.new.x c.meet_pair-else-a-b.new.y =
    rw (
      c.split_at_mut-front.ensures.front,
      c.split_at_mut-front.ensures.back,
      low,
      high,
      c.record_len-size.ensures,
      lower_part (record_size a.n) a.t.now less room,
    ) at c.meet_pair-else-a-b.ensures in
    rw (c.split_at_mut-front.ensures.front, c.split_at_mut-front.ensures.back, low, high, c.record_len-size.ensures)
    (lent_two (record_size a.n) a.t.now less room _ _ (second_long c.requires met) (first_long c.requires met)
    ∙ first_over_second c.requires met)
