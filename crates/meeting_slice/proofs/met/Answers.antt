-- `met`: both new slices are made of the new heads and of W cut down to these. Assumes nothing.
use Rattle.std.proofs.Common.{◌≡◌, take, arith, rules}
use Rattle.model.specs.Steps.{new_heads_of, cut_row_of}
use Rattle.model.specs.Bytes.{row_size, row_bytes, record_rows}
use Rattle.row.specs.Tab.{tab, length-tab}
use Rattle.meeting_slice.specs.NewRows.{heads_a_wins, heads_b_wins, rows_met}
use Rattle.meeting_slice.specs.Met.{cut_front}
use Rattle.meeting_slice.proofs.met.Goals as goal

pub new_rows-u-requires : goal.new_rows-u-requires
new_rows-u-requires c = search (rules, length-tab)

pub new_rows-v-requires : goal.new_rows-v-requires
new_rows-v-requires c = search (rules, length-tab)

pub returns : goal.returns
unfolding record_rows
returns c =
    let a = c.args in
    let x = record_rows a.n a.x.now a.p in
    let y = record_rows a.n a.y.now a.p in
    let heads : c.new_heads-heads.result.items ≡ tab a.n (new_heads_of a.a a.b x y) = grind (arith, heads_b_wins, heads_a_wins) in
    let cut : take (row_size a.n) c.cut_row-cut.result ≡ row_bytes a.n (cut_row_of a.n a.a a.b x y) =
    cut_front c.requires.0 a.p c.requires.1 _ _ _ c.winning-w.ensures.bytes heads (search rules) in
    record {
      first = grind (arith, rows_met);
      second = grind (arith, rows_met);
    }
