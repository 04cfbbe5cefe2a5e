-- `new_row`: the heads of the other rows, the old row cut down to them, the new symbol in front. Assumes nothing.
use Rattle.std.proofs.Common.{rules}
use Rattle.updating.proofs.Kept.{stay_cut, stay_form, stay_few, stay_new}
use Rattle.updating.proofs.new_row.Goals as goal

pub in_front-requires : goal.in_front-requires
in_front-requires c =
    let e = stay_cut c.requires c.other_heads-heads.ensures c.row_in-old.ensures.bytes (search rules) in
    (stay_form c.requires e, stay_few c.requires e)

pub returns : goal.returns
returns c =
    let e = stay_cut c.requires c.other_heads-heads.ensures c.row_in-old.ensures.bytes (search rules) in
    stay_new c.requires e _ _ c.free_symbol-x.ensures c.in_front.ensures
