-- `table::list_superfluous` meets its contract: behind the check the mask decides, and the count is the machine's count of its ones.
-- Assumes nothing.
use Rattle.std.proofs.Common.{sym}
use Rattle.std.proofs.lemmas.Result.{err_from_is_err_and}
use Rattle.model.specs.Bytes.{copies_in}
use Rattle.model.specs.Calls.{superfluous_reasons, superfluous_says}
use Rattle.table.specs.Checked.{check-passed, table_shown}
use Rattle.table.specs.Chain.{decided_behind}
use Rattle.table.specs.Listing.{listing_refused, listing_mask}
use Rattle.table.proofs.list_superfluous.Goals as goal

pub superfluous_mask-requires : goal.superfluous_mask-requires
unfolding copies_in
superfluous_mask-requires c = rw c.from.ensures (table_shown (check-passed (sym c.in_ok-check.ensures.answers)))

pub returns-in_err-mask : goal.returns-in_err-mask
unfolding superfluous_reasons superfluous_says copies_in
returns-in_err-mask c =
    let p = err_from_is_err_and c.from_residual-in_err-mask.result c.from_residual-in_err-mask.ensures.1 in
    rw (p.1, p.2) (decided_behind _ _ _ c.in_ok-check.ensures (listing_refused c.args.t.now c.from.ensures _ c.in_err-mask.ensures))

pub returns : goal.returns
unfolding superfluous_reasons superfluous_says copies_in
returns c = decided_behind _ _ _ c.in_ok-check.ensures (listing_mask c.args.t.now c.from.ensures _ c.in_ok-mask.ensures)
