-- `renew`: the front of the buffer is lent to `fresh` and comes back. Assumes nothing.
use Rattle.std.proofs.Common.{◌≡◌, ap, rules}
use Rattle.model.specs.Answers.{said_done}
use Rattle.desk.proofs.Kept.{renewed_done, renewed_refused}
use Rattle.desk.proofs.Table.renew.Goals as goal

pub returns-in_err-make_fresh-clause-kept : goal.returns-in_err-make_fresh-clause-kept
returns-in_err-make_fresh-clause-kept c =
    let b = c.args.self.now in
    let same : said_done c.from_residual.result ≡ said_done c.make_fresh.result = search rules in
    rw same (renewed_refused _ c.args.n b.size b.buffer c.make_fresh.new.t c.size_with-size.ensures.0 c.size_with-size.ensures.1 (search rules) c.make_fresh.auto.t c.make_fresh.ensures _ (ap said_done c.in_err-make_fresh.was))

pub returns-clause-kept : goal.returns-clause-kept
returns-clause-kept c =
    let b = c.args.self.now in
    rw (ap said_done c.in_ok-make_fresh.was) at (renewed_done _ c.args.n b.size b.buffer c.make_fresh.new.t c.size_with-size.ensures.0 c.size_with-size.ensures.1 (search rules) c.make_fresh.auto.t c.make_fresh.ensures (ap said_done c.in_ok-make_fresh.was))
