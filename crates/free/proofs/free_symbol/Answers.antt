-- `free_symbol`: the lowest bit that is not set is the smallest symbol in no row. Assumes nothing.
use Rattle.std.proofs.Common.{◌≡◌, ◌∙◌, ap, ℕ, ◌*◌, min, w64}
use Rattle.std.specs.Int.{trailing_ones}
use Rattle.model.specs.Bytes.{row_in_slice}
use Rattle.symbols.proofs.Digits.{symbols_most}
use Rattle.free.proofs.Marking.{least_unset, unset_free}
use Rattle.free.proofs.free_symbol.Goals as goal

pub returns : goal.returns
returns c =
    let n = c.args.n in
    let w = c.used.result in
    let lowest : c.min.result ≡ min (trailing_ones w64 w) (n * n) = c.min.ensures ∙ ap (λ (t : ℕ). min t (n * n)) c.trailing_ones.ensures in
    rw (lowest, ← least_unset w c.used.type_inv (n * n) (symbols_most c.requires.shown.few), c.used.ensures) (unset_free n (row_in_slice n c.args.s.now))
