-- `fresh::fresh_record` meets its contract: the header, and N times the fresh slice. Assumes nothing.
use native.Mathlib.Omega.{arith}
use mathlib.Core.Path.{◌≡◌, ap, ◌∙◌}
use mathlib.Core.List.{List, []}
use Prim.Native.Nat.{ℕ, ◌*◌}
use lib.ListN.{length, take}
use Rattle.parts.specs.Parts.{join, length_repeated}
use Rattle.parts.specs.Written.{written}
use Rattle.model.specs.Bytes.{slice_size, header_bytes}
use Rattle.fresh.proofs.Repeated.{header_body, fresh_record_bytes, length-fresh_slice, header_four}
use Rattle.fresh.proofs.fresh_record.Goals as goal

pub returns : goal.returns
returns c =
    let n = c.args.n in
    let v : List ℕ = take (slice_size n) c.fresh_slice-s.result in
    let wide : length v ≡ slice_size n = ap length c.fresh_slice-s.ensures ∙ length-fresh_slice n c.requires.0 in
    let long : length (join n (λ p. v)) ≡ n * slice_size n = rw wide at (length_repeated n v) in
    (rw c.slice_len.ensures at c.repeat.ensures)
    ∙ ap (written 4 (join n (λ p. v))) c.put_header.ensures
    ∙ header_body (header_bytes n c.args.own (λ p c. [])) (join n (λ p. v)) c.args.r.now (header_four n c.args.own) (omega (arith, c.requires.3))
    ∙ fresh_record_bytes n c.args.own v c.fresh_slice-s.ensures
