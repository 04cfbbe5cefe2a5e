-- `run_lines`: what is left to put out gives the whole, line by line. Assumes nothing.
use Rattle.std.proofs.Common.{◌≡◌, ℕ, ◌+◌, drop, ◌<◌, length, List, [], Option, Some, None, Bor, unwrap_or, refl, sym, drop_of_length-le, ⊎_elim, tests, rules, arith, ◌∙◌}
use Rattle.std.proofs.lemmas.List.{take_rest}
use Rattle.std.specs.Slice.{IsGetRangeResult}
use Rattle.desk.specs.Running.{running_next, running_end}
use Rattle.desk.proofs.run_lines.Goals as goal

-- What stands behind the line's end, or nothing where that is past the input's.
from_get : (s : List ℕ) (i : ℕ) (r : Option (Bor (List ℕ))) (d : Bor (List ℕ)) {x : Bor (List ℕ)} → x ≡ unwrap_or r d → d.now ≡ [] → IsGetRangeResult s i (length s) r
    → x.now ≡ drop i s
from_get s i None d e none h =
    rw (e, none) (sym (drop_of_length-le s (⊎_elim (λ (l : length s < i). omega arith) (λ (l : length s < length s). omega arith) h.0)))
from_get s i (Some y) d e none h = rw e (h.0.2 ∙ take_rest s i)

pub loop-rest-preserved : goal.loop-rest-preserved
loop-rest-preserved c =
    let at : ℕ = c.place_of-end.result + 1 in
    let left : c.unwrap_or-rest.result.now ≡ drop at c.loop-rest.rest.now = from_get _ at c.get.result _ c.unwrap_or-rest.ensures refl c.get.ensures.lookup in
    let more : 0 < length c.loop-rest.rest.now = search (rules, tests) in
    record {
      fits = c.answer_line-at.ensures.fits;
      runs = rw left (running_next c.loop-rest.invariant.runs more c.place_of-end.ensures c.answer_line-at.ensures.answered);
    }

pub returns : goal.returns
returns c =
    let i = c.loop-rest.invariant.runs in
    (running_end i (search rules), omega (arith, i.short, i.lines, c.requires.0))
