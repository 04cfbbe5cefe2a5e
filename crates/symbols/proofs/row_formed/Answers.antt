-- `row_formed` makes the row's test in its order. Assumes nothing.
use Rattle.std.proofs.Common.{◌≡◌, ◌∙◌, sym, ap, ◌&&◌, get_or, rules, tests, leb, eqb, drop, ◌+◌}
use Rattle.std.proofs.lemmas.Slice.{between_to_end}
use Rattle.std.proofs.lemmas.Iterator.{YieldsList-from_slice}
use Rattle.std.proofs.lemmas.Iterator.Search.{all_from_yields_List}
use Rattle.model.specs.Bytes.{symbols_are_formed}
use Rattle.symbols.proofs.Formed.{row_is_formed-tests}
use Rattle.symbols.proofs.row_formed.Goals as goal
use Rattle.symbols.proofs.row_formed.Goals.{then-contains, else-contains}

pub returns-then-symbols_formed : goal.returns-then-symbols_formed
returns-then-symbols_formed c =
    let n = c.args.n in
    let row = c.args.row.now in
    let m = get_or row 0 0 in
    let inside : c.contains.result ≡ (leb 1 m && leb m n) = search (rules, tests) in
    let rest : c.iter.result.rest.now ≡ drop (1 + m) row = search (rules, between_to_end) in
    let all = all_from_yields_List (λ x. eqb x 0xFF) _ _ _ c.all.ensures.ran (YieldsList-from_slice (drop (1 + m) row) rest) (λ x b q k. search (rules, tests)) in
    elim c.if-contains.branch [
      | then-contains w ↦
          let formed = sym (w.symbols_formed.ensures ∙ ap (symbols_are_formed n) w.symbols.ensures.bytes) ∙ sym w.value-is ∙ c.if-symbols_formed.true in
          rw (row_is_formed-tests n row, ← inside, w.if-contains.true, formed) all
      | else-contains w ↦ cc
    ]

pub returns-else-symbols_formed : goal.returns-else-symbols_formed
returns-else-symbols_formed c =
    let n = c.args.n in
    let row = c.args.row.now in
    let m = get_or row 0 0 in
    let inside : c.contains.result ≡ (leb 1 m && leb m n) = search (rules, tests) in
    elim c.if-contains.branch [
      | then-contains w ↦
          let formed = sym (w.symbols_formed.ensures ∙ ap (symbols_are_formed n) w.symbols.ensures.bytes) ∙ sym w.value-is ∙ c.if-symbols_formed.false in
          rw (row_is_formed-tests n row, ← inside, w.if-contains.true, formed) c.if-symbols_formed.false
      | else-contains w ↦ rw (row_is_formed-tests n row, ← inside, w.if-contains.false) c.if-symbols_formed.false
    ]
