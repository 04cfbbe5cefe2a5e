-- `stamp_lend` meets its contract: an empty part is a refusal, any other stands so many lengths from the table's start. Assumes nothing.
use Rattle.std.proofs.Common.{◌≡◌, refl, sym, ap, ap₂, ◌∙◌, [], ◌∷◌, ℕ, ◌*◌, ◌≤◌, length, rules, tests, arith}
use Rattle.export.specs.Exported.{number_of}
use Rattle.export.proofs.Lent.{nothing_lent, something_lent, lent_at, lent_within}
use Rattle.export.proofs.stamp_lend.Goals as goal

pub returns-then-is_empty : goal.returns-then-is_empty
returns-then-is_empty c =
    let a = c.args in
    let empty : length c.lend-part.result.now ≡ 0 = search (rules, tests) in
    let r = nothing_lent a.t.now a.i (sym (ap length c.lend-part.ensures.bytes) ∙ empty) in
    rw r.1 (record { returns = c.number.ensures ∙ ap number_of (c.lend_number.ensures.answers ∙ r.1); puts = refl; bytes = refl })

pub overflow_mul-start : goal.overflow_mul-start
overflow_mul-start c =
    let a = c.args in
    let full : length c.lend-part.result.now ≡ 0 → ⊥ = search (rules, tests) in
    let e = something_lent a.t.now a.i (λ z. full (ap length c.lend-part.ensures.bytes ∙ z)) in
    let h : a.i * length c.lend-part.result.now ≤ length a.t.now = rw c.lend-part.ensures.bytes (lent_within a.t.now a.i e) in
    omega (arith, h)

pub returns : goal.returns
returns c =
    let a = c.args in
    let full : length c.lend-part.result.now ≡ 0 → ⊥ = search (rules, tests) in
    let e = something_lent a.t.now a.i (λ z. full (ap length c.lend-part.ensures.bytes ∙ z)) in
    let s = ap length c.lend-part.ensures.bytes in
    let placed = ap₂ (λ (x y : ℕ). x ∷ y ∷ []) (ap (λ (w : ℕ). a.i * w) s ∙ sym (lent_at a.t.now a.i e)) s in
    rw e (record { returns = refl; puts = placed; bytes = refl })
