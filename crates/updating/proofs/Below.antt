-- The heads of the rows below k other than row p. Assumes nothing.
use Rattle.std.specs.Prelude.{◌≡◌, cond, [], ◌∷◌, ◌++◌, ℕ, ◌+◌, ◌-◌, ◌≤◌, ltb}
use Rattle.std.proofs.Common.{arith, lt-ltb, le-ltb}
use Rattle.model.specs.Tests.{head}
use Rattle.model.specs.Steps.{Slice}
use Rattle.facts.specs.Cases.{by_lt}
use Rattle.row.specs.Tab.{tab, tab_next}
use Rattle.updating.specs.Others.{head_other_than, other_before, other-behind}

-- How many these rows are.
unfoldable pub others_below : ℕ → ℕ → ℕ
others_below p k = cond (ltb p k) (k - 1) k

pub others_next : (p k : ℕ) (s : Slice) → (k ≡ p → ⊥)
    → tab (others_below p (k + 1)) (head_other_than p s) ≡ tab (others_below p k) (head_other_than p s) ++ (head (s k) ∷ [])
unfolding others_below head_other_than
others_next p k s h =
    by_lt k p
    (λ l. rw (le-ltb p (k + 1) (omega arith), le-ltb p k (omega arith), tab_next, other_before p k l))
    (λ l.
    let m : ℕ = k - 1 in
    let past : p ≤ m = omega (arith, h) in
    let same : m + 1 ≡ k = omega (arith, h) in
    let more : k + 1 - 1 ≡ m + 1 = omega (arith, h) in
    rw (lt-ltb p (k + 1) (omega arith), lt-ltb p k (omega (arith, h)), more, tab_next, other-behind p m past, same))
