-- The rows of a slice other than row p, in their order, and the heads of these: what stands among them is the head of a row other than p.
-- Assumes nothing.
use Rattle.std.specs.Prelude.{◌≡◌, true, cond, List, ltb}
use Rattle.std.proofs.Common.{◌∙◌, arith, lt-ltb, le-ltb, eqb-true, eq-eqb}
use Prim.Native.Nat.{ℕ, ◌+◌, ◌-◌, ◌≤◌, ◌<◌}
use Rattle.std.proofs.Math.Dec.{eqb}
use Rattle.model.specs.Tests.{any, head, is_in, keep}
use Rattle.model.specs.Steps.{Slice, head_of_other}
use Rattle.facts.specs.Cases.{by_lt, agree, cond_true, cond_false}
use Rattle.facts.specs.Numbers.{any→, →any}
use Rattle.facts.specs.Keeping.{keep_same}
use Rattle.row.specs.Tab.{tab, is_in-tab}
use Rattle.laws.specs.UpdateKept.{head_of_other→, →head_of_other}

-- The number of the k-th of them.
unfoldable pub other : ℕ → ℕ → ℕ
other p k = cond (ltb k p) k (k + 1)

pub other_before : (p k : ℕ) → k < p → other p k ≡ k
unfolding other
other_before p k h = cond_true k (k + 1) (lt-ltb k p h)

pub other-behind : (p k : ℕ) → p ≤ k → other p k ≡ k + 1
unfolding other
other-behind p k h = cond_false k (k + 1) (le-ltb k p h)

-- The head of the k-th of them.
unfoldable pub head_other_than : ℕ → Slice → ℕ → ℕ
head_other_than p s k = head (s (other p k))

module _ (n p : ℕ) (s : Slice) (h : p < n) where
  -- x stands among their heads exactly where it is the head of a row other than p.
  pub among_others : (x : ℕ) → is_in x (tab (n - 1) (head_other_than p s)) ≡ head_of_other n p s x
  unfolding head_other_than
  among_others x = is_in-tab (n - 1) f x ∙ agree (any (n - 1) (λ k. eqb (f k) x)) (head_of_other n p s x) there back
    where
      f : ℕ → ℕ
      f k = head (s (other p k))

      there : any (n - 1) (λ k. eqb (f k) x) ≡ true → head_of_other n p s x ≡ true
      there t =
          let w = any→ (n - 1) (λ k. eqb (f k) x) t in
          let e : head (s (other p w.0)) ≡ x = eqb-true (f w.0) x w.2 in
          by_lt w.0 p
          (λ l. →head_of_other n p s x w.0 (omega arith) (λ q. omega arith) (rw (other_before p w.0 l) at e))
          (λ l. →head_of_other n p s x (w.0 + 1) (omega (arith, w.1)) (λ q. omega arith) (rw (other-behind p w.0 l) at e))

      back : head_of_other n p s x ≡ true → any (n - 1) (λ k. eqb (f k) x) ≡ true
      back t =
          let w = head_of_other→ n p s x t in
          by_lt w.0 p
          (λ l. →any (n - 1) (λ k. eqb (f k) x) w.0 (omega arith) (eq-eqb (f w.0) x (rw (other_before p w.0 l) w.3)))
          (λ l.
          let m : ℕ = w.0 - 1 in
          let past : p ≤ m = omega (arith, w.2) in
          let same : m + 1 ≡ w.0 = omega (arith, w.2) in
          →any (n - 1) (λ k. eqb (f k) x) m (omega (arith, w.1)) (eq-eqb (f m) x (rw (other-behind p m past, same) w.3)))

  -- A row cut down to their heads.
  pub kept_others : (l : List ℕ) → keep (λ x. is_in x (tab (n - 1) (head_other_than p s))) l ≡ keep (head_of_other n p s) l
  kept_others l = keep_same (λ x. is_in x (tab (n - 1) (head_other_than p s))) (head_of_other n p s) l (λ x i. among_others x)
