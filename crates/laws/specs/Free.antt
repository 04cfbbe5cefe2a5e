-- At most N²−N+1 symbols are in use in a formed slice, so that one is always free: the new symbol of an update is in range, stands in
-- no row of the slice, and every smaller symbol stands in one. For every N ≥ 2. Assumes nothing.
use Rattle.std.specs.Prelude.{◌≡◌, refl, true, ℕ, ◌+◌, ◌*◌, ◌-◌, ◌≤◌, ◌<◌, eqb}
use Rattle.std.proofs.Common.{sym, ap, ◌∙◌, inl, mul-le-mul_right}
use Rattle.std.proofs.Math.Logic.{inr}
use Rattle.std.proofs.Math.Bool.{cond, not}
use mathlib.Core.List.{List, [], ◌∷◌}
use native.Mathlib.Omega.{arith}
use Rattle.std.proofs.Math.ListN.{length}
use borrow.Author.Tests.{eq-eqb, ne_eqb, not-true, not-false}
use Rattle.parts.specs.Parts.{join}
use Rattle.model.specs.Tests.{count, least, head, is_in}
use Rattle.model.specs.Steps.{Slice, in_use, new_symbol}
use Rattle.facts.specs.Cases.{by_eq, by_lt, clash, cond_true, cond_false}
use Rattle.facts.specs.Numbers.{any→, →any, least_below, least_passes}
use Rattle.facts.specs.Members.{In, is_in→, →is_in, head_in}
use Rattle.facts.specs.Counting.{count_cover, count-all}
use Rattle.facts.specs.Joined.{→in_join, join-length-but}
use Rattle.laws.specs.Formed.{FormedSlice}

-- Symbol x stands in some row of the slice.
pub in_use→ : (n : ℕ) (s : Slice) (x : ℕ) → in_use n s x ≡ true → (k : ℕ) × (k < n) × In x (s k)
unfolding in_use
in_use→ n s x e = let w = any→ n (λ k. is_in x (s k)) e in (w.0, w.1, is_in→ x (s w.0) w.2)

pub →in_use : (n : ℕ) (s : Slice) (x k : ℕ) → k < n → In x (s k) → in_use n s x ≡ true
unfolding in_use
→in_use n s x k h i = →any n (λ k. is_in x (s k)) k h (→is_in x (s k) i)

-- The head of the principal row, and the cached rows one behind another.
unfoldable pub covering : ℕ → ℕ → Slice → List ℕ
covering n own s = head (s own) ∷ join n (λ k. cond (eqb k own) [] (s k))

module _ (n own : ℕ) (s : Slice) (h : own < n) (f : FormedSlice n own s) where
  square : n ≤ n * n
  square = omega (arith, mul-le-mul_right n (let o : 1 ≤ n = omega arith in o))

  -- They hold every symbol in use: the principal set lies within the heads.
  pub covered : (x k : ℕ) → k < n → In x (s k) → In x (covering n own s)
  unfolding covering
  covered x k l i = by_eq k own principal (λ ne. inr (behind x k l ne i))
    where
      behind : (x k : ℕ) → k < n → (k ≡ own → ⊥) → In x (s k) → In x (join n (λ k. cond (eqb k own) [] (s k)))
      behind x k l ne i =
          →in_join n (λ k. cond (eqb k own) [] (s k)) x k l (rw (cond_false [] (s k) (ne_eqb k own ne)) i)

      principal : k ≡ own → In x (head (s own) ∷ join n (λ k. cond (eqb k own) [] (s k)))
      principal e =
          let w = (f.principal x).0 (rw e at i) in
          by_eq w.0 own
          (λ q. inl (sym w.2 ∙ ap (λ (j : ℕ). head (s j)) q))
          (λ ne. inr (behind x w.0 w.1 ne (rw w.2 at (head_in (s w.0) (f.row w.0 w.1).filled))))

  pub covering-length : length (covering n own s) ≤ n * n - n + 1
  unfolding covering
  covering-length =
      let e : cond (eqb own own) [] (s own) ≡ [] = cond_true [] (s own) (eq-eqb own own refl) in
      let r = join-length-but n n (λ k. cond (eqb k own) [] (s k)) own h e each in
      omega arith
    where
      each : (k : ℕ) → k < n → length (cond (eqb k own) [] (s k)) ≤ n
      each k l =
          by_eq k own
          (λ q. rw (cond_true [] (s k) (eq-eqb k own q)) (omega arith))
          (λ q. rw (cond_false [] (s k) (ne_eqb k own q)) (f.row k l).fits)

  -- At most N²−N+1 symbols are in use.
  pub in_use_few : count (n * n) (in_use n s) ≤ n * n - n + 1
  in_use_few =
      let c = count_cover (n * n) (in_use n s) (covering n own s) (λ x l e. let w = in_use→ n s x e in covered x w.0 w.1 w.2) in
      let l = covering-length in
      omega arith

  -- One below N² is free, N = 1 excepted.
  pub new_symbol_below : 2 ≤ n → new_symbol n s < n * n
  unfolding new_symbol
  new_symbol_below two =
      by_lt (least (n * n) (λ x. not (in_use n s x))) (n * n) (λ l. l)
      (λ l.
      let full = count-all (n * n) (in_use n s) (λ x u. not-false (in_use n s x) (least_below (n * n) (λ x. not (in_use n s x)) x (omega arith))) in
      let few = in_use_few in
      let sq = square in
      absurd (omega arith))

  -- It stands in no row of the slice.
  pub new_symbol_free : 2 ≤ n → (k : ℕ) → k < n → In (new_symbol n s) (s k) → ⊥
  unfolding new_symbol
  new_symbol_free two k l i =
      let low : least (n * n) (λ x. not (in_use n s x)) < n * n = new_symbol_below two in
      let free = least_passes (n * n) (λ x. not (in_use n s x)) low in
      clash (→in_use n s (new_symbol n s) k l i) (not-true (in_use n s (new_symbol n s)) free)

-- Every smaller symbol is in use.
pub new_symbol-least : (n : ℕ) (s : Slice) (x : ℕ) → x < new_symbol n s → (k : ℕ) × (k < n) × In x (s k)
unfolding new_symbol
new_symbol-least n s x l = in_use→ n s x (not-false (in_use n s x) (least_below (n * n) (λ x. not (in_use n s x)) x l))
