-- A row as the set of values that it stands for: the symbols of the values below c that pass, the greatest value first; and the
-- model's tests on rows (is in, keep, earlier, head) at such a row. Assumes nothing.
use Rattle.std.specs.Prelude.{◌≡◌, refl, Bool, true, List, [], ◌∷◌, map, ℕ, zero, suc, ◌<◌, max}
use Rattle.std.proofs.Common.{sym, ◌∙◌, inl, inr, arith}
use Rattle.std.proofs.Math.Path.{ap}
use Rattle.model.specs.Tests.{keep, earlier}
use Rattle.facts.specs.Cases.{by_eq, by_test, clash}
use Rattle.facts.specs.Members.{In}
use Rattle.facts.specs.Keeping.{keep_pass, keep_fail, keep→, →keep, keep_same}
use Rattle.facts.specs.Mapped.{Falls, falls_below, keep_falls, map_in, in_map, map_same, keep_map, earlier_map}

-- The values below c, the greatest first.
down : ℕ → List ℕ
down zero = []
down (suc c) = c ∷ down c

falls_down : (c : ℕ) → Falls c (down c)
unfolding down
falls_down zero = tt
falls_down (suc c) = (omega arith, falls_down c)

in_down : (c v : ℕ) → v < c → In v (down c)
unfolding down
in_down zero v h = absurd (omega arith)
in_down (suc c) v h = by_eq v c inl (λ ne. inr (in_down c v (omega arith)))

down_in : (c v : ℕ) → In v (down c) → v < c
down_in c v i = falls_below c (down c) v (falls_down c) i

-- Who passes the narrower test passes the wider one: the wider one first changes nothing.
keep_within : (f g : ℕ → Bool) (l : List ℕ) → ((x : ℕ) → In x l → g x ≡ true → f x ≡ true) → keep g (keep f l) ≡ keep g l
unfolding keep
keep_within f g [] within = refl
keep_within f g (x ∷ l) within =
    let ih : keep g (keep f l) ≡ keep g l = keep_within f g l (λ y i. within y (inr i)) in
    by_test (f x)
    (λ t. ap (keep g) (keep_pass f x l t)
    ∙ by_test (g x)
    (λ u. keep_pass g x (keep f l) u ∙ ap (λ (r : List ℕ). x ∷ r) ih ∙ sym (keep_pass g x l u))
    (λ u. keep_fail g x (keep f l) u ∙ ih ∙ sym (keep_fail g x l u)))
    (λ t. ap (keep g) (keep_fail f x l t)
    ∙ by_test (g x) (λ u. absurd (clash (within x (inl refl) u) t)) (λ u. ih ∙ sym (keep_fail g x l u)))

pub listed : (ℕ → ℕ) → (ℕ → Bool) → ℕ → List ℕ
listed sy f c = map sy (keep f (down c))

pub listed_none : (sy : ℕ → ℕ) (f : ℕ → Bool) → listed sy f 0 ≡ []
unfolding listed down keep
listed_none sy f = refl

module _ (sy : ℕ → ℕ) (f : ℕ → Bool) (c : ℕ) where
  -- The greatest value that may pass, if it passes, is the head's.
  pub listed_first : f c ≡ true → listed sy f (suc c) ≡ sy c ∷ listed sy f c
  unfolding listed down
  listed_first e = ap (map sy) (keep_pass f c (down c) e)

  -- The symbol of a value that passes stands in the row.
  pub →listed : (v : ℕ) → v < c → f v ≡ true → In (sy v) (listed sy f c)
  unfolding listed
  →listed v h e = map_in sy v (keep f (down c)) (→keep f v (down c) (in_down c v h) e)

  -- What stands in the row is the symbol of a value that passes.
  pub listed→ : (x : ℕ) → In x (listed sy f c) → (v : ℕ) × (v < c) × (f v ≡ true) × (sy v ≡ x)
  unfolding listed
  listed→ x i =
      let (v, j, e) = in_map sy x (keep f (down c)) i in
      let (k, t) = keep→ f v (down c) j in
      (v, down_in c v k, t, e)

  pub listed_same :
      (sy' : ℕ → ℕ) (f' : ℕ → Bool)
      → ((v : ℕ) → v < c → sy v ≡ sy' v)
      → ((v : ℕ) → v < c → f v ≡ f' v)
      → listed sy f c ≡ listed sy' f' c
  unfolding listed
  listed_same sy' f' es ef =
      map_same sy sy' (keep f (down c)) (λ v i. es v (down_in c v (keep→ f v (down c) i).0))
      ∙ ap (map sy') (keep_same f f' (down c) (λ v i. ef v (down_in c v i)))

  -- A row cut down by a test on symbols is the row of the values that pass g, where the test on their symbols says the same as g.
  pub keep_listed :
      (g q : ℕ → Bool)
      → ((v : ℕ) → v < c → f v ≡ true → q (sy v) ≡ g v)
      → ((v : ℕ) → v < c → g v ≡ true → f v ≡ true)
      → keep q (listed sy f c) ≡ listed sy g c
  unfolding listed
  keep_listed g q same within =
      keep_map sy q g (keep f (down c)) (λ v i. let (k, t) = keep→ f v (down c) i in same v (down_in c v k) t)
      ∙ ap (map sy) (keep_within f g (down c) (λ v i. within v (down_in c v i)))

  -- Of two symbols in the row the one of the greater value stands earlier, where no two values of the row share a symbol.
  pub earlier_listed :
      (x y : ℕ)
      → ((u v : ℕ) → f u ≡ true → f v ≡ true → sy u ≡ sy v → u ≡ v)
      → x < c
      → y < c
      → f x ≡ true
      → f y ≡ true
      → earlier (listed sy f c) (sy x) (sy y) ≡ sy (max x y)
  unfolding listed
  earlier_listed x y distinct hx hy fx fy =
      earlier_map sy c (keep f (down c)) x y (keep_falls f c (down c) (falls_down c))
      (λ u v iu iv. distinct u v (keep→ f u (down c) iu).1 (keep→ f v (down c) iv).1)
      (→keep f x (down c) (in_down c x hx) fx)
      (→keep f y (down c) (in_down c y hy) fy)
