-- A row of symbols as the image of a falling row of values: what stands in it, what is kept of it, which of two stands earlier.
-- Assumes nothing.
use Rattle.std.specs.Prelude.{◌≡◌, refl, Bool, true, false, cond, List, [], ◌∷◌, map, ℕ, ◌≤◌, ◌<◌, max, eqb}
use Rattle.std.proofs.Common.{sym, ap, ap₂, inl, inr, arith, eq-eqb, ne_eqb}
use Rattle.model.specs.Tests.{keep, earlier}
use Rattle.facts.specs.Members.{In, Different}

-- The values of the row fall, from below b on.
abbrev pub Falls : ℕ → List ℕ → Type 0
Falls b [] = Unit {0}
Falls b (x ∷ l) = (x < b) × Falls x l

pub falls_weaken : (b c : ℕ) (l : List ℕ) → b ≤ c → Falls b l → Falls c l
falls_weaken b c [] h f = tt
falls_weaken b c (x ∷ l) h f = ((let g : x < b = f.0 in omega arith), f.1)

pub falls_below : (b : ℕ) (l : List ℕ) (x : ℕ) → Falls b l → In x l → x < b
falls_below b [] x f i = absurd i
falls_below b (y ∷ l) x f (inl e) = let g : y < b = f.0 in omega arith
falls_below b (y ∷ l) x f (inr i) = let g : y < b = f.0 in omega (arith, falls_below y l x f.1 i)

pub falls_different : (b : ℕ) (l : List ℕ) → Falls b l → Different l
falls_different b [] f = tt
falls_different b (x ∷ l) f = (λ i. (let g = falls_below x l x f.1 i in omega arith), falls_different x l f.1)

pub keep_falls : (q : ℕ → Bool) (b : ℕ) (l : List ℕ) → Falls b l → Falls b (keep q l)
unfolding keep
keep_falls q b [] f = tt
keep_falls q b (x ∷ l) f = go (keep_falls q x l f.1) (q x)
  where
    go : Falls x (keep q l) → (t : Bool) → Falls b (cond t (x ∷ keep q l) (keep q l))
    go ih true = (f.0, ih)
    go ih false = falls_weaken x b (keep q l) (let g : x < b = f.0 in omega arith) ih

-- ---- What stands in the image

pub map_in : (s : ℕ → ℕ) (x : ℕ) (l : List ℕ) → In x l → In (s x) (map s l)
map_in s x [] i = absurd i
map_in s x (y ∷ l) (inl e) = inl (ap s e)
map_in s x (y ∷ l) (inr i) = inr (map_in s x l i)

pub in_map : (s : ℕ → ℕ) (y : ℕ) (l : List ℕ) → In y (map s l) → (x : ℕ) × In x l × (s x ≡ y)
in_map s y [] i = absurd i
in_map s y (x ∷ l) (inl e) = (x, inl refl, sym e)
in_map s y (x ∷ l) (inr i) = let w = in_map s y l i in (w.0, inr w.1, w.2)

pub map_same : (s t : ℕ → ℕ) (l : List ℕ) → ((x : ℕ) → In x l → s x ≡ t x) → map s l ≡ map t l
map_same s t [] e = refl
map_same s t (x ∷ l) e = ap₂ (λ (y : ℕ) (r : List ℕ). y ∷ r) (e x (inl refl)) (map_same s t l (λ y i. e y (inr i)))

-- ---- What is kept of it

pub keep_map : (s : ℕ → ℕ) (q r : ℕ → Bool) (l : List ℕ) → ((x : ℕ) → In x l → q (s x) ≡ r x) → keep q (map s l) ≡ map s (keep r l)
unfolding keep
keep_map s q r [] e = refl
keep_map s q r (x ∷ l) e = rw (e x (inl refl)) (go (r x) (keep_map s q r l (λ y i. e y (inr i))))
  where
    go : (b : Bool) → keep q (map s l) ≡ map s (keep r l) → cond b (s x ∷ keep q (map s l)) (keep q (map s l)) ≡ map s (cond b (x ∷ keep r l) (keep r l))
    go true ih = ap (λ (t : List ℕ). s x ∷ t) ih
    go false ih = ih

-- ---- Which of two stands earlier: the one with the greater value

pub earlier_map : (s : ℕ → ℕ) (b : ℕ) (l : List ℕ) (x y : ℕ) → Falls b l → ((u v : ℕ) → In u l → In v l → s u ≡ s v → u ≡ v)
    → In x l → In y l → earlier (map s l) (s x) (s y) ≡ s (max x y)
unfolding earlier
earlier_map s b [] x y f inj ix iy = absurd ix
earlier_map s b (z ∷ l) x y f inj ix iy = at (earlier_map s z l x y f.1 (λ u v iu iv. inj u v (inr iu) (inr iv))) ix iy
  where
    under : (v : ℕ) → In v l → v < z
    under v i = falls_below z l v f.1 i

    hit : (v : ℕ) → v ≡ z → eqb (s z) (s v) ≡ true
    hit v e = eq-eqb (s z) (s v) (ap s (sym e))

    miss : (v : ℕ) → In v l → eqb (s z) (s v) ≡ false
    miss v i = ne_eqb (s z) (s v) (λ e. (let q = inj z v (inl refl) (inr i) e in let u = under v i in omega arith))

    at : (In x l → In y l → earlier (map s l) (s x) (s y) ≡ s (max x y)) → In x (z ∷ l) → In y (z ∷ l) → cond (eqb (s z) (s x)) (s x) (cond (eqb (s z) (s y)) (s y) (earlier (map s l) (s x) (s y))) ≡ s (max x y)
    at ih (inl ex) (inl ey) = rw (hit x ex) (ap s (omega arith))
    at ih (inl ex) (inr j) = let u = under y j in rw (hit x ex) (ap s (omega arith))
    at ih (inr i) (inl ey) = let u = under x i in rw (miss x i, hit y ey) (ap s (omega arith))
    at ih (inr i) (inr j) = rw (miss x i, miss y j) (ih i j)
