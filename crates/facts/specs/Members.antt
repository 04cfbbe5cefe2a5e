-- What stands in a row, as a type, and the model's tests on a row as facts about it: a symbol stands in it, its symbols are all
-- different, every symbol passes, its head. Outside this file and Keeping nobody opens them. Assumes nothing.
use Rattle.std.specs.Prelude.{◌≡◌, refl, ◌⊎◌, Bool, true, false, not, ◌&&◌, ◌||◌, List, [], ◌∷◌, ◌++◌, ℕ, zero, suc, ◌<◌, length, get_or, eqb}
use Rattle.std.proofs.Common.{sym, ap, ap₂, ◌∙◌, inl, inr, ⊎_elim, arith, eqb-true, eq-eqb}
use Rattle.std.proofs.lemmas.Bool.{not-true}
use Rattle.model.specs.Tests.{head, is_in, every, different}
use Rattle.facts.specs.Cases.{by_test, clash, fails, agree, true_not, both→, →both, either→, →either}

-- Symbol x stands in the row.
abbrev pub In : ℕ → List ℕ → Type 0
In x [] = ⊥
In x (y ∷ l) = (x ≡ y) ⊎ In x l

-- The symbols of the row are all different.
abbrev pub Different : List ℕ → Type 0
Different [] = Unit {0}
Different (x ∷ l) = (In x l → ⊥) × Different l

-- ---- x stands in the row

pub is_in_cons : (x y : ℕ) (l : List ℕ) → is_in x (y ∷ l) ≡ (eqb y x || is_in x l)
unfolding is_in
is_in_cons x y l = refl

pub is_in→ : (x : ℕ) (l : List ℕ) → is_in x l ≡ true → In x l
unfolding is_in
is_in→ x [] e = clash e refl
is_in→ x (y ∷ l) e = go (is_in→ x l) (either→ (eqb y x) (is_in x l) e)
  where
    go : (is_in x l ≡ true → In x l) → (eqb y x ≡ true) ⊎ (is_in x l ≡ true) → (x ≡ y) ⊎ In x l
    go ih (inl t) = inl (sym (eqb-true y x t))
    go ih (inr t) = inr (ih t)

pub →is_in : (x : ℕ) (l : List ℕ) → In x l → is_in x l ≡ true
unfolding is_in
→is_in x [] i = absurd i
→is_in x (y ∷ l) i = →either (eqb y x) (is_in x l) (⊎_elim (λ e. inl (eq-eqb y x (sym e))) (λ r. inr (→is_in x l r)) i)

pub not_in→ : (x : ℕ) (l : List ℕ) → is_in x l ≡ false → In x l → ⊥
not_in→ x l e i = clash (→is_in x l i) e

pub →not_in : (x : ℕ) (l : List ℕ) → (In x l → ⊥) → is_in x l ≡ false
→not_in x l h = fails (is_in x l) (λ t. h (is_in→ x l t))

pub in? : (x : ℕ) (l : List ℕ) → Dec (In x l)
in? x l = by_test (is_in x l) (λ t. yes (is_in→ x l t)) (λ f. no (not_in→ x l f))

pub by_in {ℓ} : {P : Type ℓ} (x : ℕ) (l : List ℕ) → (In x l → P) → ((In x l → ⊥) → P) → P
by_in x l f g = elim (in? x l) [ yes i ↦ f i | no i ↦ g i ]

pub is_in_same : (x : ℕ) (l m : List ℕ) → (In x l → In x m) → (In x m → In x l) → is_in x l ≡ is_in x m
is_in_same x l m f g = agree (is_in x l) (is_in x m) (λ t. →is_in x m (f (is_in→ x l t))) (λ t. →is_in x l (g (is_in→ x m t)))

-- In two rows one behind the other.
pub in_front : (x : ℕ) (l m : List ℕ) → In x l → In x (l ++ m)
in_front x [] m i = absurd i
in_front x (y ∷ l) m (inl e) = inl e
in_front x (y ∷ l) m (inr i) = inr (in_front x l m i)

pub in_behind : (x : ℕ) (l m : List ℕ) → In x m → In x (l ++ m)
in_behind x [] m i = i
in_behind x (y ∷ l) m i = inr (in_behind x l m i)

pub in_append : (x : ℕ) (l m : List ℕ) → In x (l ++ m) → In x l ⊎ In x m
in_append x [] m i = inr i
in_append x (y ∷ l) m (inl e) = inl (inl e)
in_append x (y ∷ l) m (inr i) = ⊎_elim (λ j. inl (inr j)) inr (in_append x l m i)

pub is_in-append : (x : ℕ) (l m : List ℕ) → is_in x (l ++ m) ≡ (is_in x l || is_in x m)
is_in-append x l m =
    agree (is_in x (l ++ m)) (is_in x l || is_in x m)
    (λ t. →either (is_in x l) (is_in x m) (⊎_elim (λ i. inl (→is_in x l i)) (λ i. inr (→is_in x m i)) (in_append x l m (is_in→ x (l ++ m) t))))
    (λ t. →is_in x (l ++ m) (⊎_elim (λ e. in_front x l m (is_in→ x l e)) (λ e. in_behind x l m (is_in→ x m e)) (either→ (is_in x l) (is_in x m) t)))

-- By place: what stands somewhere in the row has a place, and each place holds one that stands in it.
pub in_at : (l : List ℕ) (i : ℕ) → i < length l → In (get_or l i 0) l
in_at [] i h = absurd (omega arith)
in_at (x ∷ l) zero h = inl refl
in_at (x ∷ l) (suc i) h = inr (in_at l i (omega arith))

pub at_in : (x : ℕ) (l : List ℕ) → In x l → (i : ℕ) × (i < length l) × (get_or l i 0 ≡ x)
at_in x [] n = absurd n
at_in x (y ∷ l) (inl e) = (0, omega arith, sym e)
at_in x (y ∷ l) (inr n) = let w = at_in x l n in (suc w.0, (let h : w.0 < length l = w.1 in omega arith), w.2)

-- The head of a row with a symbol stands in it.
pub head_in : (l : List ℕ) → 0 < length l → In (head l) l
head_in [] h = absurd (omega arith)
head_in (x ∷ l) h = inl refl

-- Where something stands there is a symbol.
pub in_long : (x : ℕ) (l : List ℕ) → In x l → 0 < length l
in_long x [] i = absurd i
in_long x (y ∷ l) i = omega arith

-- ---- The symbols are all different

pub different_cons : (x : ℕ) (l : List ℕ) → different (x ∷ l) ≡ (not (is_in x l) && different l)
unfolding different
different_cons x l = refl

pub different→ : (l : List ℕ) → different l ≡ true → Different l
unfolding different
different→ [] e = tt
different→ (x ∷ l) e =
    let b = both→ (not (is_in x l)) (different l) e in
    (not_in→ x l (not-true (is_in x l) b.0), different→ l b.1)

pub →different : (l : List ℕ) → Different l → different l ≡ true
unfolding different
→different [] d = refl
→different (x ∷ l) d = →both (true_not (→not_in x l d.0)) (→different l d.1)

-- By place: two different places hold different symbols.
pub different_at : (l : List ℕ) → Different l → (i j : ℕ) → i < length l → j < length l → get_or l i 0 ≡ get_or l j 0 → i ≡ j
different_at [] d i j hi hj e = absurd (omega arith)
different_at (x ∷ l) d zero zero hi hj e = refl
different_at (x ∷ l) d zero (suc j) hi hj e = absurd (d.0 (rw e (in_at l j (omega arith))))
different_at (x ∷ l) d (suc i) zero hi hj e = absurd (d.0 (rw (← e) (in_at l i (omega arith))))
different_at (x ∷ l) d (suc i) (suc j) hi hj e = ap suc (different_at l d.1 i j (omega arith) (omega arith) e)

-- ---- Every symbol passes

pub every_cons : (f : ℕ → Bool) (x : ℕ) (l : List ℕ) → every f (x ∷ l) ≡ (f x && every f l)
unfolding every
every_cons f x l = refl

pub every→ : (f : ℕ → Bool) (l : List ℕ) → every f l ≡ true → (x : ℕ) → In x l → f x ≡ true
unfolding every
every→ f [] e x i = absurd i
every→ f (y ∷ l) e x i =
    let b = both→ (f y) (every f l) e in
    ⊎_elim (λ q. ap f q ∙ b.0) (λ r. every→ f l b.1 x r) i

pub →every : (f : ℕ → Bool) (l : List ℕ) → ((x : ℕ) → In x l → f x ≡ true) → every f l ≡ true
unfolding every
→every f [] h = refl
→every f (y ∷ l) h = →both (h y (inl refl)) (→every f l (λ x i. h x (inr i)))

pub not-every→ : (f : ℕ → Bool) (l : List ℕ) → every f l ≡ false → (x : ℕ) × In x l × (f x ≡ false)
unfolding every
not-every→ f [] e = absurd (clash refl e)
not-every→ f (y ∷ l) e = go (not-every→ f l) (f y) refl (every f l) refl
  where
    go : (every f l ≡ false → (x : ℕ) × In x l × (f x ≡ false)) → (a : Bool) → f y ≡ a → (b : Bool) → every f l ≡ b → (x : ℕ) × In x (y ∷ l) × (f x ≡ false)
    go ih false ea b eb = (y, inl refl, ea)
    go ih true ea false eb = let w = ih eb in (w.0, inr w.1, w.2)
    go ih true ea true eb = absurd (clash (→both ea eb) e)

pub →not-every : (f : ℕ → Bool) (l : List ℕ) (x : ℕ) → In x l → f x ≡ false → every f l ≡ false
→not-every f l x i e = fails (every f l) (λ t. clash (every→ f l t x i) e)

pub every_same : (f g : ℕ → Bool) (l : List ℕ) → ((x : ℕ) → In x l → f x ≡ g x) → every f l ≡ every g l
unfolding every
every_same f g [] e = refl
every_same f g (x ∷ l) e = ap₂ ◌&&◌ (e x (inl refl)) (every_same f g l (λ y i. e y (inr i)))

pub every-append : (f : ℕ → Bool) (l m : List ℕ) → every f (l ++ m) ≡ (every f l && every f m)
every-append f l m =
    agree (every f (l ++ m)) (every f l && every f m)
    (λ t. →both (→every f l (λ x i. every→ f (l ++ m) t x (in_front x l m i))) (→every f m (λ x i. every→ f (l ++ m) t x (in_behind x l m i))))
    (λ t. let b = both→ (every f l) (every f m) t in
    →every f (l ++ m) (λ x i. ⊎_elim (every→ f l b.0 x) (every→ f m b.1 x) (in_append x l m i)))
