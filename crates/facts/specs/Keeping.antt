-- The model's `keep` and `earlier` as facts: what stands in a row cut down to the symbols that pass, and which of two symbols stands
-- earlier. Outside this file nobody opens them. Assumes nothing.
use Rattle.std.specs.Prelude.{◌≡◌, refl, ◌⊎◌, Bool, true, false, cond, List, [], ◌∷◌, ◌++◌, ℕ, suc, ◌≤◌, ◌<◌, length, eqb}
use Rattle.std.proofs.Common.{sym, ap, ap₂, ◌∙◌, inl, inr, ⊎_elim, arith, eqb-true, eq-eqb}
use Rattle.std.proofs.lemmas.Bool.{eqb-false}
use Rattle.model.specs.Tests.{head, keep, earlier}
use Rattle.facts.specs.Cases.{by_test}
use Rattle.facts.specs.Members.{In, Different}

-- ---- The symbols that pass

pub keep_cons : (f : ℕ → Bool) (x : ℕ) (l : List ℕ) → keep f (x ∷ l) ≡ cond (f x) (x ∷ keep f l) (keep f l)
unfolding keep
keep_cons f x l = refl

pub keep_pass : (f : ℕ → Bool) (x : ℕ) (l : List ℕ) → f x ≡ true → keep f (x ∷ l) ≡ x ∷ keep f l
unfolding keep
keep_pass f x l e = rw e

pub keep_fail : (f : ℕ → Bool) (x : ℕ) (l : List ℕ) → f x ≡ false → keep f (x ∷ l) ≡ keep f l
unfolding keep
keep_fail f x l e = rw e

pub keep→ : (f : ℕ → Bool) (x : ℕ) (l : List ℕ) → In x (keep f l) → In x l × (f x ≡ true)
unfolding keep
keep→ f x [] i = absurd i
keep→ f x (y ∷ l) i = go (keep→ f x l) (f y) refl i
  where
    go : (In x (keep f l) → In x l × (f x ≡ true)) → (b : Bool) → f y ≡ b → In x (cond b (y ∷ keep f l) (keep f l)) → In x (y ∷ l) × (f x ≡ true)
    go ih true e (inl q) = (inl q, ap f q ∙ e)
    go ih true e (inr r) = let w = ih r in (inr w.0, w.1)
    go ih false e r = let w = ih r in (inr w.0, w.1)

pub →keep : (f : ℕ → Bool) (x : ℕ) (l : List ℕ) → In x l → f x ≡ true → In x (keep f l)
→keep f x [] i e = absurd i
→keep f x (y ∷ l) (inl q) e = rw (keep_pass f y l (ap f (sym q) ∙ e)) (inl q)
→keep f x (y ∷ l) (inr i) e =
    by_test (f y) (λ t. rw (keep_pass f y l t) (inr (→keep f x l i e))) (λ t. rw (keep_fail f y l t) (→keep f x l i e))

pub keep-different : (f : ℕ → Bool) (l : List ℕ) → Different l → Different (keep f l)
unfolding keep
keep-different f [] d = tt
keep-different f (x ∷ l) d = go (keep-different f l d.1) (f x)
  where
    go : Different (keep f l) → (b : Bool) → Different (cond b (x ∷ keep f l) (keep f l))
    go ih true = (λ i. d.0 (keep→ f x l i).0, ih)
    go ih false = ih

pub keep-length : (f : ℕ → Bool) (l : List ℕ) → length (keep f l) ≤ length l
unfolding keep
keep-length f [] = omega arith
keep-length f (x ∷ l) = go (keep-length f l) (f x)
  where
    go : length (keep f l) ≤ length l → (b : Bool) → length (cond b (x ∷ keep f l) (keep f l)) ≤ suc (length l)
    go ih true = omega arith
    go ih false = omega arith

pub keep_same : (f g : ℕ → Bool) (l : List ℕ) → ((x : ℕ) → In x l → f x ≡ g x) → keep f l ≡ keep g l
unfolding keep
keep_same f g [] e = refl
keep_same f g (x ∷ l) e =
    ap₂ (λ (b : Bool) (r : List ℕ). cond b (x ∷ r) r) (e x (inl refl)) (keep_same f g l (λ y i. e y (inr i)))

pub keep-all : (f : ℕ → Bool) (l : List ℕ) → ((x : ℕ) → In x l → f x ≡ true) → keep f l ≡ l
unfolding keep
keep-all f [] e = refl
keep-all f (x ∷ l) e = rw (e x (inl refl)) (ap (λ (r : List ℕ). x ∷ r) (keep-all f l (λ y i. e y (inr i))))

pub keep-append : (f : ℕ → Bool) (l m : List ℕ) → keep f (l ++ m) ≡ keep f l ++ keep f m
unfolding keep
keep-append f [] m = refl
keep-append f (x ∷ l) m = go (f x) (keep-append f l m)
  where
    go : (b : Bool) → keep f (l ++ m) ≡ keep f l ++ keep f m → cond b (x ∷ keep f (l ++ m)) (keep f (l ++ m)) ≡ cond b (x ∷ keep f l) (keep f l) ++ keep f m
    go true ih = ap (λ (r : List ℕ). x ∷ r) ih
    go false ih = ih

-- A row whose head passes keeps its head.
pub keep-head : (f : ℕ → Bool) (l : List ℕ) → f (head l) ≡ true → 0 < length l → head (keep f l) ≡ head l
keep-head f [] e h = absurd (omega arith)
keep-head f (x ∷ l) e h = ap head (keep_pass f x l e)

-- ---- Whichever of x and y stands earlier

pub earlier_cons : (z x y : ℕ) (l : List ℕ) → earlier (z ∷ l) x y ≡ cond (eqb z x) x (cond (eqb z y) y (earlier l x y))
unfolding earlier
earlier_cons z x y l = refl

-- It is one of the two.
pub earlier_either : (l : List ℕ) (x y : ℕ) → (earlier l x y ≡ x) ⊎ (earlier l x y ≡ y)
unfolding earlier
earlier_either [] x y = inr refl
earlier_either (z ∷ l) x y = go (earlier_either l x y) (eqb z x) (eqb z y)
  where
    go : (earlier l x y ≡ x) ⊎ (earlier l x y ≡ y) → (a b : Bool) → (cond a x (cond b y (earlier l x y)) ≡ x) ⊎ (cond a x (cond b y (earlier l x y)) ≡ y)
    go ih true b = inl refl
    go ih false true = inr refl
    go ih false false = ih

-- It stands in the row where one of the two does.
pub earlier_in : (l : List ℕ) (x y : ℕ) → In x l ⊎ In y l → In (earlier l x y) l
unfolding earlier
earlier_in [] x y i = ⊎_elim (λ a. a) (λ a. a) i
earlier_in (z ∷ l) x y i = go (earlier_in l x y) (eqb z x) refl (eqb z y) refl
  where
    go : (In x l ⊎ In y l → In (earlier l x y) l) → (a : Bool) → eqb z x ≡ a → (b : Bool) → eqb z y ≡ b → In (cond a x (cond b y (earlier l x y))) (z ∷ l)
    go ih true e b q = inl (sym (eqb-true z x e))
    go ih false e true q = inl (sym (eqb-true z y q))
    go ih false e false q =
        inr (ih (⊎_elim
        (λ a. ⊎_elim (λ p. absurd (eqb-false z x e (sym p))) inl a)
        (λ a. ⊎_elim (λ p. absurd (eqb-false z y q (sym p))) inr a)
        i))

-- At the head of the row the question is answered.
pub earlier_first : (x y : ℕ) (l : List ℕ) → earlier (x ∷ l) x y ≡ x
unfolding earlier
earlier_first x y l = rw (eq-eqb x x refl)

pub earlier_self : (l : List ℕ) (x : ℕ) → earlier l x x ≡ x
earlier_self l x = ⊎_elim (λ e. e) (λ e. e) (earlier_either l x x)
