-- How many: a row of different symbols among few has few, and a row that holds every number that passes is at least as long as they
-- are many. Assumes nothing.
use Rattle.std.specs.Prelude.{◌≡◌, refl, Bool, true, false, not, List, [], ◌∷◌, ℕ, zero, suc, ◌≤◌, ◌<◌, length, eqb}
use Rattle.std.proofs.Common.{sym, ap, ◌∙◌, inl, inr, arith, eq-eqb, ne_eqb}
use Rattle.std.proofs.lemmas.Bool.{eqb-false, not-true}
use Rattle.model.specs.Tests.{count, keep}
use Rattle.facts.specs.Cases.{by_eq, by_test, true_not, false_not}
use Rattle.facts.specs.Members.{In, Different}
use Rattle.facts.specs.Keeping.{keep_pass, keep_fail, keep→, →keep, keep-different, keep-length, keep-all}

-- Every symbol but v.
abbrev pub but : ℕ → ℕ → Bool
but v x = not (eqb x v)

pub but→ : (v x : ℕ) → but v x ≡ true → x ≡ v → ⊥
but→ v x e = eqb-false x v (not-true (eqb x v) e)

pub →but : (v x : ℕ) → (x ≡ v → ⊥) → but v x ≡ true
→but v x h = true_not (ne_eqb x v h)

-- Without a symbol that stands in it the row is shorter.
pub keep_less : (f : ℕ → Bool) (x : ℕ) (l : List ℕ) → In x l → f x ≡ false → length (keep f l) < length l
keep_less f x [] i e = absurd i
keep_less f x (y ∷ l) (inl q) e = rw (keep_fail f y l (ap f (sym q) ∙ e)) (let h = keep-length f l in omega arith)
keep_less f x (y ∷ l) (inr i) e =
    by_test (f y)
    (λ t. rw (keep_pass f y l t) (let h = keep_less f x l i e in omega arith))
    (λ t. rw (keep_fail f y l t) (let h = keep_less f x l i e in omega arith))

-- Without one symbol a row of different symbols is at most one shorter.
pub keep-but : (v : ℕ) (l : List ℕ) → Different l → length l ≤ suc (length (keep (but v) l))
keep-but v [] d = omega arith
keep-but v (x ∷ l) d =
    by_eq x v
    (λ e.
    let same : keep (but v) l ≡ l = keep-all (but v) l (λ y i. →but v y (λ q. d.0 (rw (e ∙ sym q) i))) in
    rw (keep_fail (but v) x l (false_not (eq-eqb x v e)), same) (omega arith))
    (λ ne. rw (keep_pass (but v) x l (→but v x ne)) (let h = keep-but v l d.1 in omega arith))

-- A row of different symbols, each of them one of f 0 to f (m−1), has at most m.
pub few : (m : ℕ) (f : ℕ → ℕ) (l : List ℕ) → Different l → ((x : ℕ) → In x l → (k : ℕ) × (k < m) × (f k ≡ x)) → length l ≤ m
few zero f [] d h = omega arith
few zero f (x ∷ l) d h = let w = h x (inl refl) in let a : w.0 < 0 = w.1 in absurd (omega arith)
few (suc m) f l d h = let r = few m f (keep (but (f m)) l) (keep-different (but (f m)) l d) less in let s = keep-but (f m) l d in omega arith
  where
    less : (x : ℕ) → In x (keep (but (f m)) l) → (k : ℕ) × (k < m) × (f k ≡ x)
    less x i =
        let j = keep→ (but (f m)) x l i in
        let w = h x j.0 in
        let a : w.0 < suc m = w.1 in
        by_eq w.0 m (λ e. absurd (but→ (f m) x j.1 (sym w.2 ∙ ap f e))) (λ ne. (w.0, omega arith, w.2))

-- A row that holds every number below m that passes is at least as long as they are many.
pub count_cover : (m : ℕ) (f : ℕ → Bool) (l : List ℕ) → ((x : ℕ) → x < m → f x ≡ true → In x l) → count m f ≤ length l
unfolding count
count_cover zero f l h = omega arith
count_cover (suc m) f l h =
    by_test (f m)
    (λ t.
    let r = count_cover m f (keep (but m) l) (λ x u e. →keep (but m) x l (h x (omega arith) e) (→but m x (λ q. omega arith))) in
    let s = keep_less (but m) m l (h m (omega arith) t) (false_not (eq-eqb m m refl)) in
    rw t (omega arith))
    (λ t. let r = count_cover m f l (λ x u e. h x (omega arith) e) in rw t (omega arith))

pub count-all : (m : ℕ) (f : ℕ → Bool) → ((x : ℕ) → x < m → f x ≡ true) → count m f ≡ m
unfolding count
count-all zero f h = refl
count-all (suc m) f h = rw (h m (omega arith)) (let r = count-all m f (λ x u. h x (omega arith)) in omega arith)
