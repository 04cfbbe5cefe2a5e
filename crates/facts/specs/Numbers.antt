-- The model's tests over the numbers below n, as facts: some passes, every one passes, how many pass, the smallest that passes, some
-- pair passes. Outside this file nobody opens them. Assumes nothing.
use Rattle.std.specs.Prelude.{◌≡◌, ◌⊎◌, Bool, true, false, cond, ◌&&◌, ◌||◌, ℕ, zero, suc, ◌+◌, ◌≤◌, ◌<◌}
use Rattle.std.proofs.Math.Path.{refl}
use Rattle.std.proofs.Common.{sym, ap₂, ◌∙◌, inl, inr, add-one, arith}
use Rattle.model.specs.Tests.{any, all, count, any_pair, least}
use Rattle.facts.specs.Cases.{by_eq, by_lt, by_test, clash, fails, passes, both→, →both, either→, →either}

-- What is so below n and at n is so below n + 1.
pub below_next {ℓ} : (P : ℕ → Type ℓ) {n : ℕ} → ((k : ℕ) → k < n → P k) → P n → (k : ℕ) → k < suc n → P k
below_next P {n} h p k l = by_eq k n (λ e. rw e p) (λ ne. h k (omega arith))

module _ {n : ℕ} {f : ℕ → Bool} where
  inner : (k : ℕ) × (k < n) × (f k ≡ true) → (k : ℕ) × (k < suc n) × (f k ≡ true)
  inner w = (w.0, (let h : w.0 < n = w.1 in omega arith), w.2)

-- ---- Some number below n passes

pub any→ : (n : ℕ) (f : ℕ → Bool) → any n f ≡ true → (k : ℕ) × (k < n) × (f k ≡ true)
unfolding any
any→ zero f e = absurd (clash e refl)
any→ (suc n) f e = go (any→ n f) (either→ (any n f) (f n) e)
  where
    go : (any n f ≡ true → (k : ℕ) × (k < n) × (f k ≡ true)) → (any n f ≡ true) ⊎ (f n ≡ true) → (k : ℕ) × (k < suc n) × (f k ≡ true)
    go ih (inl h) = inner (ih h)
    go ih (inr h) = (n, omega arith, h)

pub →any : (n : ℕ) (f : ℕ → Bool) (k : ℕ) → k < n → f k ≡ true → any n f ≡ true
unfolding any
→any zero f k h e = absurd (omega arith)
→any (suc n) f k h e = →either (any n f) (f n) (by_eq k n (λ q. inr (rw (← q) e)) (λ q. inl (→any n f k (omega arith) e)))

pub none→ : (n : ℕ) (f : ℕ → Bool) → any n f ≡ false → (k : ℕ) → k < n → f k ≡ false
none→ n f e k h = fails (f k) (λ t. clash (→any n f k h t) e)

pub →none : (n : ℕ) (f : ℕ → Bool) → ((k : ℕ) → k < n → f k ≡ false) → any n f ≡ false
→none n f h = fails (any n f) (λ t. let w = any→ n f t in clash w.2 (h w.0 w.1))

pub any_next : (n : ℕ) (f : ℕ → Bool) → any (n + 1) f ≡ (any n f || f n)
unfolding any
any_next n f = rw add-one

pub any_same : (n : ℕ) (f g : ℕ → Bool) → ((k : ℕ) → k < n → f k ≡ g k) → any n f ≡ any n g
unfolding any
any_same zero f g e = refl
any_same (suc n) f g e = ap₂ ◌||◌ (any_same n f g (λ k h. e k (omega arith))) (e n (omega arith))

-- ---- Every number below n passes

pub all→ : (n : ℕ) (f : ℕ → Bool) → all n f ≡ true → (k : ℕ) → k < n → f k ≡ true
unfolding all
all→ zero f e k h = absurd (omega arith)
all→ (suc n) f e k h =
    let b = both→ (all n f) (f n) e in
    below_next (λ j. f j ≡ true) (all→ n f b.0) b.1 k h

pub →all : (n : ℕ) (f : ℕ → Bool) → ((k : ℕ) → k < n → f k ≡ true) → all n f ≡ true
unfolding all
→all zero f h = refl
→all (suc n) f h = →both (→all n f (λ k l. h k (omega arith))) (h n (omega arith))

pub fail→ : (n : ℕ) (f : ℕ → Bool) → all n f ≡ false → (k : ℕ) × (k < n) × (f k ≡ false)
unfolding all
fail→ zero f e = absurd (clash refl e)
fail→ (suc n) f e = go (fail→ n f) (all n f) refl (f n) refl
  where
    go : (all n f ≡ false → (k : ℕ) × (k < n) × (f k ≡ false)) → (a : Bool) → all n f ≡ a → (b : Bool) → f n ≡ b → (k : ℕ) × (k < suc n) × (f k ≡ false)
    go ih false ea b eb = let w = ih ea in (w.0, (let h : w.0 < n = w.1 in omega arith), w.2)
    go ih true ea false eb = (n, omega arith, eb)
    go ih true ea true eb = absurd (clash (→both ea eb) e)

pub →fail : (n : ℕ) (f : ℕ → Bool) (k : ℕ) → k < n → f k ≡ false → all n f ≡ false
→fail n f k h e = fails (all n f) (λ t. clash (all→ n f t k h) e)

pub all_next : (n : ℕ) (f : ℕ → Bool) → all (n + 1) f ≡ (all n f && f n)
unfolding all
all_next n f = rw add-one

-- A loop that leaves at the first number that fails, in the code's `k + 1`.
module _ (f : ℕ → Bool) where
  pub all-start : all 0 f ≡ true
  unfolding all
  all-start = refl

  pub all_turn : (k : ℕ) → all k f ≡ true → f k ≡ true → all (k + 1) f ≡ true
  all_turn k e h = all_next k f ∙ →both e h

  pub all_end : (k n : ℕ) → all k f ≡ true → k ≤ n → n ≤ k → all n f ≡ true
  all_end k n e h l = let same : n ≡ k = omega arith in rw same e

pub all_same : (n : ℕ) (f g : ℕ → Bool) → ((k : ℕ) → k < n → f k ≡ g k) → all n f ≡ all n g
unfolding all
all_same zero f g e = refl
all_same (suc n) f g e = ap₂ ◌&&◌ (all_same n f g (λ k h. e k (omega arith))) (e n (omega arith))

-- ---- How many pass

pub count_next : (n : ℕ) (f : ℕ → Bool) → count (n + 1) f ≡ count n f + cond (f n) 1 0
unfolding count
count_next n f = rw add-one

pub count_same : (n : ℕ) (f g : ℕ → Bool) → ((k : ℕ) → k < n → f k ≡ g k) → count n f ≡ count n g
unfolding count
count_same zero f g e = refl
count_same (suc n) f g e = ap₂ (λ c b. c + cond b 1 0) (count_same n f g (λ k h. e k (omega arith))) (e n (omega arith))

one : (b : Bool) → cond b 1 0 ≤ 1
one true = omega arith
one false = omega arith

pub count_le : (n : ℕ) (f : ℕ → Bool) → count n f ≤ n
unfolding count
count_le zero f = omega arith
count_le (suc n) f = omega (arith, count_le n f, one (f n))

pub →count : (n : ℕ) (f : ℕ → Bool) (k : ℕ) → k < n → f k ≡ true → 0 < count n f
unfolding count
→count zero f k h e = absurd (omega arith)
→count (suc n) f k h e =
    by_eq k n
    (λ q. let o : ◌≡◌ {A = ℕ} (cond (f n) 1 0) 1 = rw (← q, e) in omega arith)
    (λ q. omega (arith, →count n f k (omega arith) e))

-- None passes exactly if the count is 0.
pub count_none : (n : ℕ) (f : ℕ → Bool) → ((k : ℕ) → k < n → f k ≡ false) → count n f ≡ 0
unfolding count
count_none zero f h = refl
count_none (suc n) f h =
    let o : ◌≡◌ {A = ℕ} (cond (f n) 1 0) 0 = rw (h n (omega arith)) in
    omega (arith, count_none n f (λ k l. h k (omega arith)))

pub none_count : (n : ℕ) (f : ℕ → Bool) → count n f ≡ 0 → (k : ℕ) → k < n → f k ≡ false
none_count n f z k h = fails (f k) (λ t. let p = →count n f k h t in omega arith)

pub count→ : (n : ℕ) (f : ℕ → Bool) → 0 < count n f → (k : ℕ) × (k < n) × (f k ≡ true)
count→ n f h = any→ n f (passes (any n f) (λ e. let z = count_none n f (none→ n f e) in omega arith))

-- ---- The smallest that passes

record Least (m : ℕ) (f : ℕ → Bool) (r : ℕ) : Type 0 where
  top : r ≤ m
  under : (j : ℕ) → j < r → f j ≡ false
  found : r < m → f r ≡ true

least_is : (m : ℕ) (f : ℕ → Bool) → Least m f (least m f)
unfolding least
least_is zero f = record { top = omega arith; under = λ j h. absurd (omega arith); found = λ h. absurd (omega arith) }
least_is (suc m) f = go (least m f) (least_is m f)
  where
    go : (r : ℕ) → Least m f r → Least (suc m) f (cond (f r) r (suc m))
    go r l =
        by_test (f r)
        (λ e. rw e record { top = omega (arith, l.top); under = l.under; found = λ h. e })
        (λ e.
        let end : r ≡ m = by_eq r m (λ q. q) (λ q. absurd (clash (l.found (omega (arith, l.top))) e)) in
        rw e record { top = omega arith; under = λ j h. below_next (λ i. f i ≡ false) l.under e j (omega arith); found = λ h. absurd (omega arith) })

pub least_le : (m : ℕ) (f : ℕ → Bool) → least m f ≤ m
least_le m f = (least_is m f).top

pub least_below : (m : ℕ) (f : ℕ → Bool) (j : ℕ) → j < least m f → f j ≡ false
least_below m f = (least_is m f).under

pub least_passes : (m : ℕ) (f : ℕ → Bool) → least m f < m → f (least m f) ≡ true
least_passes m f = (least_is m f).found

-- It is the one that passes where all smaller ones fail; and m where all below m fail.
pub least_at : (m : ℕ) (f : ℕ → Bool) (k : ℕ) → k < m → f k ≡ true → ((j : ℕ) → j < k → f j ≡ false) → least m f ≡ k
least_at m f k h e u =
    by_lt (least m f) k
    (λ l. absurd (clash (least_passes m f (omega arith)) (u (least m f) l)))
    (λ l. by_lt k (least m f) (λ b. absurd (clash e (least_below m f k b))) (λ b. omega arith))

pub least_none : (m : ℕ) (f : ℕ → Bool) → ((j : ℕ) → j < m → f j ≡ false) → least m f ≡ m
least_none m f u =
    by_lt (least m f) m
    (λ l. absurd (clash (least_passes m f l) (u (least m f) l)))
    (λ l. let t = least_le m f in omega arith)

pub least-some : (m : ℕ) (f : ℕ → Bool) (k : ℕ) → k < m → f k ≡ true → least m f < m
least-some m f k h e =
    by_lt (least m f) m (λ l. l) (λ l. absurd (clash e (least_below m f k (omega arith))))

pub least_same : (m : ℕ) (f g : ℕ → Bool) → ((k : ℕ) → k < m → f k ≡ g k) → least m f ≡ least m g
least_same m f g e =
    by_lt (least m g) m
    (λ l. least_at m f (least m g) l (e (least m g) l ∙ least_passes m g l) (λ j h. e j (omega arith) ∙ least_below m g j h))
    (λ l. let t = least_le m g in
    let end : least m g ≡ m = omega arith in
    least_none m f (λ j h. e j h ∙ least_below m g j (omega arith)) ∙ sym end)

-- ---- Some pair of different numbers passes, the lower first

pub pair→ : (n : ℕ) (f : ℕ → ℕ → Bool) → any_pair n f ≡ true → (i : ℕ) × (j : ℕ) × (i < j) × (j < n) × (f i j ≡ true)
unfolding any_pair
pair→ n f e =
    let x = any→ n (λ j. any j (λ i. f i j)) e in
    let y = any→ x.0 (λ i. f i x.0) x.2 in
    (y.0, x.0, y.1, x.1, y.2)

pub →pair : (n : ℕ) (f : ℕ → ℕ → Bool) (i j : ℕ) → i < j → j < n → f i j ≡ true → any_pair n f ≡ true
unfolding any_pair
→pair n f i j h l e = →any n (λ j. any j (λ i. f i j)) j l (→any j (λ i. f i j) i h e)

pub no_pair→ : (n : ℕ) (f : ℕ → ℕ → Bool) → any_pair n f ≡ false → (i j : ℕ) → i < j → j < n → f i j ≡ false
no_pair→ n f e i j h l = fails (f i j) (λ t. clash (→pair n f i j h l t) e)

pub →no_pair : (n : ℕ) (f : ℕ → ℕ → Bool) → ((i j : ℕ) → i < j → j < n → f i j ≡ false) → any_pair n f ≡ false
→no_pair n f h = fails (any_pair n f) (λ t. let w = pair→ n f t in clash w.4 (h w.0 w.1 w.2 w.3))
