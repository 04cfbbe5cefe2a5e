-- How a proof goes by cases: on two numbers, on a test, by strong induction; and what a test made of tests says of its parts.
-- Assumes nothing.
use Rattle.std.specs.Prelude.{◌≡◌, refl, ◌⊎◌, Bool, true, false, cond, not, ◌&&◌, ◌||◌, ℕ, zero, suc, ◌≤◌, ◌<◌}
use Rattle.std.proofs.Common.{sym, ◌∙◌, inl, inr, true≢false, arith}
use Rattle.std.proofs.Math.Decide.{dec_le, dec_lt, ℕ_discrete}

-- ---- Numbers

-- A number has what it has once all smaller ones have it.
pub strong {ℓ} : (P : ℕ → Type ℓ) → ((t : ℕ) → ((s : ℕ) → s < t → P s) → P t) → (t : ℕ) → P t
strong P step t = below (suc t) t (omega arith)
  where
    below : (b m : ℕ) → m < b → P m
    below zero m h = absurd (omega arith)
    below (suc b) m h = step m (λ s l. below b s (omega arith))

pub by_eq {ℓ} : {P : Type ℓ} (x y : ℕ) → (x ≡ y → P) → ((x ≡ y → ⊥) → P) → P
by_eq x y f g = elim (ℕ_discrete x y) [ yes e ↦ f e | no e ↦ g e ]

pub by_le {ℓ} : {P : Type ℓ} (x y : ℕ) → (x ≤ y → P) → (y < x → P) → P
by_le x y f g = elim (dec_le x y) [ yes h ↦ f h | no h ↦ g (omega arith) ]

pub by_lt {ℓ} : {P : Type ℓ} (x y : ℕ) → (x < y → P) → (y ≤ x → P) → P
by_lt x y f g = elim (dec_lt x y) [ yes h ↦ f h | no h ↦ g (omega arith) ]

-- ---- Tests

pub by_test {ℓ} : {P : Type ℓ} (b : Bool) → (b ≡ true → P) → (b ≡ false → P) → P
by_test true f g = f refl
by_test false f g = g refl

-- A test does not both pass and fail.
pub clash : {b : Bool} → b ≡ true → b ≡ false → ⊥
clash t f = true≢false (sym t ∙ f)

-- A test that can't fail passes, one that can't pass fails.
pub passes : (b : Bool) → (b ≡ false → ⊥) → b ≡ true
passes true h = refl
passes false h = absurd (h refl)

pub fails : (b : Bool) → (b ≡ true → ⊥) → b ≡ false
fails true h = absurd (h refl)
fails false h = refl

-- Two tests that imply each other are equal.
pub agree : (a b : Bool) → (a ≡ true → b ≡ true) → (b ≡ true → a ≡ true) → a ≡ b
agree true b f g = sym (f refl)
agree false true f g = g refl
agree false false f g = refl

pub true_not : {b : Bool} → b ≡ false → not b ≡ true
true_not e = rw e

pub false_not : {b : Bool} → b ≡ true → not b ≡ false
false_not e = rw e

-- Both tests pass.
pub both→ : (a b : Bool) → (a && b) ≡ true → (a ≡ true) × (b ≡ true)
both→ true b e = (refl, e)
both→ false b e = (e, absurd (clash e refl))

pub →both : {a b : Bool} → a ≡ true → b ≡ true → (a && b) ≡ true
→both ea eb = rw (ea, eb)

-- Not both pass.
pub unless→ : (a b : Bool) → (a && b) ≡ false → (a ≡ false) ⊎ (b ≡ false)
unless→ true b e = inr e
unless→ false b e = inl refl

pub →unless : (a b : Bool) → (a ≡ false) ⊎ (b ≡ false) → (a && b) ≡ false
→unless true b (inl e) = absurd (clash refl e)
→unless true b (inr e) = e
→unless false b (inl e) = refl
→unless false b (inr e) = refl

-- One of the tests passes.
pub either→ : (a b : Bool) → (a || b) ≡ true → (a ≡ true) ⊎ (b ≡ true)
either→ true b e = inl refl
either→ false b e = inr e

pub →either : (a b : Bool) → (a ≡ true) ⊎ (b ≡ true) → (a || b) ≡ true
→either true b (inl e) = refl
→either true b (inr e) = refl
→either false b (inl e) = absurd (clash e refl)
→either false b (inr e) = e

-- Neither passes.
pub neither→ : (a b : Bool) → (a || b) ≡ false → (a ≡ false) × (b ≡ false)
neither→ true b e = (e, absurd (clash refl e))
neither→ false b e = (refl, e)

pub →neither : {a b : Bool} → a ≡ false → b ≡ false → (a || b) ≡ false
→neither ea eb = rw (ea, eb)

-- ---- A choice by a test

pub cond_true {ℓ} : {A : Type ℓ} {b : Bool} (x y : A) → b ≡ true → cond b x y ≡ x
cond_true x y e = rw e

pub cond_false {ℓ} : {A : Type ℓ} {b : Bool} (x y : A) → b ≡ false → cond b x y ≡ y
cond_false x y e = rw e

pub cond_self {ℓ} : {A : Type ℓ} (b : Bool) (x : A) → cond b x x ≡ x
cond_self true x = refl
cond_self false x = refl

-- What holds of both holds of the choice.
pub cond_has {ℓ κ} : {A : Type ℓ} (P : A → Type κ) (b : Bool) {x y : A} → (b ≡ true → P x) → (b ≡ false → P y) → P (cond b x y)
cond_has P true hx hy = hx refl
cond_has P false hx hy = hy refl
