-- 'The first that applies is the answer': one law over lists of reasons. A ground is what a row of the refusal table says, as a
-- proposition, with its number. Where each reason of a call says what its ground says, refusal k is given exactly when ground k holds
-- and none before it does. Assumes nothing.
use Rattle.std.specs.Prelude.{◌≡◌, refl, ◌⊎◌, Bool, true, false, not, ◌&&◌, List, [], ◌∷◌, ◌++◌, ℕ}
use Rattle.std.proofs.Common.{sym, ap, ◌∙◌, inl, inr}
use Rattle.std.proofs.Math.Bool.{and_assoc}
use Rattle.model.specs.Answers.{Said, refused, done, ordered, listed, Reason, refuse, answer, accepted, leave}
use Rattle.facts.specs.Cases.{clash, fails}

-- ---- Grounds

pub data Ground : Type 1 where
  ground : Type 0 → ℕ → Ground

-- Ground k holds and none before it.
abbrev pub First : List Ground → ℕ → Type 0
First [] k = ⊥
First (ground P m ∷ g) k = (P × (m ≡ k)) ⊎ ((P → ⊥) × First g k)

-- No ground holds.
abbrev pub NoGround : List Ground → Type 0
NoGround [] = Unit {0}
NoGround (ground P m ∷ g) = (P → ⊥) × NoGround g

-- Each reason applies exactly when its ground holds, where none before it does.
abbrev pub SaySame : List Reason → List Ground → Type 0
SaySame [] [] = Unit {0}
SaySame [] (g ∷ gs) = ⊥
SaySame (r ∷ l) [] = ⊥
SaySame (refuse b k ∷ l) (ground P m ∷ g) = (k ≡ m) × (b ≡ true → P) × (P → b ≡ true) × ((P → ⊥) → SaySame l g)

-- The answer is no refusal.
abbrev pub is_own : Said → Bool
is_own (refused k) = false
is_own done = true
is_own (ordered k) = true
is_own (listed m c) = true

own-not : (a : Said) (k : ℕ) → is_own a ≡ true → a ≡ refused k → ⊥
own-not a k o e = clash o (ap is_own e)

same_number : (k m : ℕ) → refused k ≡ refused m → k ≡ m
same_number k m e = cc

-- ---- Accepted and refused

pub accepted-append : (x y : List Reason) → accepted (x ++ y) ≡ (accepted x && accepted y)
unfolding accepted
accepted-append [] y = refl
accepted-append (refuse b k ∷ x) y = ap (λ (c : Bool). not b && c) (accepted-append x y) ∙ sym (and_assoc (not b) (accepted x) (accepted y))

pub answer-accepted : (l : List Reason) (a : Said) → accepted l ≡ true → answer l a ≡ a
unfolding answer accepted
answer-accepted [] a e = refl
answer-accepted (refuse true k ∷ l) a e = absurd (clash e refl)
answer-accepted (refuse false k ∷ l) a e = answer-accepted l a e

-- The answer is the call's own exactly when the call is accepted.
pub accepted-answer : (l : List Reason) (a : Said) → is_own a ≡ true → answer l a ≡ a → accepted l ≡ true
unfolding answer accepted
accepted-answer [] a o e = refl
accepted-answer (refuse true k ∷ l) a o e = absurd (own-not a k o (sym e))
accepted-answer (refuse false k ∷ l) a o e = accepted-answer l a o e

pub leave-accepted {ℓ} : {A : Type ℓ} (l : List Reason) (old new : A) → accepted l ≡ true → leave l old new ≡ new
unfolding leave
leave-accepted l old new e = rw e

pub leave_refused {ℓ} : {A : Type ℓ} (l : List Reason) (old new : A) → accepted l ≡ false → leave l old new ≡ old
unfolding leave
leave_refused l old new e = rw e

-- An answer that is a refusal means that nothing was accepted.
pub refused_not : (l : List Reason) (a : Said) (k : ℕ) → is_own a ≡ true → answer l a ≡ refused k → accepted l ≡ false
refused_not l a k o e = fails (accepted l) (λ t. own-not a k o (sym (answer-accepted l a t) ∙ e))

-- The answer is the call's own, or a refusal.
pub answer_either : (l : List Reason) (a : Said) → (answer l a ≡ a) ⊎ ((k : ℕ) × (answer l a ≡ refused k))
unfolding answer
answer_either [] a = inl refl
answer_either (refuse true k ∷ l) a = inr (k, refl)
answer_either (refuse false k ∷ l) a = answer_either l a

-- ---- Reason by reason

module _ {b : Bool} (k : ℕ) (l : List Reason) (a : Said) where
  -- The first reason applies, or does not.
  pub answer_now : b ≡ true → answer (refuse b k ∷ l) a ≡ refused k
  unfolding answer
  answer_now e = rw e

  pub answer_later : b ≡ false → answer (refuse b k ∷ l) a ≡ answer l a
  unfolding answer
  answer_later e = rw e

pub answer-own : (a : Said) → answer [] a ≡ a
unfolding answer
answer-own a = refl

-- A refusal of the check is the call's.
pub answer_front : (l m : List Reason) (a : Said) (k : ℕ) → answer l done ≡ refused k → answer (l ++ m) a ≡ refused k
unfolding answer
answer_front [] m a k e = absurd (own-not done k refl e)
answer_front (refuse true j ∷ l) m a k e = e
answer_front (refuse false j ∷ l) m a k e = answer_front l m a k e

-- Behind a check that passed, the other reasons decide.
pub answer-behind : (l m : List Reason) (a : Said) → answer l done ≡ done → answer (l ++ m) a ≡ answer m a
unfolding answer
answer-behind [] m a e = refl
answer-behind (refuse true j ∷ l) m a e = absurd (own-not done j refl (sym e))
answer-behind (refuse false j ∷ l) m a e = answer-behind l m a e

-- The same reasons before another answer: a comparison's refusal is a meeting's, and where it answers, so does the meeting.
pub refused_same : (l : List Reason) (m k : ℕ) → answer l (ordered m) ≡ refused k → answer l done ≡ refused k
unfolding answer
refused_same [] m k e = absurd (own-not (ordered m) k refl e)
refused_same (refuse true j ∷ l) m k e = e
refused_same (refuse false j ∷ l) m k e = refused_same l m k e

pub ordered_done : (l : List Reason) (m k : ℕ) → answer l (ordered m) ≡ ordered k → answer l done ≡ done
unfolding answer
ordered_done [] m k e = refl
ordered_done (refuse true j ∷ l) m k e = absurd (own-not (ordered k) j refl (sym e))
ordered_done (refuse false j ∷ l) m k e = ordered_done l m k e

-- ---- The first ground that holds is the answer

pub say_append : (l l' : List Reason) (g g' : List Ground) → SaySame l g → (NoGround g → SaySame l' g') → SaySame (l ++ l') (g ++ g')
say_append [] l' [] g' s h = h tt
say_append [] l' (x ∷ g) g' s h = absurd s
say_append (x ∷ l) l' [] g' s h = absurd s
say_append (refuse b k ∷ l) l' (ground P m ∷ g) g' s h = (s.0, s.1, s.2, λ n. say_append l l' g g' (s.3 n) (λ r. h (n, r)))

pub first→ : (l : List Reason) (g : List Ground) (a : Said) (k : ℕ) → is_own a ≡ true → SaySame l g → answer l a ≡ refused k → First g k
unfolding answer
first→ [] [] a k o s e = own-not a k o e
first→ [] (x ∷ g) a k o s e = absurd s
first→ (x ∷ l) [] a k o s e = absurd s
first→ (refuse true j ∷ l) (ground P m ∷ g) a k o s e = inl (s.1 refl, sym s.0 ∙ same_number j k e)
first→ (refuse false j ∷ l) (ground P m ∷ g) a k o s e =
    let off : P → ⊥ = λ p. clash (s.2 p) refl in
    inr (off, first→ l g a k o (s.3 off) e)

pub →first : (l : List Reason) (g : List Ground) (a : Said) (k : ℕ) → SaySame l g → First g k → answer l a ≡ refused k
unfolding answer
→first [] [] a k s f = absurd f
→first [] (x ∷ g) a k s f = absurd s
→first (x ∷ l) [] a k s f = absurd s
→first (refuse true j ∷ l) (ground P m ∷ g) a k s (inl f) = ap refused (s.0 ∙ f.1)
→first (refuse true j ∷ l) (ground P m ∷ g) a k s (inr f) = absurd (f.0 (s.1 refl))
→first (refuse false j ∷ l) (ground P m ∷ g) a k s (inl f) = absurd (clash (s.2 f.0) refl)
→first (refuse false j ∷ l) (ground P m ∷ g) a k s (inr f) = →first l g a k (s.3 f.0) f.1

pub no_ground→ : (l : List Reason) (g : List Ground) → SaySame l g → accepted l ≡ true → NoGround g
unfolding accepted
no_ground→ [] [] s e = tt
no_ground→ [] (x ∷ g) s e = absurd s
no_ground→ (x ∷ l) [] s e = absurd s
no_ground→ (refuse true j ∷ l) (ground P m ∷ g) s e = absurd (clash e refl)
no_ground→ (refuse false j ∷ l) (ground P m ∷ g) s e =
    let off : P → ⊥ = λ p. clash (s.2 p) refl in
    (off, no_ground→ l g (s.3 off) e)

pub →no_ground : (l : List Reason) (g : List Ground) → SaySame l g → NoGround g → accepted l ≡ true
unfolding accepted
→no_ground [] [] s f = refl
→no_ground [] (x ∷ g) s f = absurd s
→no_ground (x ∷ l) [] s f = absurd s
→no_ground (refuse true j ∷ l) (ground P m ∷ g) s f = absurd (f.0 (s.1 refl))
→no_ground (refuse false j ∷ l) (ground P m ∷ g) s f = →no_ground l g (s.3 f.0) f.1

pub no_ground_append : (g g' : List Ground) → NoGround g → NoGround g' → NoGround (g ++ g')
no_ground_append [] g' x y = y
no_ground_append (ground P k ∷ g) g' x y = (x.0, no_ground_append g g' x.1 y)
