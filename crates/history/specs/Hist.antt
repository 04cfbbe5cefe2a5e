-- Histories of one slice, whose updates are made at copy p. A history is what its events know: E t k is the latest event of copy k that
-- event t knows of (so E t k ≡ t says that t is an event of k), and C t is how many updates event t knows of. Event 0 is the fresh
-- table; events below m have happened. Both copies leave a meeting with the same knowledge, so one event stands for both.
-- What comes of two events that do not know each other stands in proofs/Hist.antt. Assumes nothing.
use Rattle.std.specs.Prelude.{◌≡◌, ◌⊎◌, ℕ, zero, suc, ◌≤◌, ◌<◌, max}
use Rattle.std.proofs.Common.{sym, ap, ◌∙◌, ⊎_elim, arith}
use Rattle.facts.specs.Cases.{strong, by_eq, by_le}

-- All that event s knows, event t knows.
pub record Below (E : ℕ → ℕ → ℕ) (C : ℕ → ℕ) (s t : ℕ) : Type 0 where
  pub more : (k : ℕ) → E s k ≤ E t k
  pub counts : C s ≤ C t

-- Event t is an event of copy i, and q is the event of copy i before it.
pub record Prev (N : ℕ) (E : ℕ → ℕ → ℕ) (C : ℕ → ℕ) (i q t : ℕ) : Type 0 where
  pub copy : i < N
  pub before : q < t
  pub own : E q i ≡ q
  pub at : E t i ≡ t
  pub last : (s : ℕ) → s < t → E s i ≤ q
  pub grows : Below E C q t

-- What event t knows is t itself or comes from an event before it, and so does its count, but for an update, which counts one more.
pub record Event (N p : ℕ) (E : ℕ → ℕ → ℕ) (C : ℕ → ℕ) (t : ℕ) : Type 0 where
  pub le : (k : ℕ) → E t k ≤ t
  pub owner : (k : ℕ) → E t k ≡ t → (q : ℕ) × Prev N E C k q t
  pub knows : (k : ℕ) → (E t k ≡ t) ⊎ ((i : ℕ) × (q : ℕ) × Prev N E C i q t × (E t k ≡ E q k))
  pub counts : ((i : ℕ) × (q : ℕ) × Prev N E C i q t × (C t ≡ C q)) ⊎ ((q : ℕ) × Prev N E C p q t × (C t ≡ suc (C q)))

pub record Hist (N p m : ℕ) (E : ℕ → ℕ → ℕ) (C : ℕ → ℕ) : Type 0 where
  pub start : (k : ℕ) → E 0 k ≡ 0
  pub event : (t : ℕ) → 0 < t → t < m → Event N p E C t

-- Value v stands in the vector of event s: the counts of the events that s knows of.
abbrev pub Occurs : ℕ → (ℕ → ℕ → ℕ) → (ℕ → ℕ) → ℕ → ℕ → Type 0
Occurs N E C s v = (k : ℕ) × (k < N) × (C (E s k) ≡ v)

-- Some event that g knows of has count v or more, and f knows of it.
pub record Cross (N : ℕ) (E : ℕ → ℕ → ℕ) (C : ℕ → ℕ) (f g v : ℕ) : Type 0 where
  pub of : ℕ
  pub copy : of < N
  pub least : v ≤ C (E g of)
  pub back : E g of ≤ E f of

module _ {E : ℕ → ℕ → ℕ} {C : ℕ → ℕ} where
  same_below : (s t : ℕ) → s ≡ t → Below E C s t
  same_below s t e = record { more = λ k. omega (arith, ap (λ r. E r k) e); counts = omega (arith, ap C e) }

  trans_below : {r s t : ℕ} → Below E C r s → Below E C s t → Below E C r t
  trans_below x y = record { more = λ k. omega (arith, x.more k, y.more k); counts = omega (arith, x.counts, y.counts) }

module _ {N p m : ℕ} {E : ℕ → ℕ → ℕ} {C : ℕ → ℕ} (h : Hist N p m E C) where
  pub le_self : (t k : ℕ) → t < m → E t k ≤ t
  le_self zero k l = omega (arith, h.start k)
  le_self (suc t) k l = (h.event (suc t) (omega arith) l).le k

  -- The latest event of k that t knows of is an event of k.
  pub own : (t k : ℕ) → t < m → E (E t k) k ≡ E t k
  own t k = strong (λ t. t < m → E (E t k) k ≡ E t k) step t
    where
      step : (t : ℕ) → ((s : ℕ) → s < t → s < m → E (E s k) k ≡ E s k) → t < m → E (E t k) k ≡ E t k
      step zero ih l = ap (λ s. E s k) (h.start k)
      step (suc t) ih l =
          ⊎_elim
          (λ e. ap (λ s. E s k) e)
          (λ (i, q, pr, e). ap (λ s. E s k) e ∙ ih q pr.before (omega (arith, pr.before)) ∙ sym e)
          ((h.event (suc t) (omega arith) l).knows k)

  -- What it knows, t knows.
  pub known : (t k : ℕ) → t < m → Below E C (E t k) t
  known t k = strong (λ t. t < m → Below E C (E t k) t) step t
    where
      step : (t : ℕ) → ((s : ℕ) → s < t → s < m → Below E C (E s k) s) → t < m → Below E C (E t k) t
      step zero ih l = same_below (E 0 k) 0 (h.start k)
      step (suc t) ih l =
          ⊎_elim
          (same_below (E (suc t) k) (suc t))
          (λ (i, q, pr, e). rw e (trans_below (ih q pr.before (omega (arith, pr.before))) pr.grows))
          ((h.event (suc t) (omega arith) l).knows k)

  -- Of two events of one copy the later knows all that the earlier knows.
  pub chain : (k e t : ℕ) → t < m → E e k ≡ e → E t k ≡ t → e ≤ t → Below E C e t
  chain k e t = strong (λ t. t < m → E e k ≡ e → E t k ≡ t → e ≤ t → Below E C e t) step t
    where
      step : (t : ℕ) → ((s : ℕ) → s < t → s < m → E e k ≡ e → E s k ≡ s → e ≤ s → Below E C e s) → t < m → E e k ≡ e → E t k ≡ t → e ≤ t → Below E C e t
      step t ih l oe ot le = by_eq e t (same_below e t) earlier
        where
          earlier : (e ≡ t → ⊥) → Below E C e t
          earlier ne =
              let (q, pr) = (h.event t (omega arith) l).owner k ot in
              let b : Below E C e q = ih q pr.before (omega (arith, pr.before)) oe pr.own (omega (arith, pr.last e (omega arith))) in
              trans_below b pr.grows

  -- So the later of the two has the greater count.
  pub later : (k e f : ℕ) → e < m → f < m → E e k ≡ e → E f k ≡ f → C (max e f) ≡ max (C e) (C f)
  later k e f le lf oe of =
      by_le e f
      (λ le. let q : max e f ≡ f = omega arith in omega (arith, ap C q, (chain k e f lf oe of le).counts))
      (λ gt. let q : max e f ≡ e = omega arith in omega (arith, ap C q, (chain k f e le of oe (omega arith)).counts))

  -- An event of k that is not later than the latest one that t knows of is known to t, with all that it knows.
  pub below : (e k t : ℕ) → t < m → E e k ≡ e → e ≤ E t k → Below E C e t
  below e k t l oe le = trans_below (chain k e (E t k) (omega (arith, le_self t k l)) oe (own t k l) le) (known t k l)

  -- The count of an event is that of the latest event of p that it knows of.
  pub count : (t : ℕ) → t < m → C t ≡ C (E t p)
  count t = strong (λ t. t < m → C t ≡ C (E t p)) step t
    where
      step : (t : ℕ) → ((s : ℕ) → s < t → s < m → C s ≡ C (E s p)) → t < m → C t ≡ C (E t p)
      step zero ih l = sym (ap C (h.start p))
      step (suc t) ih l = ⊎_elim (λ (i, q, pr, e). from i q pr e) (λ (q, pr, e). sym (ap C pr.at)) (h.event (suc t) (omega arith) l).counts
        where
          from : (i q : ℕ) → Prev N E C i q (suc t) → C (suc t) ≡ C q → C (suc t) ≡ C (E (suc t) p)
          from i q pr e =
              let lq : q < m = omega (arith, pr.before) in
              let b : Below E C (E q p) (E (suc t) p) = chain p (E q p) (E (suc t) p) (omega (arith, le_self (suc t) p l)) (own q p lq) (own (suc t) p l) (pr.grows.more p) in
              omega (arith, ih q pr.before lq, b.counts, (known (suc t) p l).counts)

  -- Who counts as many updates as update f does knows of f.
  pub update_known : (f q g : ℕ) → f < m → g < m → Prev N E C p q f → C f ≡ suc (C q) → C f ≤ C g → f ≤ E g p
  update_known f q g lf lg pr e le = by_le f (E g p) (λ y. y) (λ y. absurd (unknown y))
    where
      unknown : E g p < f → ⊥
      unknown y =
          let b : Below E C (E g p) q = chain p (E g p) q (omega (arith, pr.before)) (own g p lg) pr.own (omega (arith, own g p lg, pr.last (E g p) y)) in
          omega (arith, count g lg, b.counts)
