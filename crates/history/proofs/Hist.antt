-- What histories of one slice come to where two events do not know each other: they have crossed, and the values of the one stand with
-- the other. Assumes nothing.
use Rattle.std.specs.Prelude.{◌≡◌, ◌⊎◌, ℕ, suc, ◌≤◌, ◌<◌}
use Rattle.std.proofs.Common.{ap, ◌∙◌, inl, inr, ⊎_elim, arith}
use Rattle.facts.specs.Cases.{strong, by_le}
use Rattle.history.specs.Hist.{Below, Prev, Hist, Occurs, Cross, le_self, own, known, chain, below, update_known}

module _ {N p m : ℕ} {E : ℕ → ℕ → ℕ} {C : ℕ → ℕ} (h : Hist N p m E C) where
  -- Where g does not know event f of k, though both count v updates, the two have crossed at some copy: g knows of an event there with
  -- at least v updates that f knows of too.
  cross : (g v : ℕ) → g < m → v ≤ C g → (f k : ℕ) → f < m → E f k ≡ f → E g k < f → v ≤ C f → Cross N E C f g v
  cross g v lg vg f = strong (λ f. (k : ℕ) → f < m → E f k ≡ f → E g k < f → v ≤ C f → Cross N E C f g v) step f
    where
      step :
          (f : ℕ)
          → ((s : ℕ) → s < f → (k : ℕ) → s < m → E s k ≡ s → E g k < s → v ≤ C s → Cross N E C s g v)
          → (k : ℕ)
          → f < m
          → E f k ≡ f
          → E g k < f
          → v ≤ C f
          → Cross N E C f g v
      step f ih k lf of nk vf = ⊎_elim (λ (i, q, pr, e). one i q pr (omega arith)) (λ (q, pr, e). update q pr e) (h.event f (omega arith) lf).counts
        where
          -- Through the event q of copy i before f.
          one : (i q : ℕ) → Prev N E C i q f → v ≤ C q → Cross N E C f g v
          one i q pr vq = by_le q (E g i) here before
            where
              unknown : E g i < f
              unknown = by_le f (E g i) (λ y. absurd (omega (arith, (below h f i g lg pr.at y).more k))) (λ y. y)

              here : q ≤ E g i → Cross N E C f g v
              here y =
                  let e : E g i ≡ q = omega (arith, pr.last (E g i) unknown, own h g i lg) in
                  record { of = i; copy = pr.copy; least = omega (arith, ap C e); back = omega (arith, pr.at) }

              before : E g i < q → Cross N E C f g v
              before y =
                  let r : Cross N E C q g v = ih q pr.before i (omega (arith, pr.before)) pr.own y vq in
                  record { of = r.of; copy = r.copy; least = r.least; back = omega (arith, r.back, pr.grows.more r.of) }

          update : (q : ℕ) → Prev N E C p q f → C f ≡ suc (C q) → Cross N E C f g v
          update q pr e =
              by_le v (C q)
              (one p q pr)
              (λ y. absurd (omega (arith, (below h f p g lg pr.at (update_known h f q g lf lg pr e (omega arith))).more k)))

  -- An event f of k that counts no more than g does is known to g, or its count stands in g's vector at an event that f knows of.
  held : (f k g : ℕ) → f < m → g < m → E f k ≡ f → C f ≤ C g → (f ≤ E g k) ⊎ ((l : ℕ) × (l < N) × (C (E g l) ≡ C f) × (E g l ≤ E f l))
  held f k g lf lg of le = by_le f (E g k) inl crossed
    where
      crossed : E g k < f → (f ≤ E g k) ⊎ ((l : ℕ) × (l < N) × (C (E g l) ≡ C f) × (E g l ≤ E f l))
      crossed y =
          let r : Cross N E C f g (C f) = cross g (C f) lg le f k lf of y (omega arith) in
          let b : Below E C (E g r.of) f = below h (E g r.of) r.of f lf (own h g r.of lg) r.back in
          inr (r.of, r.copy, omega (arith, b.counts, r.least), r.back)

  -- Where e knows more of k than g does, and g counts as much as e, the count of what e knows of k stands in g's vector.
  pub joined : (e g k : ℕ) → e < m → g < m → k < N → C e ≤ C g → C (E g k) ≤ C (E e k) → Occurs N E C g (C (E e k))
  joined e g k le lg k_n ce ck =
      ⊎_elim at (λ (l, l_n, c, b). (l, l_n, c)) (held (E e k) k g (omega (arith, le_self h e k le)) lg (own h e k le) (omega (arith, (known h e k le).counts)))
    where
      at : E e k ≤ E g k → Occurs N E C g (C (E e k))
      at y =
          let b : Below E C (E e k) (E g k) = chain h k (E e k) (E g k) (omega (arith, le_self h g k lg)) (own h e k le) (own h g k lg) y in
          (k, k_n, omega (arith, b.counts))

  -- As long as the count does not rise, no value comes into the vector.
  pub cover : (s t : ℕ) → s < m → t < m → Below E C s t → C s ≡ C t → (v : ℕ) → Occurs N E C t v → Occurs N E C s v
  cover s t ls lt b e v (j, j_n, w) =
      ⊎_elim
      (λ y. let q : E s j ≡ E t j = omega (arith, b.more j) in (j, j_n, ap C q ∙ w))
      (λ (l, l_n, c, x). (l, l_n, c ∙ w))
      (held (E t j) j s (omega (arith, le_self h t j lt)) ls (own h t j lt) (omega (arith, (known h t j lt).counts)))

  -- The values of a copy's latest event e all stand in the vector of one event that g knows of, if g counts as much as e.
  pub kept : (a e g : ℕ) → a < N → e < m → g < m → E e a ≡ e → E g a ≤ e → C e ≤ C g → (c : ℕ) × (c < N) × ((v : ℕ) → Occurs N E C e v → Occurs N E C (E g c) v)
  kept a e g a_n le lg oe ge ce =
      ⊎_elim
      (λ y. let q : E g a ≡ e = omega arith in (a, a_n, λ v o. rw q o))
      (λ (l, l_n, c, b). (l, l_n, cover (E g l) e (omega (arith, le_self h g l lg)) le (below h (E g l) l e le (own h g l lg) b) c))
      (held e a g le lg oe ce)
