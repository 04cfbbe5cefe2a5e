-- One more event of a slice: at time m copies w and l, whose latest events are L w and L l, meet, and both know what either knew. An
-- update is the same with w and l the primary, and counts one more. What held of the events before still holds.
-- Assumes nothing.
use Rattle.std.specs.Prelude.{◌≡◌, ◌⊎◌, true, false, cond, ℕ, suc, ◌≤◌, ◌<◌, max, eqb}
use Rattle.std.proofs.Math.Path.{refl}
use Rattle.std.proofs.Common.{sym, ap, ◌∙◌, inl, inr, ⊎_elim, arith, eq-eqb, ne_eqb}
use Rattle.model.specs.Steps.{is_named}
use Rattle.facts.specs.Cases.{by_eq, by_le, by_test}
use Rattle.laws.specs.MeetingKept.{is_named→, →is_named}
use Rattle.history.specs.Hist.{Prev, Event, Hist, le_self, own, later}

-- What holds of both copies holds of each that is named.
pub either_named : (P : ℕ → Type 0) (w l : ℕ) → P w → P l → (k : ℕ) → is_named w l k ≡ true → P k
either_named P w l pw pl k e = ⊎_elim (λ q. rw q pw) (λ q. rw q pl) (is_named→ w l k e)

-- Event e is the latest event of copy a.
pub record Latest (m : ℕ) (E : ℕ → ℕ → ℕ) (a e : ℕ) : Type 0 where
  pub before : e < m
  pub own : E e a ≡ e
  pub last : (s : ℕ) → s < m → E s a ≤ e

-- The event counts what w counted, or one more if it is an update.
abbrev pub Counts : ℕ → ℕ → ℕ → ℕ → Type 0
Counts p w before c = (c ≡ before) ⊎ ((w ≡ p) × (c ≡ suc before))

-- Who meets, and what the event counts: w no less than l.
pub record Pair (N p w l c : ℕ) (C L : ℕ → ℕ) : Type 0 where
  pub first : w < N
  pub second : l < N
  pub less : C (L l) ≤ C (L w)
  pub counts : Counts p w (C (L w)) c

-- The functions with the event of w and l at m, which counts c updates, from those without it.
pub record Next (N p m w l c : ℕ) (E : ℕ → ℕ → ℕ) (C L : ℕ → ℕ) (E' : ℕ → ℕ → ℕ) (C' L' : ℕ → ℕ) : Type 0 where
  pub pair : Pair N p w l c C L
  pub old : (s k : ℕ) → s < m → E' s k ≡ E s k
  pub here : (k : ℕ) → is_named w l k ≡ true → E' m k ≡ m
  pub away : (k : ℕ) → is_named w l k ≡ false → E' m k ≡ max (E (L w) k) (E (L l) k)
  pub old_count : (s : ℕ) → s < m → C' s ≡ C s
  pub new_count : C' m ≡ c
  pub moved : (k : ℕ) → is_named w l k ≡ true → L' k ≡ m
  pub stays : (k : ℕ) → is_named w l k ≡ false → L' k ≡ L k

module _ (m w l c : ℕ) (E : ℕ → ℕ → ℕ) (C L : ℕ → ℕ) where
  pub knows_next : ℕ → ℕ → ℕ
  knows_next t k = cond (eqb t m) (cond (is_named w l k) m (max (E (L w) k) (E (L l) k))) (E t k)

  pub counts_next : ℕ → ℕ
  counts_next t = cond (eqb t m) c (C t)

  pub latest_next : ℕ → ℕ
  latest_next k = cond (is_named w l k) m (L k)

  pub next : {N p : ℕ} → Pair N p w l c C L → Next N p m w l c E C L knows_next counts_next latest_next
  unfolding knows_next counts_next latest_next
  next pair =
      record {
        pair = pair;
        old = λ s k h. rw (ne_eqb s m (omega arith));
        here = λ k e. rw (eq-eqb m m refl, e);
        away = λ k e. rw (eq-eqb m m refl, e);
        old_count = λ s h. rw (ne_eqb s m (omega arith));
        new_count = rw (eq-eqb m m refl);
        moved = λ k e. rw e;
        stays = λ k e. rw e;
      }

module _
    {N p m w l c : ℕ} {E : ℕ → ℕ → ℕ} {C L : ℕ → ℕ} {E' : ℕ → ℕ → ℕ} {C' L' : ℕ → ℕ}
    (h : Hist N p m E C) (last : (a : ℕ) → a < N → Latest m E a (L a)) (x : Next N p m w l c E C L E' C' L') where
  -- ---- The events before

  pub old_value : (s k : ℕ) → s < m → C' (E' s k) ≡ C (E s k)
  old_value s k ls = ap C' (x.old s k ls) ∙ x.old_count (E s k) (omega (arith, le_self h s k ls))

  old_prev : (i q t : ℕ) → t < m → Prev N E C i q t → Prev N E' C' i q t
  old_prev i q t lt pr =
      let lq : q < m = omega (arith, pr.before) in
      record {
        copy = pr.copy;
        before = pr.before;
        own = x.old q i lq ∙ pr.own;
        at = x.old t i lt ∙ pr.at;
        last = λ s ls. omega (arith, x.old s i (omega arith), pr.last s ls);
        grows =
            record {
              more = λ k. omega (arith, x.old q k lq, x.old t k lt, pr.grows.more k);
              counts = omega (arith, x.old_count q lq, x.old_count t lt, pr.grows.counts);
            };
      }

  old_event : (t : ℕ) → t < m → Event N p E C t → Event N p E' C' t
  old_event t lt e =
      record {
        le = λ k. omega (arith, x.old t k lt, e.le k);
        owner = λ k o. let (q, pr) = e.owner k (sym (x.old t k lt) ∙ o) in (q, old_prev k q t lt pr);
        knows = λ k.
            ⊎_elim
            (λ o. inl (x.old t k lt ∙ o))
            (λ (i, q, pr, o). inr (i, q, old_prev i q t lt pr, x.old t k lt ∙ o ∙ sym (x.old q k (omega (arith, pr.before)))))
            (e.knows k);
        counts =
            ⊎_elim
            (λ (i, q, pr, o). inl (i, q, old_prev i q t lt pr, x.old_count t lt ∙ o ∙ sym (x.old_count q (omega (arith, pr.before)))))
            (λ (q, pr, o). inr (q, old_prev p q t lt pr, x.old_count t lt ∙ o ∙ ap suc (sym (x.old_count q (omega (arith, pr.before))))))
            e.counts;
      }

  -- ---- The event at m

  pub below_N : (k : ℕ) → is_named w l k ≡ true → k < N
  below_N = either_named (λ k. k < N) w l x.pair.first x.pair.second

  latest_w : L w < m
  latest_w = (last w x.pair.first).before

  latest_l : L l < m
  latest_l = (last l x.pair.second).before

  no_less : C (L w) ≤ c
  no_less = ⊎_elim (λ e. omega arith) (λ e. omega arith) x.pair.counts

  pub new_prev : (i : ℕ) → is_named w l i ≡ true → Prev N E' C' i (L i) m
  new_prev i n =
      let a : Latest m E i (L i) = last i (below_N i n) in
      record {
        copy = below_N i n;
        before = a.before;
        own = x.old (L i) i a.before ∙ a.own;
        at = x.here i n;
        last = λ s ls. omega (arith, x.old s i ls, a.last s ls);
        grows = record { more = more; counts = omega (arith, x.old_count (L i) a.before, x.new_count, no_more) };
      }
    where
      li : L i < m
      li = (last i (below_N i n)).before

      no_more : C (L i) ≤ c
      no_more = either_named (λ i. C (L i) ≤ c) w l no_less (omega (arith, no_less, x.pair.less)) i n

      one_of : (k : ℕ) → E (L i) k ≤ max (E (L w) k) (E (L l) k)
      one_of k = either_named (λ i. E (L i) k ≤ max (E (L w) k) (E (L l) k)) w l (omega arith) (omega arith) i n

      more : (k : ℕ) → E' (L i) k ≤ E' m k
      more k =
          by_test (is_named w l k)
          (λ t. omega (arith, x.here k t, x.old (L i) k li, le_self h (L i) k li, li))
          (λ t. omega (arith, x.away k t, x.old (L i) k li, one_of k))

  w_named : is_named w l w ≡ true
  w_named = →is_named w l w (inl refl)

  l_named : is_named w l l ≡ true
  l_named = →is_named w l l (inr refl)

  away_below : (k : ℕ) → is_named w l k ≡ false → E' m k < m
  away_below k t =
      omega (arith, x.away k t, le_self h (L w) k latest_w, le_self h (L l) k latest_l, latest_w, latest_l)

  new_event : Event N p E' C' m
  new_event =
      record {
        le = λ k. by_test (is_named w l k) (λ t. omega (arith, x.here k t)) (λ t. omega (arith, away_below k t));
        owner = λ k o. by_test (is_named w l k) (λ t. (L k, new_prev k t)) (λ t. absurd (omega (arith, away_below k t)));
        knows = λ k. by_test (is_named w l k)
            (λ t. inl (x.here k t))
            (λ t. by_le (E (L w) k) (E (L l) k)
            (λ le. inr (l, L l, new_prev l l_named, omega (arith, x.away k t, x.old (L l) k latest_l)))
            (λ le. inr (w, L w, new_prev w w_named, omega (arith, x.away k t, x.old (L w) k latest_w))));
        counts =
            let same : C' (L w) ≡ C (L w) = x.old_count (L w) latest_w in
            ⊎_elim
            (λ e. inl (w, L w, new_prev w w_named, omega (arith, x.new_count)))
            (λ (q, e). inr (L p, new_prev p (→is_named w l p (inl (sym q))), omega (arith, x.new_count, ap (λ i. C' (L i)) q)))
            x.pair.counts;
      }

  -- The history with the event, the latest events, and the counts of what the events know.
  pub next_hist : Hist N p (suc m) E' C'
  next_hist =
      record {
        start = λ k. x.old 0 k (omega (arith, latest_w)) ∙ h.start k;
        event = λ t t0 tm. by_eq t m (λ e. rw e new_event) (λ ne. old_event t (omega arith) (h.event t t0 (omega arith)));
      }

  pub next_last : (a : ℕ) → a < N → Latest (suc m) E' a (L' a)
  next_last a a_n = by_test (is_named w l a) here away
    where
      here : is_named w l a ≡ true → Latest (suc m) E' a (L' a)
      here t =
          rw (x.moved a t) record {
            before = omega arith;
            own = x.here a t;
            last = λ s ls. by_eq s m (λ e. rw e (omega (arith, x.here a t))) (λ ne. omega (arith, x.old s a (omega arith), le_self h s a (omega arith)));
          }

      away : is_named w l a ≡ false → Latest (suc m) E' a (L' a)
      away t =
          let o : Latest m E a (L a) = last a a_n in
          rw (x.stays a t) record {
            before = omega (arith, o.before);
            own = x.old (L a) a o.before ∙ o.own;
            last = λ s ls. by_eq s m
                (λ e. rw e (omega (arith, x.away a t, o.last (L w) latest_w, o.last (L l) latest_l)))
                (λ ne. omega (arith, x.old s a (omega arith), o.last s (omega arith)));
          }

  pub here_value : (k : ℕ) → is_named w l k ≡ true → C' (E' m k) ≡ c
  here_value k t = ap C' (x.here k t) ∙ x.new_count

  pub away_value : (k : ℕ) → is_named w l k ≡ false → C' (E' m k) ≡ max (C (E (L w) k)) (C (E (L l) k))
  away_value k t =
      x.old_count (E' m k) (away_below k t)
      ∙ ap C (x.away k t)
      ∙ later h k (E (L w) k) (E (L l) k)
      (omega (arith, le_self h (L w) k latest_w, latest_w))
      (omega (arith, le_self h (L l) k latest_l, latest_l))
      (own h (L w) k latest_w)
      (own h (L l) k latest_l)
