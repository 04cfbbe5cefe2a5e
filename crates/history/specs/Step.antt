-- What a step of copies w and l has to show to keep the invariant: the principal row of the new event in their records, their cached
-- rows, and that no two values share a symbol. All else is kept by itself. Assumes nothing.
use Rattle.std.specs.Prelude.{◌≡◌, ◌⊎◌, true, false, List, ℕ, suc, ◌≤◌, ◌<◌, eqb}
use Rattle.std.proofs.Common.{sym, ap, ◌∙◌, inl, inr, arith}
use Rattle.model.specs.Steps.{is_named}
use Rattle.facts.specs.Cases.{by_test}
use Rattle.facts.specs.Numbers.{any_same}
use Rattle.history.specs.Hist.{Occurs}
use Rattle.history.specs.Listed.{listed, listed_same}
use Rattle.history.specs.Next.{Next, old_value, new_prev, next_hist, next_last}
use Rattle.history.specs.Inv.{Inv, Cached, Live, row_at, vector, among, lt, top}

module _
    {N p : ℕ} {st : ℕ → ℕ → List ℕ} {vv : ℕ → ℕ} {m w l c : ℕ} {E : ℕ → ℕ → ℕ} {C L sy : ℕ → ℕ} {E' : ℕ → ℕ → ℕ} {C' L' : ℕ → ℕ} {sy' : ℕ → ℕ}
    (I : Inv N p st vv m E C L sy) (x : Next N p m w l c E C L E' C' L')
    (spoken : (v : ℕ) → v ≤ C (L p) → sy' v ≡ sy v) where
  value : (s k : ℕ) → s < m → C' (E' s k) ≡ C (E s k)
  value = old_value I.hist I.last x

  old_row : (s : ℕ) → s < m → row_at N E' C' sy' s ≡ row_at N E C sy s
  old_row s ls =
      ap (λ (d : ℕ). listed sy' (among N (vector E' C' s)) (suc d)) (x.old_count s ls)
      ∙ listed_same sy' (among N (vector E' C' s)) (suc (C s)) sy (among N (vector E C s))
      (λ v h. spoken v (omega (arith, top I s ls)))
      (λ v h. any_same N (λ k. eqb (C' (E' s k)) v) (λ k. eqb (C (E s k)) v) (λ k k_n. ap (λ (u : ℕ). eqb u v) (value s k ls)))

  -- A row in the record of a copy that has no part in the event.
  old_cached : (r : List ℕ) (e k : ℕ) → e < m → Cached N m E C sy r e k → Cached N (suc m) E' C' sy' r e k
  old_cached r e k le d =
      record {
        event = d.event;
        before = omega (arith, d.before);
        own = x.old d.event k d.before ∙ d.own;
        known = omega (arith, d.known, x.old e k le);
        same = x.old_count d.event d.before ∙ d.same ∙ sym (value e k le);
        row = d.row ∙ sym (old_row d.event d.before);
      }

  -- A row that either copy held before, with the value that the event knows, in the record of either copy.
  pub held_cached :
      (r : List ℕ) (d k : ℕ)
      → is_named w l d ≡ true
      → d < N
      → Cached N m E C sy r (L d) k
      → C (E (L d) k) ≡ C' (E' m k)
      → Cached N (suc m) E' C' sy' r m k
  held_cached r d k n d_n o e =
      let b = old_cached r (L d) k (lt I d d_n) o in
      record {
        event = b.event;
        before = b.before;
        own = b.own;
        known = omega (arith, b.known, (new_prev I.hist I.last x d n).grows.more k);
        same = b.same ∙ value (L d) k (lt I d d_n) ∙ e;
        row = b.row;
      }

  -- The event's own row, in a record and a row of either copy.
  pub own-cached : (r : List ℕ) (k : ℕ) → is_named w l k ≡ true → r ≡ row_at N E' C' sy' m → Cached N (suc m) E' C' sy' r m k
  own-cached r k n e =
      record { event = m; before = omega arith; own = x.here k n; known = omega (arith, x.here k n); same = sym (ap C' (x.here k n)); row = e }

  -- A value that stands in a vector after the event stood in one before it, or stands in the event's.
  pub live_next : (v : ℕ) → Live N E' C' L' v → Live N E C L v ⊎ Occurs N E' C' m v
  live_next v (a, a_n, (k, k_n, e)) =
      by_test (is_named w l a)
      (λ t. inr (k, k_n, sym (ap (λ (s : ℕ). C' (E' s k)) (x.moved a t)) ∙ e))
      (λ t. inl (a, a_n, (k, k_n, sym (value (L a) k (lt I a a_n)) ∙ sym (ap (λ (s : ℕ). C' (E' s k)) (x.stays a t)) ∙ e)))

  module _
      {st' : ℕ → ℕ → List ℕ} {vv' : ℕ → ℕ}
      (principal : (a : ℕ) → is_named w l a ≡ true → a < N → st' a a ≡ row_at N E' C' sy' m)
      (cached : (a k : ℕ) → is_named w l a ≡ true → a < N → k < N → Cached N (suc m) E' C' sy' (st' a k) m k)
      (other : (a k : ℕ) → is_named w l a ≡ false → a < N → k < N → st' a k ≡ st a k)
      (counted : (a : ℕ) → is_named w l a ≡ true → a < N → vv' a ≡ c)
      (uncounted : (a : ℕ) → is_named w l a ≡ false → a < N → vv' a ≡ vv a)
      (distinct : (u v : ℕ) → Live N E' C' L' u → Live N E' C' L' v → sy' u ≡ sy' v → u ≡ v) where
    pub stepped : Inv N p st' vv' (suc m) E' C' L' sy'
    stepped =
        record {
          primary = I.primary;
          hist = next_hist I.hist I.last x;
          last = next_last I.hist I.last x;
          counts = λ a a_n. by_test (is_named w l a)
              (λ t. rw (x.moved a t) (counted a t a_n ∙ sym x.new_count))
              (λ t. rw (x.stays a t) (uncounted a t a_n ∙ I.counts a a_n ∙ sym (x.old_count (L a) (lt I a a_n))));
          principal = λ a a_n. by_test (is_named w l a)
              (λ t. rw (x.moved a t) (principal a t a_n))
              (λ t. rw (x.stays a t) (other a a t a_n a_n ∙ I.principal a a_n ∙ sym (old_row (L a) (lt I a a_n))));
          cached = λ a k a_n k_n. by_test (is_named w l a)
              (λ t. rw (x.moved a t) (cached a k t a_n k_n))
              (λ t. rw (x.stays a t, other a k t a_n k_n) (old_cached (st a k) (L a) k (lt I a a_n) (I.cached a k a_n k_n)));
          distinct = distinct;
        }
