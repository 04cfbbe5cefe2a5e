-- The update step of one slice at its primary p. Of the new symbol x it is asked only that it stands in no row of the primary's
-- record; that it then stands in no copy's principal row is what makes reuse safe (proofs/Upd.antt). Assumes nothing.
use Rattle.std.specs.Prelude.{◌≡◌, refl, ◌⊎◌, Bool, false, ◌&&◌, List, ◌∷◌}
use Rattle.std.proofs.Common.{sym, ap₂, ◌∙◌, inl, inr, ⊎_elim, arith, eq-eqb, ne_eqb}
use Rattle.std.proofs.Math.Path.{ap}
use Rattle.std.proofs.Math.Bool.{true, not}
use Prim.Native.Nat.{ℕ, suc, ◌≤◌, ◌<◌}
use Rattle.std.proofs.Math.Dec.{eqb}
use Rattle.model.specs.Tests.{head, keep}
use Rattle.model.specs.Steps.{is_named, head_of_other}
use Rattle.facts.specs.Cases.{by_eq, by_test, clash}
use Rattle.facts.specs.Numbers.{any_same}
use Rattle.facts.specs.Members.{In}
use Rattle.laws.specs.MeetingKept.{is_named→, →is_named}
use Rattle.history.specs.Hist.{Occurs, le_self}
use Rattle.history.specs.Listed.{listed, listed_first, listed_same, keep_listed}
use Rattle.history.specs.Next.{Next, here_value, away_value}
use Rattle.history.specs.Inv.{Inv, Cached, Live, row_at, vector, among, among→, →among, lt, symbols_tell, head_is, →found, top}
use Rattle.history.specs.Step.{held_cached, own-cached, live_next, stepped}

-- Rows st' come from rows st by an update of copy p with the new symbol x.
pub record Upd (N p x : ℕ) (st st' : ℕ → ℕ → List ℕ) : Type 0 where
  pub free : (k : ℕ) → k < N → In x (st p k) → ⊥
  pub row : st' p p ≡ x ∷ keep (head_of_other N p (st p)) (st p p)
  pub rest : (k : ℕ) → (k ≡ p → ⊥) → k < N → st' p k ≡ st p k
  pub other : (c k : ℕ) → (c ≡ p → ⊥) → c < N → k < N → st' c k ≡ st c k

-- One copy named twice.
only : (p k : ℕ) → is_named p p k ≡ true → k ≡ p
only p k t = ⊎_elim (λ e. e) (λ e. e) (is_named→ p p k t)

module _
    {N p x : ℕ} {st : ℕ → ℕ → List ℕ} {vv : ℕ → ℕ} {m : ℕ} {E : ℕ → ℕ → ℕ} {C L sy : ℕ → ℕ} {E' : ℕ → ℕ → ℕ} {C' L' : ℕ → ℕ} {sy' : ℕ → ℕ} {st' : ℕ → ℕ → List ℕ}
    (I : Inv N p st vv m E C L sy) (nx : Next N p m p p (suc (C (L p))) E C L E' C' L')
    (spoken : (v : ℕ) → v ≤ C (L p) → sy' v ≡ sy v) (given : sy' (suc (C (L p))) ≡ x)
    (u : Upd N p x st st') (strange : (a : ℕ) → a < N → In x (st a a) → ⊥) where
  here : (k : ℕ) → k ≡ p → C' (E' m k) ≡ suc (C (L p))
  here k e = here_value I.hist I.last nx k (→is_named p p k (inl e))

  away : (k : ℕ) → (k ≡ p → ⊥) → C' (E' m k) ≡ C (E (L p) k)
  away k ne =
      by_test (is_named p p k)
      (λ t. absurd (ne (only p k t)))
      (λ t. omega (arith, away_value I.hist I.last nx k t))

  -- Cut down to the heads of the other rows, the old principal row has the values that the event knows, but for its own.
  cut_row : keep (head_of_other N p (st p)) (st p p) ≡ listed sy (among N (vector E' C' m)) (suc (C (L p)))
  unfolding head_of_other
  cut_row =
      ap (keep (head_of_other N p (st p))) (I.principal p I.primary)
      ∙ keep_listed sy (among N (vector E C (L p))) (suc (C (L p))) (among N (vector E' C' m)) (head_of_other N p (st p)) same within
    where
      same : (v : ℕ) → v < suc (C (L p)) → among N (vector E C (L p)) v ≡ true → head_of_other N p (st p) (sy v) ≡ among N (vector E' C' m) v
      same v h t = any_same N (λ k. not (eqb k p) && eqb (head (st p k)) (sy v)) (λ k. eqb (C' (E' m k)) v) each
        where
          other : (k : ℕ) → k < N → eqb (head (st p k)) (sy v) ≡ eqb (C (E (L p) k)) v
          other k k_n =
              ap (λ (y : ℕ). eqb y (sy v)) (head_is I p k I.primary k_n)
              ∙ symbols_tell I (C (E (L p) k)) v (p, I.primary, (k, k_n, refl)) (p, I.primary, among→ (vector E C (L p)) t)

          each : (k : ℕ) → k < N → (not (eqb k p) && eqb (head (st p k)) (sy v)) ≡ eqb (C' (E' m k)) v
          each k k_n =
              by_eq k p
              (λ e. rw (eq-eqb k p e) (sym (ne_eqb (C' (E' m k)) v (omega (arith, here k e)))))
              (λ ne. rw (ne_eqb k p ne, away k ne) (other k k_n))

      within : (v : ℕ) → v < suc (C (L p)) → among N (vector E' C' m) v ≡ true → among N (vector E C (L p)) v ≡ true
      within v h t =
          let (k, k_n, e) = among→ (vector E' C' m) t in
          by_eq k p
          (λ q. absurd (omega (arith, here k q)))
          (λ ne. →among (vector E C (L p)) (k, k_n, sym (away k ne) ∙ e))

  new_row : st' p p ≡ row_at N E' C' sy' m
  new_row =
      u.row
      ∙ ap₂ (λ (y : ℕ) (r : List ℕ). y ∷ r) (sym given) (cut_row ∙ listed_same sy known (suc (C (L p))) sy' known (λ v h. sym (spoken v (omega arith))) (λ v h. refl))
      ∙ sym (listed_first sy' known (suc (C (L p))) (→among (vector E' C' m) (p, I.primary, here p refl)))
      ∙ ap (λ (c : ℕ). listed sy' known (suc c)) (sym nx.new_count)
    where
      known : ℕ → Bool
      known = among N (vector E' C' m)

  -- A live value is the new one, or an old one, whose symbol is another.
  live : (v : ℕ) → Live N E' C' L' v → (v ≡ suc (C (L p))) ⊎ Live N E C L v
  live v o = ⊎_elim inr event (live_next I nx spoken v o)
    where
      event : Occurs N E' C' m v → (v ≡ suc (C (L p))) ⊎ Live N E C L v
      event (k, k_n, e) = by_eq k p (λ q. inl (sym e ∙ here k q)) (λ ne. inr (p, I.primary, (k, k_n, sym (away k ne) ∙ e)))

  old_symbol : (v : ℕ) → Live N E C L v → sy' v ≡ sy v
  old_symbol v (a, a_n, (k, k_n, e)) =
      let la : E (L a) k < m = omega (arith, le_self I.hist (L a) k (lt I a a_n), lt I a a_n) in
      spoken v (omega (arith, top I (E (L a) k) la))

  not_new : (v : ℕ) → Live N E C L v → sy v ≡ x → ⊥
  not_new v (a, a_n, o) e = strange a a_n (rw e at (→found I a v a_n o))

  distinct : (y z : ℕ) → Live N E' C' L' y → Live N E' C' L' z → sy' y ≡ sy' z → y ≡ z
  distinct y z ly lz e = go (live y ly) (live z lz)
    where
      go : (y ≡ suc (C (L p))) ⊎ Live N E C L y → (z ≡ suc (C (L p))) ⊎ Live N E C L z → y ≡ z
      go (inl a) (inl b) = a ∙ sym b
      go (inl a) (inr b) = absurd (not_new z b (sym (old_symbol z b) ∙ sym e ∙ ap sy' a ∙ given))
      go (inr a) (inl b) = absurd (not_new y a (sym (old_symbol y a) ∙ e ∙ ap sy' b ∙ given))
      go (inr a) (inr b) = I.distinct y z a b (sym (old_symbol y a) ∙ e ∙ old_symbol z b)

  pub upd_inv :
      {vv' : ℕ → ℕ}
      → vv' p ≡ suc (vv p)
      → ((a : ℕ) → (a ≡ p → ⊥) → a < N → vv' a ≡ vv a)
      → Inv N p st' vv' (suc m) E' C' L' sy'
  upd_inv {vv'} counted uncounted =
      stepped I nx spoken
      (λ a n a_n. rw (only p a n) new_row)
      (λ a k n a_n k_n. rw (only p a n) (cached k k_n))
      (λ a k n. u.other a k (apart a n))
      (λ a n a_n. rw (only p a n) (counted ∙ ap suc (I.counts p I.primary)))
      (λ a n. uncounted a (apart a n))
      distinct
    where
      apart : (k : ℕ) → is_named p p k ≡ false → k ≡ p → ⊥
      apart k t e = clash (→is_named p p k (inl e)) t

      cached : (k : ℕ) → k < N → Cached N (suc m) E' C' sy' (st' p k) m k
      cached k k_n =
          by_eq k p
          (λ e. own-cached I nx spoken (st' p k) k (→is_named p p k (inl e)) (rw e new_row))
          (λ ne. rw (u.rest k ne k_n)
          (held_cached I nx spoken (st p k) p k (→is_named p p p (inl refl)) I.primary (I.cached p k I.primary k_n) (sym (away k ne))))
