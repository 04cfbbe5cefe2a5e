-- What the meeting step of one slice keeps: the invariant holds of the rows that it leaves. Assumes nothing.
use Rattle.std.specs.Prelude.{◌≡◌, refl, Bool, true, false, List, eqb}
use Rattle.std.proofs.Common.{sym, ap, ap₂, ◌∙◌, inl, ⊎_elim, arith}
use Prim.Native.Nat.{ℕ, suc, ◌≤◌, ◌<◌, max}
use Rattle.model.specs.Tests.{head, is_in, keep, earlier}
use Rattle.model.specs.Steps.{is_named, new_head_of}
use Rattle.facts.specs.Cases.{by_le, by_test}
use Rattle.facts.specs.Numbers.{any_same}
use Rattle.facts.specs.Members.{In, is_in→, not_in→}
use Rattle.history.specs.Hist.{Occurs, known}
use Rattle.history.specs.Listed.{listed, keep_listed, earlier_listed}
use Rattle.history.specs.Next.{Pair, Next, next, knows_next, counts_next, latest_next, here_value, away_value, below_N}
use Rattle.history.specs.Inv.{Inv, Good, Cached, Live, row_at, vector, among, among→, →among, lt, own_value, symbols_tell, head_is, principal_head, found→, →found}
use Rattle.history.specs.Step.{held_cached, own-cached, live_next, stepped}
use Rattle.history.specs.Meet.{Met}
use Rattle.history.proofs.Hist.{joined}

module _
    {N p : ℕ} {st : ℕ → ℕ → List ℕ} {vv : ℕ → ℕ} {m w l : ℕ} {E : ℕ → ℕ → ℕ} {C L sy : ℕ → ℕ} {E' : ℕ → ℕ → ℕ} {C' L' : ℕ → ℕ} {st' : ℕ → ℕ → List ℕ} {nh : ℕ → ℕ}
    (I : Inv N p st vv m E C L sy) (x : Next N p m w l (C (L w)) E C L E' C' L') (met : Met N w l st st' nh) where
  w_n : w < N
  w_n = x.pair.first

  l_n : l < N
  l_n = x.pair.second

  less : C (L l) ≤ C (L w)
  less = x.pair.less

  same_symbols : (v : ℕ) → v ≤ C (L p) → sy v ≡ sy v
  same_symbols v h = refl

  here : (k : ℕ) → is_named w l k ≡ true → C' (E' m k) ≡ C (L w)
  here = here_value I.hist I.last x

  away : (k : ℕ) → is_named w l k ≡ false → C' (E' m k) ≡ max (C (E (L w) k)) (C (E (L l) k))
  away = away_value I.hist I.last x

  -- Where the loser counts more at k, what it counts there stands in the winner's vector.
  lost_held : (k : ℕ) → k < N → C (E (L w) k) < C (E (L l) k) → Occurs N E C (L w) (C (E (L l) k))
  lost_held k k_n h = joined I.hist (L l) (L w) k (lt I l l_n) (lt I w w_n) k_n less (omega arith)

  -- Every value of the new vector stood in the winner's.
  was_won : (v : ℕ) → Occurs N E' C' m v → Occurs N E C (L w) v
  was_won v (k, k_n, e) = by_test (is_named w l k) (λ t. (w, w_n, own_value I w w_n ∙ sym (here k t) ∙ e)) rest
    where
      rest : is_named w l k ≡ false → Occurs N E C (L w) v
      rest t =
          by_le (C (E (L l) k)) (C (E (L w) k))
          (λ le. (k, k_n, omega (arith, away k t)))
          (λ gt. let q : C (E (L l) k) ≡ v = omega (arith, away k t) in rw q at (lost_held k k_n gt))

  won_live : (v : ℕ) → Occurs N E C (L w) v → Live N E C L v
  won_live v o = (w, w_n, o)

  -- Document 01's choice between the loser's head and the winner's takes the greater value.
  greater : (k : ℕ) → k < N → new_head_of (st w w) (sy (C (E (L l) k))) (sy (C (E (L w) k))) ≡ sy (max (C (E (L w) k)) (C (E (L l) k)))
  unfolding new_head_of
  greater k k_n = by_test (is_in (sy u) (st w w)) found missing
    where
      u : ℕ
      u = C (E (L l) k)

      v : ℕ
      v = C (E (L w) k)

      won : ℕ → Bool
      won = among N (vector E C (L w))

      apart : (y z : ℕ) → won y ≡ true → won z ≡ true → sy y ≡ sy z → y ≡ z
      apart y z ty tz = I.distinct y z (won_live y (among→ (vector E C (L w)) ty)) (won_live z (among→ (vector E C (L w)) tz))

      -- The loser's head is in W: the one that stands earlier.
      found : is_in (sy u) (st w w) ≡ true → new_head_of (st w w) (sy u) (sy v) ≡ sy (max v u)
      found t =
          let heads : In (head (st l k)) (st w w) = rw (head_is I l k l_n k_n) (is_in→ (sy u) (st w w) t) in
          let wu : won u ≡ true = →among (vector E C (L w)) (found→ I l k w l_n k_n w_n heads) in
          let wv : won v ≡ true = →among (vector E C (L w)) (k, k_n, refl) in
          let lu : u ≤ C (L w) = omega (arith, (known I.hist (L l) k (lt I l l_n)).counts, less) in
          let lv : v ≤ C (L w) = (known I.hist (L w) k (lt I w w_n)).counts in
          let row : earlier (st w w) (sy u) (sy v) ≡ earlier (listed sy won (suc (C (L w)))) (sy u) (sy v)
          = ap (λ (r : List ℕ). earlier r (sy u) (sy v)) (I.principal w w_n) in
          rw t (row ∙ earlier_listed sy won (suc (C (L w))) u v apart (omega arith) (omega arith) wu wv ∙ ap sy (omega arith))

      -- It is not in W: its value is the smaller, whatever it is.
      missing : is_in (sy u) (st w w) ≡ false → new_head_of (st w w) (sy u) (sy v) ≡ sy (max v u)
      missing t =
          rw t (by_le u v (λ le. ap sy (omega arith)) (λ gt. absurd (not_in→ (sy u) (st w w) t (→found I w u w_n (lost_held k k_n gt)))))

  -- The new head of row k is the symbol of the new value.
  head_new : (k : ℕ) → k < N → nh k ≡ sy (C' (E' m k))
  head_new k k_n =
      by_test (is_named w l k)
      (λ t. met.top k t ∙ principal_head I w w_n ∙ ap sy (sym (here k t)))
      (λ t. met.rest k t k_n ∙ ap₂ (new_head_of (st w w)) (head_is I l k l_n k_n) (head_is I w k w_n k_n) ∙ greater k k_n ∙ ap sy (sym (away k t)))

  new_live : (k : ℕ) → k < N → Live N E C L (C' (E' m k))
  new_live k k_n = won_live (C' (E' m k)) (was_won (C' (E' m k)) (k, k_n, refl))

  -- The winning row cut down to the new heads is the principal row of the event.
  cut_row : keep (among N nh) (st w w) ≡ row_at N E' C' sy m
  cut_row =
      ap (keep (among N nh)) (I.principal w w_n)
      ∙ keep_listed sy (among N (vector E C (L w))) (suc (C (L w))) (among N (vector E' C' m)) (among N nh) same within
      ∙ ap (λ (c : ℕ). listed sy (among N (vector E' C' m)) (suc c)) (sym x.new_count)
    where
      same : (v : ℕ) → v < suc (C (L w)) → among N (vector E C (L w)) v ≡ true → among N nh (sy v) ≡ among N (vector E' C' m) v
      same v h t = any_same N (λ k. eqb (nh k) (sy v)) (λ k. eqb (C' (E' m k)) v) each
        where
          each : (k : ℕ) → k < N → eqb (nh k) (sy v) ≡ eqb (C' (E' m k)) v
          each k k_n =
              ap (λ (y : ℕ). eqb y (sy v)) (head_new k k_n)
              ∙ symbols_tell I (C' (E' m k)) v (new_live k k_n) (won_live v (among→ (vector E C (L w)) t))

      within : (v : ℕ) → v < suc (C (L w)) → among N (vector E' C' m) v ≡ true → among N (vector E C (L w)) v ≡ true
      within v h t = →among (vector E C (L w)) (was_won v (among→ (vector E' C' m) t))

  -- A row that was taken has the value that the event knows.
  taken : (a k : ℕ) → is_named w l a ≡ true → is_named w l k ≡ false → k < N → Cached N (suc m) E' C' sy (st' a k) m k
  taken a k n t k_n =
      let (d, dn, e, q) = met.fits a k n t k_n in
      let d_n : d < N = below_N I.hist I.last x d dn in
      let h : sy (C (E (L d) k)) ≡ sy (C' (E' m k)) = sym (head_is I d k d_n k_n) ∙ q ∙ head_new k k_n in
      let v : C (E (L d) k) ≡ C' (E' m k) = I.distinct (C (E (L d) k)) (C' (E' m k)) (d, d_n, (k, k_n, refl)) (new_live k k_n) h in
      rw e (held_cached I x same_symbols (st d k) d k dn d_n (I.cached d k d_n k_n) v)

  met_inv :
      {vv' : ℕ → ℕ}
      → ((a : ℕ) → is_named w l a ≡ true → a < N → vv' a ≡ vv w)
      → ((a : ℕ) → is_named w l a ≡ false → a < N → vv' a ≡ vv a)
      → Inv N p st' vv' (suc m) E' C' L' sy
  met_inv counted uncounted =
      stepped I x same_symbols
      (λ a n a_n. met.cut a a n n ∙ cut_row)
      cached
      met.other
      (λ a n a_n. counted a n a_n ∙ I.counts w w_n)
      uncounted
      (λ u v lu lv. I.distinct u v (before u lu) (before v lv))
    where
      cached : (a k : ℕ) → is_named w l a ≡ true → a < N → k < N → Cached N (suc m) E' C' sy (st' a k) m k
      cached a k n a_n k_n =
          by_test (is_named w l k)
          (λ t. own-cached I x same_symbols (st' a k) k t (met.cut a k n t ∙ cut_row))
          (λ t. taken a k n t k_n)

      before : (v : ℕ) → Live N E' C' L' v → Live N E C L v
      before v o = ⊎_elim (λ y. y) (λ y. won_live v (was_won v y)) (live_next I x same_symbols v o)

-- A meeting keeps the invariant; both copies leave it with the winner's count.
pub meet_good :
    {N p w l : ℕ} {st st' : ℕ → ℕ → List ℕ} {vv vv' nh : ℕ → ℕ}
    → Good N p st vv
    → w < N
    → l < N
    → vv l ≤ vv w
    → Met N w l st st' nh
    → ((a : ℕ) → is_named w l a ≡ true → a < N → vv' a ≡ vv w)
    → ((a : ℕ) → is_named w l a ≡ false → a < N → vv' a ≡ vv a)
    → Good N p st' vv'
meet_good {N} {p} {w} {l} g w_n l_n le met counted uncounted =
    let I = g.inv in
    let c : ℕ = g.C (g.L w) in
    let pair : Pair N p w l c g.C g.L = record { first = w_n; second = l_n; less = omega (arith, I.counts w w_n, I.counts l l_n); counts = inl refl } in
    record {
      m = suc g.m;
      E = knows_next g.m w l c g.E g.C g.L;
      C = counts_next g.m w l c g.E g.C g.L;
      L = latest_next g.m w l c g.E g.C g.L;
      sy = g.sy;
      inv = met_inv I (next g.m w l c g.E g.C g.L pair) met counted uncounted;
    }
