-- What the invariant says where a copy is ahead of another, and of the symbols that the primary's record holds. Assumes nothing.
use Rattle.std.specs.Prelude.{List, ℕ, ◌≤◌, ◌<◌}
use Rattle.std.proofs.Common.{arith}
use Rattle.model.specs.Tests.{head}
use Rattle.facts.specs.Members.{In}
use Rattle.history.specs.Hist.{Below, Occurs, le_self, own, chain}
use Rattle.history.specs.Next.{Latest}
use Rattle.history.specs.Inv.{Cached, Inv, lt, own_value, head_is, →found, top, row→, →row}
use Rattle.history.proofs.Hist.{joined, cover, kept}

module _ {N p : ℕ} {st : ℕ → ℕ → List ℕ} {vv : ℕ → ℕ} {m : ℕ} {E : ℕ → ℕ → ℕ} {C L sy : ℕ → ℕ} (I : Inv N p st vv m E C L sy) where
  pub →ahead : (a b : ℕ) → a < N → b < N → C (L a) ≤ C (L b) → In (head (st a a)) (st b b)
  →ahead a b a_n b_n le =
      let al : Latest m E a (L a) = I.last a a_n in
      let bl : Below E C (E (L b) a) (L a) = chain I.hist a (E (L b) a) (L a) al.before (own I.hist (L b) a (lt I b b_n)) al.own (al.last (L b) (lt I b b_n)) in
      let o : Occurs N E C (L b) (C (E (L a) a)) = joined I.hist (L a) (L b) a (lt I a a_n) (lt I b b_n) a_n le (omega (arith, own_value I a a_n, bl.counts)) in
      rw (head_is I a a a_n a_n) (→found I b (C (E (L a) a)) b_n o)

  -- Every symbol of a principal row stands in some row of the primary's record: what is free there is free everywhere.
  pub in_primary : (a x : ℕ) → a < N → In x (st a a) → (c : ℕ) × (c < N) × In x (st p c)
  in_primary a x a_n i =
      let h = I.hist in
      let p_n = I.primary in
      let (v, o, q) = row→ sy p_n h (L a) (lt I a a_n) x (rw (I.principal a a_n) at i) in
      let (c, c_n, cov) = kept h a (L a) (L p) a_n (lt I a a_n) (lt I p p_n) (I.last a a_n).own ((I.last a a_n).last (L p) (lt I p p_n)) (top I (L a) (lt I a a_n)) in
      let r : Cached N m E C sy (st p c) (L p) c = I.cached p c p_n c_n in
      let lc : E (L p) c < m = omega (arith, le_self h (L p) c (lt I p p_n), lt I p p_n) in
      let b : Below E C r.event (E (L p) c) = chain h c r.event (E (L p) c) lc r.own (own h (L p) c (lt I p p_n)) r.known in
      let u : Occurs N E C r.event v = cover h r.event (E (L p) c) r.before lc b r.same v (cov v o) in
      (c, c_n, rw (r.row, ← q) (→row sy p_n h r.event r.before v u))
