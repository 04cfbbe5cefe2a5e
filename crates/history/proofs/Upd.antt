-- What the update step of one slice keeps: the new symbol stands in no copy's principal row, and the invariant holds of what is left.
-- Assumes nothing.
use Rattle.std.specs.Prelude.{◌≡◌, refl, cond, List}
use Rattle.std.proofs.Common.{inr, arith, eq-eqb, ne_eqb}
use Prim.Native.Nat.{ℕ, suc, ◌<◌}
use Rattle.std.proofs.Math.Dec.{eqb}
use Rattle.facts.specs.Members.{In}
use Rattle.history.specs.Next.{Pair, next, knows_next, counts_next, latest_next}
use Rattle.history.specs.Inv.{Good}
use Rattle.history.specs.Upd.{Upd, upd_inv}
use Rattle.history.proofs.Inv.{in_primary}

-- A symbol that stands in no row of the primary's record stands in no copy's principal row.
pub unused :
    {N p : ℕ} {st : ℕ → ℕ → List ℕ} {vv : ℕ → ℕ}
    → Good N p st vv
    → (x : ℕ)
    → ((k : ℕ) → k < N → In x (st p k) → ⊥)
    → (a : ℕ)
    → a < N
    → In x (st a a)
    → ⊥
unused g x free a a_n i = let (c, c_n, j) = in_primary g.inv a x a_n i in free c c_n j

-- An update keeps the invariant; the primary counts one more.
pub update_good :
    {N p x : ℕ} {st st' : ℕ → ℕ → List ℕ} {vv vv' : ℕ → ℕ}
    → Good N p st vv
    → Upd N p x st st'
    → vv' p ≡ suc (vv p)
    → ((a : ℕ) → (a ≡ p → ⊥) → a < N → vv' a ≡ vv a)
    → Good N p st' vv'
update_good {N} {p} {x} g u counted uncounted =
    let I = g.inv in
    let c : ℕ = suc (g.C (g.L p)) in
    let pair : Pair N p p p c g.C g.L = record { first = I.primary; second = I.primary; less = omega arith; counts = inr (refl, refl) } in
    record {
      m = suc g.m;
      E = knows_next g.m p p c g.E g.C g.L;
      C = counts_next g.m p p c g.E g.C g.L;
      L = latest_next g.m p p c g.E g.C g.L;
      sy = λ v. cond (eqb v c) x (g.sy v);
      inv =
          upd_inv I (next g.m p p c g.E g.C g.L pair)
          (λ v h. rw (ne_eqb v c (omega arith)))
          (rw (eq-eqb c c refl))
          u (unused g x u.free) counted uncounted;
    }
