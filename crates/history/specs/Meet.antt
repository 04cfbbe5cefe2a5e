-- The meeting step of one slice: w won, l lost. Of a cached row it is asked only that it is one of the two records' rows and has the
-- new head, so which of two rows with equal heads is taken does not matter. That it keeps the invariant stands in proofs/Meet.antt.
-- Assumes nothing.
use Rattle.std.specs.Prelude.{◌≡◌, true, false, List}
use Prim.Native.Nat.{ℕ, ◌<◌}
use Rattle.model.specs.Tests.{head, keep}
use Rattle.model.specs.Steps.{is_named, new_head_of}
use Rattle.history.specs.Inv.{among}

-- Rows st' come from rows st by a meeting with new heads nh.
pub record Met (N w l : ℕ) (st st' : ℕ → ℕ → List ℕ) (nh : ℕ → ℕ) : Type 0 where
  -- New heads.
  pub top : (k : ℕ) → is_named w l k ≡ true → nh k ≡ head (st w w)
  pub rest : (k : ℕ) → is_named w l k ≡ false → k < N → nh k ≡ new_head_of (st w w) (head (st l k)) (head (st w k))
  -- Rows w and l of both records become W cut down to the new heads; another row is one of the two that has the new head.
  pub cut : (c k : ℕ) → is_named w l c ≡ true → is_named w l k ≡ true → st' c k ≡ keep (among N nh) (st w w)
  pub fits :
      (c k : ℕ)
      → is_named w l c ≡ true
      → is_named w l k ≡ false
      → k < N
      → (d : ℕ) × (is_named w l d ≡ true) × (st' c k ≡ st d k) × (head (st d k) ≡ nh k)
  pub other : (c k : ℕ) → is_named w l c ≡ false → c < N → k < N → st' c k ≡ st c k
