-- A list written from one place on: what `copy` leaves, and what a lent part leaves when it comes back. Assumes nothing.
use Rattle.std.specs.Prelude.{◌≡◌, ℕ, ◌+◌, ◌*◌, ◌≤◌}
use Rattle.std.proofs.Math.Path.{sym, ap, ap₂}
use Rattle.std.proofs.Common.{◌∙◌, length-append, take-append-drop, take_at, drop_at, take-add}
use mathlib.Core.List.{List, ◌++◌, append_assoc}
use native.Mathlib.Omega.{arith}
use Rattle.std.proofs.Math.ListN.{length, take, drop, length-drop}
use Rattle.std.proofs.Math.Seq.{length-take-le, drop-append-le, drop-drop}
use Rattle.std.proofs.lemmas.List.{take-append-le}
use Rattle.parts.specs.Parts.{part, put}

module _ {ℓ} {A : Type ℓ} where
  -- The list with v in the place of what stood from there on.
  unfoldable pub written : ℕ → List A → List A → List A
  written at v l = take at l ++ (v ++ drop (at + length v) l)

  -- Part k written is put there.
  pub written-put : (w k : ℕ) (v l : List A) → length v ≡ w → written (k * w) v l ≡ put w k v l
  unfolding written put
  written-put w k v l e = rw e

  module _ (at : ℕ) (v l : List A) (fits : at + length v ≤ length l) where
    front : length (take at l ++ v) ≡ at + length v
    front = rw (length-append, length-take-le at l (omega arith))

    split : written at v l ≡ (take at l ++ v) ++ drop (at + length v) l
    unfolding written
    split = sym (append_assoc (take at l) v (drop (at + length v) l))

    pub length-written : length (written at v l) ≡ length l
    length-written = rw (split, length-append, front, length-drop) (omega arith)

    pub take-written : take (at + length v) (written at v l) ≡ take at l ++ v
    take-written = rw split (take_at (take at l ++ v) (drop (at + length v) l) (at + length v) front)

    pub drop-written : drop (at + length v) (written at v l) ≡ drop (at + length v) l
    drop-written = rw split (drop_at (take at l ++ v) (drop (at + length v) l) (at + length v) front)

  -- ---- Places within places

  -- Behind the first h.
  pub written-behind : (h at : ℕ) (v l : List A) → written (h + at) v l ≡ take h l ++ written at v (drop h l)
  unfolding written
  written-behind h at v l =
      let place : h + at + length v ≡ h + (at + length v) = omega arith in
      rw (take-add h at l, place, ← drop-drop (at + length v) h l)
      (append_assoc (take h l) (take at (drop h l)) (v ++ drop (at + length v) (drop h l)))

  -- In the front of a list.
  pub written_front : (at : ℕ) (v x y : List A) → at + length v ≤ length x → written at v (x ++ y) ≡ written at v x ++ y
  unfolding written
  written_front at v x y fits =
      let starts : at ≤ length x = omega arith in
      rw (take-append-le at x y starts, drop-append-le (at + length v) x y fits)
      (sym (append_assoc (take at x) (v ++ drop (at + length v) x) y ∙ ap (λ (q : List A). take at x ++ q) (append_assoc v (drop (at + length v) x) y)))

  -- In part k, at the place of part j of it.
  module _ (w k u j : ℕ) (v l : List A) (fits : k * w + w ≤ length l) (within : j * u + u ≤ w) (wide : length v ≡ u) where
    pub written_within : written (k * w + j * u) v l ≡ put w k (put u j v (part w k l)) l
    unfolding part put
    written_within =
        let d : List A = drop (k * w) l in
        let whole : length (take w d) ≡ w = length-take-le w d (rw length-drop (omega arith)) in
        let room : j * u + length v ≤ length (take w d) = omega arith in
        let inner : written (j * u) v (take w d) ≡ put u j v (take w d) = written-put u j v (take w d) wide in
        written-behind (k * w) (j * u) v l
        ∙ ap (λ (q : List A). take (k * w) l ++ q)
        (ap (written (j * u) v) (sym (take-append-drop w d))
        ∙ written_front (j * u) v (take w d) (drop w d) room
        ∙ ap₂ ◌++◌ inner (drop-drop w (k * w) l))
