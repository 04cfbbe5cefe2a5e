-- The room that rows are passed in, one row behind another: row j of it is row j % 8 of slice j / 8. Assumes nothing.
use Rattle.std.specs.Prelude.{◌≡◌}
use Rattle.std.proofs.Math.Path.{refl, ap₂}
use Rattle.std.proofs.Common.{sym, ap, ◌∙◌, suc-mul, add-zero, add-suc}
use mathlib.Core.List.{List, ◌++◌, append_assoc, append-nil}
use Prim.Native.Nat.{ℕ, zero, suc, ◌+◌, ◌*◌, ◌/◌, ◌%◌}
use native.Mathlib.Omega.{arith}
use Rattle.parts.specs.Parts.{join, join_same}
use Rattle.model.specs.Calls.{over_room}

join_add : (a b : ℕ) (f : ℕ → List ℕ) → join (a + b) f ≡ join a f ++ join b (λ k. f (a + k))
unfolding join
join_add a zero f = rw (add-zero a) (sym (append-nil (join a f)))
join_add a (suc b) f =
    rw (add-suc a b) (ap (λ (l : List ℕ). l ++ f (a + b)) (join_add a b f) ∙ append_assoc (join a f) (join b (λ k. f (a + k))) (f (a + b)))

module _ (f : ℕ → ℕ → List ℕ) where
  -- Row j of the room.
  abbrev pub in_room : ℕ → List ℕ
  in_room j = f (j / 8) (j % 8)

  rooms : (n : ℕ) → join (n * 8) in_room ≡ join n (λ p. join 8 (f p))
  unfolding join
  rooms zero = refl
  rooms (suc n) =
      rw (suc-mul n 8)
      (join_add (n * 8) 8 in_room
      ∙ ap₂ ◌++◌ (rooms n)
      (join_same 8 (λ k. in_room (n * 8 + k)) (f n)
      (λ k h. let p : (n * 8 + k) / 8 ≡ n = omega arith in let q : (n * 8 + k) % 8 ≡ k = omega arith in rw (p, q))))

  pub over_room_lem : join 64 in_room ≡ over_room f
  unfolding over_room
  over_room_lem = rooms 8
