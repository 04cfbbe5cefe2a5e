-- Text put into room that is lent: what is past its end is not written, what is past the text stays. Assumes nothing.
use Rattle.std.specs.Prelude.{◌≡◌, refl, List, [], ◌∷◌, ◌++◌, ℕ, suc, ◌+◌, length, take, drop, set}
use Rattle.std.proofs.Common.{sym, ap, ◌∙◌, add-zero, zero-add, arith, length-append}
use Rattle.std.proofs.lemmas.List.Edits.{sets}
use Rattle.std.proofs.Math.Seq.{take-nil}

-- The front of the text as far as the room goes, then what stood there.
unfoldable pub filled : List ℕ → List ℕ → List ℕ
filled text room = take (length room) text ++ drop (length text) room

-- The text stands in the room from `at` on, byte by byte where there is room, and the answer is the place behind it.
pub record Put (text : List ℕ) (at : ℕ) (before after : List ℕ) (r : ℕ) : Type 0 where
  pub next : r ≡ at + length text
  pub bytes : after ≡ sets before at text

pub put_once : {text : List ℕ} {at : ℕ} {before after after' : List ℕ} {r r' : ℕ}
    → Put text at before after r → Put text at before after' r' → (r ≡ r') × (after ≡ after')
put_once x y = (x.next ∙ sym y.next, x.bytes ∙ sym y.bytes)

-- One text behind another.
pub sets_append : (l : List ℕ) (i : ℕ) (x y : List ℕ) → sets l i (x ++ y) ≡ sets (sets l i x) (i + length x) y
sets_append l i [] y = rw (add-zero i)
sets_append l i (b ∷ x) y =
    let e : i + suc (length x) ≡ suc i + length x = omega arith in
    rw e (sets_append (set l i b) (suc i) x y)

pub put_then : {x y : List ℕ} {at m r : ℕ} {a b c : List ℕ} → Put x at a b m → Put y m b c r → Put (x ++ y) at a c r
put_then {x} {y} {at} {m} {r} {a} {b} {c} p q = record {
  next = rw length-append (omega (arith, p.next, q.next));
  bytes = q.bytes ∙ rw (p.bytes, p.next) (sym (sets_append a at x y));
}

-- A text put at the front fills the room.
no_room : (i : ℕ) (x : List ℕ) → sets [] i x ≡ []
no_room i [] = refl
no_room i (b ∷ x) = no_room (suc i) x

behind_first : (a : ℕ) (l : List ℕ) (i : ℕ) (x : List ℕ) → sets (a ∷ l) (suc i) x ≡ a ∷ sets l i x
behind_first a l i [] = refl
behind_first a l i (b ∷ x) = behind_first a (set l i b) (suc i) x

put_fills : (x l : List ℕ) → sets l 0 x ≡ filled x l
unfolding filled
put_fills [] l = rw (take-nil {A = ℕ} (length l))
put_fills (b ∷ x) [] = no_room 1 x
put_fills (b ∷ x) (a ∷ l) = behind_first b l 0 x ∙ ap (λ (m : List ℕ). b ∷ m) (put_fills x l)

-- Text owed to the front of the room: the answer is its length, and the room is filled.
pub record Filled (text before after : List ℕ) (r : ℕ) : Type 0 where
  pub long : r ≡ length text
  pub bytes : after ≡ filled text before

pub filled_once : {text before after after' : List ℕ} {r r' : ℕ} → Filled text before after r → Filled text before after' r' → (r ≡ r') × (after ≡ after')
filled_once x y = (x.long ∙ sym y.long, x.bytes ∙ sym y.bytes)

pub put-filled : {text before after : List ℕ} {r : ℕ} → Put text 0 before after r → Filled text before after r
put-filled {text} {before} p = record { long = p.next ∙ zero-add (length text); bytes = p.bytes ∙ put_fills text before }
