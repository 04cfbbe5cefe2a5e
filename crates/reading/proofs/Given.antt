-- One row more of the room as reading fills it, over lengths of 0 and cells of FF, and the whole room. Assumes nothing.
use Rattle.std.specs.Prelude.{◌≡◌, ◌++◌, ◌∷◌, [], List, ℕ, ◌+◌, ◌*◌, ◌-◌, ◌≤◌, ◌<◌, length, take, drop, replicate}
use Rattle.std.proofs.Common.{sym, ap, ◌∙◌, zero-add, add-zero, add-one, mul-one, append_assoc, length-append, take-append-drop, arith}
use Rattle.std.proofs.Math.ListN.{set}
use Rattle.std.proofs.Math.Nat.{sub-zero}
use Rattle.std.proofs.Math.Seq.{drop-drop, set_split}
use Rattle.std.proofs.lemmas.List.{length-replicate, drop-replicate, replicate-append-replicate}
use Rattle.parts.specs.Parts.{join}
use Rattle.parts.specs.Written.{written}
use Rattle.parts.proofs.Front.{Front, front_next, front_end}
use Rattle.model.specs.Calls.{over_room}
use Rattle.reading.specs.Room.{in_room, over_room_lem}

-- The room is blank: x in every place.
module _ (x n : ℕ) {w i : ℕ} {f : ℕ → List ℕ} {l : List ℕ} (so : Front 0 w i f (replicate n x) l) (fits : i * w + w ≤ n) where
  blank-behind : (m : ℕ) → drop (i * w + m) l ≡ replicate (n - (i * w + m)) x
  blank-behind m =
      sym (drop-drop m (i * w) l)
      ∙ ap (drop m) (rw zero-add at so.rest)
      ∙ drop-drop m (i * w) (replicate n x)
      ∙ drop-replicate (i * w + m) n x

  -- Written from the front of row i's place on, which stays blank behind.
  pub row_next : (v after : List ℕ) → length v ≤ w → after ≡ written (i * w) v l → f i ≡ v ++ replicate (w - length v) x
      → Front 0 w (i + 1) f (replicate n x) after
  unfolding written
  row_next v after short e same =
      let at : ℕ = i * w in
      let full : List ℕ = v ++ replicate (w - length v) x in
      let wide : length full ≡ w = simp (length-append, length-replicate) (omega arith) in
      let whole : n - (at + length v) ≡ (w - length v) + (n - (at + w)) = omega arith in
      let rest : drop (at + length v) l ≡ replicate (w - length v) x ++ drop (at + w) l =
      blank-behind (length v)
      ∙ ap (λ (m : ℕ). replicate m x) whole
      ∙ sym (replicate-append-replicate (w - length v) (n - (at + w)) x)
      ∙ ap (λ (q : List ℕ). replicate (w - length v) x ++ q) (sym (blank-behind w)) in
      let over : after ≡ take at l ++ (full ++ drop (at + length full) l) =
      e
      ∙ ap (λ (q : List ℕ). take at l ++ q)
      (ap (λ (q : List ℕ). v ++ q) rest
      ∙ sym (append_assoc v (replicate (w - length v) x) (drop (at + w) l))
      ∙ ap (λ (m : ℕ). full ++ drop (at + m) l) (sym wide)) in
      front_next so at full after over (omega arith) wide (rw length-replicate (omega arith)) (sym same)

  -- Nothing is written.
  pub row_blank : (after : List ℕ) → after ≡ l → f i ≡ replicate w x → Front 0 w (i + 1) f (replicate n x) after
  unfolding written
  row_blank after e same = row_next [] after (omega arith) (e ∙ rw add-zero (sym (take-append-drop (i * w) l))) (rw sub-zero same)

-- One length is written.
pub length_next : {n i : ℕ} {f : ℕ → List ℕ} {l : List ℕ} → Front 0 1 i f (replicate n 0) l → i < n → (x : ℕ) (after : List ℕ)
    → after ≡ set l i x → f i ≡ x ∷ [] → Front 0 1 (i + 1) f (replicate n 0) after
unfolding written
length_next {n} {i} {l = l} so less x after e same =
    let room : i < length l = rw (so.long, length-replicate) less in
    row_next 0 n so (omega arith) (x ∷ []) after (omega arith) (e ∙ rw (mul-one, add-one) (set_split l i x room)) same

-- All 64 rows are written.
pub room_end : (w i : ℕ) (f : ℕ → ℕ → List ℕ) (old l : List ℕ) → Front 0 w i (in_room f) old l → i ≡ 64 → length old ≡ 64 * w → l ≡ over_room f
room_end w i f old l so e long = front_end so (rw (e, zero-add (64 * w)) long) ∙ ap (λ (m : ℕ). join m (in_room f)) e ∙ over_room_lem f
