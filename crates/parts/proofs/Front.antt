-- Loops that write parts one behind another, behind a header: the invariant, and how a part that was lent comes back. Assumes nothing.
use mathlib.Core.Path.{◌≡◌, refl, sym, ap, ◌∙◌, ap₂}
use mathlib.Core.List.{List, ◌++◌, append_assoc, append-nil}
use Prim.Native.Nat.{ℕ, ◌+◌, ◌*◌, ◌-◌, ◌≤◌, ◌<◌}
use native.Mathlib.Nat.{add-sub_cancel_left, zero-mul, add-zero, suc-mul, add-mul}
use native.Mathlib.Numerals.{add-one}
use native.Mathlib.Omega.{arith}
use lib.ListN.{length, take, drop, take-append-drop}
use lib.Seq.{take_all, drop-drop, length-take-le, drop_at}
use borrow.Rule.Slice.PartMut.{put_mid}
use Rattle.parts.specs.Parts.{part, join, room, length-join, part-join, part_front}
use Rattle.parts.specs.Written.{written, length-written, take-written, drop-written}

-- The first parts are f's, up to s; header and rest are still those of the list that was lent.
pub record Front (h w s : ℕ) (f : ℕ → List ℕ) (old l : List ℕ) : Type 0 where
  pub done : take (h + s * w) l ≡ take h old ++ join s f
  pub rest : drop (h + s * w) l ≡ drop (h + s * w) old
  pub long : length l ≡ length old

pub front_start : (h w : ℕ) (f : ℕ → List ℕ) (l : List ℕ) → Front h w 0 f l l
unfolding join
front_start h w f l = record { done = rw (zero-mul, add-zero, append-nil); rest = refl; long = refl }

module _ {h w s : ℕ} {f : ℕ → List ℕ} {old l : List ℕ} (so : Front h w s f old l) where
  -- Part s may still be read.
  pub front_part : part w s (drop h l) ≡ part w s (drop h old)
  unfolding part
  front_part = rw (drop-drop, drop-drop) (ap (take w) so.rest)

  -- One part more is written.
  pub front_next : (at : ℕ) (v after : List ℕ) → after ≡ written at v l → at ≡ h + s * w → length v ≡ w → at + w ≤ length old → v ≡ f s
      → Front h w (s + 1) f old after
  unfolding join
  front_next at v after e place wide fits same =
      let room : at + length v ≤ length l = omega (arith, so.long) in
      let next : h + (s + 1) * w ≡ at + length v = rw (add-one s, suc-mul) (omega arith) in
      let still : drop at l ≡ drop at old = rw place so.rest in
      record {
        done = rw (next, add-one s, e) (take-written at v l room ∙ rw (place, so.done, same) (append_assoc (take h old) (join s f) (f s)));
        rest = rw (next, e) (drop-written at v l room ∙ sym (drop-drop (length v) at l) ∙ ap (drop (length v)) still ∙ drop-drop (length v) at old);
        long = rw e (length-written at v l room ∙ so.long);
      }

  pub front_end : length old ≡ h + s * w → l ≡ take h old ++ join s f
  front_end e = sym (take_all (h + s * w) l (omega (arith, so.long))) ∙ so.done

  -- Each part below s is the new one, each from s on the old one.
  pub front_done : h ≤ length old → ((k : ℕ) → k < s → length (f k) ≡ w) → (k : ℕ) → k < s → part w k (drop h l) ≡ f k
  front_done fits wide k less =
      let rest : List ℕ = drop (h + s * w) l in
      let body : length (join s f) ≡ s * w = length-join w s f wide in
      let whole : l ≡ take h old ++ (join s f ++ rest) =
      sym (take-append-drop (h + s * w) l)
      ∙ ap (λ (q : List ℕ). q ++ rest) so.done
      ∙ append_assoc (take h old) (join s f) rest in
      ap (part w k) (ap (drop h) whole ∙ drop_at (take h old) (join s f ++ rest) h (length-take-le h old fits))
      ∙ part_front w k (join s f) rest (rw body (room w less))
      ∙ part-join w s f wide k less

  pub front_rest : (k : ℕ) → s ≤ k → part w k (drop h l) ≡ part w k (drop h old)
  unfolding part
  front_rest k over = ap (take w) (from l ∙ ap (drop ((k - s) * w)) so.rest ∙ sym (from old))
    where
      from : (q : List ℕ) → drop (k * w) (drop h q) ≡ drop ((k - s) * w) (drop (h + s * w) q)
      from q =
          let more : s + (k - s) ≡ k = omega arith in
          let at : k * w ≡ s * w + (k - s) * w = ap (λ (m : ℕ). m * w) (sym more) ∙ add-mul s (k - s) w in
          let place : h + k * w ≡ h + s * w + (k - s) * w = omega arith in
          drop-drop (k * w) h q ∙ ap (λ (m : ℕ). drop m q) place ∙ sym (drop-drop ((k - s) * w) (h + s * w) q)

  -- With the parts as long as they should be, they are written.
  pub front_written : length (join s f) ≡ s * w → l ≡ written h (join s f) old
  unfolding written
  front_written wide =
      sym (take-append-drop (h + s * w) l)
      ∙ ap₂ ◌++◌ so.done so.rest
      ∙ append_assoc (take h old) (join s f) (drop (h + s * w) old)
      ∙ ap (λ (m : ℕ). take h old ++ (join s f ++ drop (h + m) old)) (sym wide)

-- A part that was lent and comes back as v is written there.
pub lent_back : (at w : ℕ) (v l : List ℕ) → length v ≡ w → put_mid at (at + w - at) l v ≡ written at v l
unfolding written
lent_back at w v l e = rw (add-sub_cancel_left, drop-drop, e)
