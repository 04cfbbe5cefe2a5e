-- Parts i and j of a list, i below j, lent at once: part i out of the front that ends where part j starts, part j out of the rest. What the
-- lent parts hold, and what the list is when they come back. Assumes nothing.
use Rattle.std.proofs.Common.{◌≡◌, ◌∙◌, sym, ap, List, ℕ, ◌+◌, ◌*◌, ◌-◌, ◌≤◌, ◌<◌, ◌++◌, length, take, drop, arith, take-append-drop, take_at, drop_at}
use Rattle.std.proofs.Math.Seq.{length-take-le, drop-drop}
use borrow.Rule.Slice.PartMut.{put_mid}
use Rattle.parts.specs.Parts.{part, put, room, part_front, length-put}
use Rattle.parts.specs.Written.{written, written_front, written-put}
use Rattle.parts.proofs.Front.{lent_back}

module _ (w : ℕ) {i j : ℕ} (t : List ℕ) (below : i < j) (fits : j * w + w ≤ length t) where
  abbrev front : List ℕ
  front = take (j * w) t

  abbrev rest : List ℕ
  rest = drop (j * w) t

  long : length front ≡ j * w
  long = length-take-le (j * w) t (omega arith)

  within : i * w + w ≤ length front
  within = rw long (room w below)

  pub lower_part : take (i * w + w - i * w) (drop (i * w) front) ≡ part w i t
  unfolding part
  lower_part =
      let wide : i * w + w - i * w ≡ w = omega arith in
      rw wide (sym (part_front w i front rest within) ∙ ap (part w i) (take-append-drop (j * w) t))

  module _ (u v : List ℕ) (lu : length u ≡ w) (lv : length v ≡ w) where
    lower_put : put w i u t ≡ put w i u front ++ rest
    lower_put =
        sym (written-put w i u t lu)
        ∙ ap (written (i * w) u) (sym (take-append-drop (j * w) t))
        ∙ written_front (i * w) u front rest (omega (arith, within))
        ∙ ap (λ (l : List ℕ). l ++ rest) (written-put w i u front lu)

    upper_put : put w j v (put w i u front ++ rest) ≡ put w i u front ++ (v ++ drop w rest)
    unfolding put
    upper_put =
        let still : length (put w i u front) ≡ j * w = length-put w i u front within lu ∙ long in
        rw (← drop-drop w (j * w) (put w i u front ++ rest), take_at (put w i u front) rest (j * w) still, drop_at (put w i u front) rest (j * w) still)

    pub lent_two : put_mid (i * w) (i * w + w - i * w) front u ++ (v ++ drop w rest) ≡ put w j v (put w i u t)
    lent_two = rw (lower_put, upper_put, lent_back (i * w) w u front lu, written-put w i u front lu)
