-- Lists cut into equal parts: part k of a list, the join of parts one behind another, and a part put back in its place.
-- A table is such a list of records, a record (behind its header) of slices, a slice of rows. Each law is proved once, over the
-- width, the index and the element type; what stands above cites the laws and does not open the definitions. Assumes nothing.
use Rattle.std.specs.Prelude.{◌≡◌, ◌≢◌}
use Rattle.std.proofs.Math.Path.{refl, sym, ap, ap₂}
use Rattle.std.proofs.Common.{◌∙◌, suc-mul, mul-le-mul_right, length-append, length-take, take-append-drop, take_at, drop_at, take-add, take_all}
use mathlib.Core.List.{List, [], ◌++◌, append_assoc}
use Prim.Native.Nat.{ℕ, zero, suc, ◌+◌, ◌*◌, ◌-◌, ◌≤◌, ◌<◌}
use Rattle.std.proofs.Math.Nat.{zero-mul}
use Rattle.std.proofs.Math.Decide.{dec_lt, ℕ_discrete}
use native.Mathlib.Omega.{arith}
use Rattle.std.proofs.Math.ListN.{length, take, drop, length-drop}
use Rattle.std.proofs.lemmas.List.{take-append-le, drop-append-le}
use Rattle.std.proofs.Math.Seq.{length-take-le, drop-append-add}

-- Part k ends within the first n parts.
pub room : (w : ℕ) {k n : ℕ} → k < n → k * w + w ≤ n * w
room w {k} {n} h = rw (← suc-mul k w) (mul-le-mul_right w h)

module _ {ℓ} {A : Type ℓ} where
  -- Part k of a list that is cut into parts of w elements.
  unfoldable pub part : ℕ → ℕ → List A → List A
  part w k l = take w (drop (k * w) l)

  -- f 0 to f (n−1), one behind another.
  unfoldable pub join : ℕ → (ℕ → List A) → List A
  join zero f = []
  join (suc n) f = join n f ++ f n

  -- The list with v in the place of part k.
  unfoldable pub put : ℕ → ℕ → List A → List A → List A
  put w k v l = take (k * w) l ++ (v ++ drop (k * w + w) l)

  -- What is lent of a list from one place on, w elements of it.
  pub part_long : (at w : ℕ) (l : List A) → at + w ≤ length l → length (take w (drop at l)) ≡ w
  part_long at w l fits = simp (length-take, length-drop) (omega arith)

  pub length-part : (w k : ℕ) (l : List A) → k * w + w ≤ length l → length (part w k l) ≡ w
  unfolding part
  length-part w k l h = part_long (k * w) w l h

  pub join_same : (n : ℕ) (f g : ℕ → List A) → ((k : ℕ) → k < n → f k ≡ g k) → join n f ≡ join n g
  unfolding join
  join_same zero f g e = refl
  join_same (suc n) f g e = ap₂ ◌++◌ (join_same n f g (λ k h. e k (omega arith))) (e n (omega arith))

  pub length-join : (w n : ℕ) (f : ℕ → List A) → ((k : ℕ) → k < n → length (f k) ≡ w) → length (join n f) ≡ n * w
  unfolding join
  length-join w zero f e = sym (zero-mul w)
  length-join w (suc n) f e =
      rw (length-append, suc-mul) (omega (arith, length-join w n f (λ k h. e k (omega arith)), e n (omega arith)))

  pub length_repeated : (n : ℕ) (v : List A) → length (join n (λ k. v)) ≡ n * length v
  length_repeated n v = length-join (length v) n (λ k. v) (λ k h. refl)

  -- A part that lies in the front of a list does not see what stands behind it.
  pub part_front : (w k : ℕ) (x y : List A) → k * w + w ≤ length x → part w k (x ++ y) ≡ part w k x
  unfolding part
  part_front w k x y h =
      let starts : k * w ≤ length x = omega arith in
      let long : w ≤ length (drop (k * w) x) = rw length-drop (omega arith) in
      rw (drop-append-le (k * w) x y starts) (take-append-le w (drop (k * w) x) y long)

  -- A part that lies behind the front of a list sees only how long that front is.
  pub part-behind : (w k : ℕ) (x x' y : List A) → length x ≡ length x' → length x ≤ k * w → part w k (x ++ y) ≡ part w k (x' ++ y)
  unfolding part
  part-behind w k x x' y e h =
      let at : k * w ≡ length x + (k * w - length x) = omega arith in
      let at' : k * w ≡ length x' + (k * w - length x) = omega arith in
      ap (take w)
      (ap (λ (m : ℕ). drop m (x ++ y)) at
      ∙ drop-append-add x y (k * w - length x)
      ∙ sym (ap (λ (m : ℕ). drop m (x' ++ y)) at' ∙ drop-append-add x' y (k * w - length x)))

  -- Part k of a join is what was joined there.
  pub part-join : (w n : ℕ) (f : ℕ → List A) → ((k : ℕ) → k < n → length (f k) ≡ w) → (k : ℕ) → k < n → part w k (join n f) ≡ f k
  unfolding part join
  part-join w zero f e k h = absurd (omega arith)
  part-join w (suc n) f e k h = go (part-join w n f (λ j l. e j (omega arith)) k) (dec_lt k n)
    where
      front : length (join n f) ≡ n * w
      front = length-join w n f (λ j l. e j (omega arith))

      last : part w n (join n f ++ f n) ≡ f n
      last = rw (drop_at (join n f) (f n) (n * w) front) (take_all w (f n) (omega (arith, e n (omega arith))))

      go : (k < n → part w k (join n f) ≡ f k) → Dec (k < n) → part w k (join n f ++ f n) ≡ f k
      go ih (yes l) = part_front w k (join n f) (f n) (rw front (room w l)) ∙ ih l
      go ih (no l) = let at : k ≡ n = omega arith in rw at last

  -- The parts of a list, joined, are the front of the list.
  pub join_parts : (w n : ℕ) (l : List A) → join n (λ k. part w k l) ≡ take (n * w) l
  unfolding part join
  join_parts w zero l = rw zero-mul
  join_parts w (suc n) l = rw (suc-mul, take-add) (ap (λ (x : List A). x ++ take w (drop (n * w) l)) (join_parts w n l))

  -- A list of n parts is the join of its parts.
  pub join_whole : (w n : ℕ) (l : List A) → length l ≡ n * w → join n (λ k. part w k l) ≡ l
  join_whole w n l e = join_parts w n l ∙ take_all (n * w) l (omega arith)

  -- Two lists of n parts are equal if each part is.
  pub parts_same : (w n : ℕ) (x y : List A) → length x ≡ n * w → length y ≡ n * w → ((k : ℕ) → k < n → part w k x ≡ part w k y) → x ≡ y
  parts_same w n x y ex ey e =
      sym (join_whole w n x ex) ∙ join_same n (λ k. part w k x) (λ k. part w k y) e ∙ join_whole w n y ey

  module _ (w k : ℕ) (v l : List A) (fits : k * w + w ≤ length l) (wide : length v ≡ w) where
    before : length (take (k * w) l) ≡ k * w
    before = length-take-le (k * w) l (omega arith)

    pub length-put : length (put w k v l) ≡ length l
    unfolding put
    length-put = simp (length-append, length-drop) (omega (arith, before))

    -- Part k of the list with v put there is v.
    pub part-put : part w k (put w k v l) ≡ v
    unfolding part put
    part-put = rw (drop_at (take (k * w) l) (v ++ drop (k * w + w) l) (k * w) before) (take_at v (drop (k * w + w) l) w wide)

    -- Every other part stays.
    pub part-put-other : (j : ℕ) → j ≢ k → part w j (put w k v l) ≡ part w j l
    unfolding put
    part-put-other j ne = go (dec_lt j k)
      where
        upto : length (take (k * w + w) l) ≡ k * w + w
        upto = length-take-le (k * w + w) l fits

        go : Dec (j < k) → part w j (take (k * w) l ++ (v ++ drop (k * w + w) l)) ≡ part w j l
        go (yes h) =
            let in_front : j * w + w ≤ length (take (k * w) l) = rw before (room w h) in
            part_front w j (take (k * w) l) (v ++ drop (k * w + w) l) in_front
            ∙ sym (part_front w j (take (k * w) l) (drop (k * w) l) in_front)
            ∙ ap (part w j) (take-append-drop (k * w) l)
        go (no h) =
            let over : k < j = omega arith in
            let long : length (take (k * w) l ++ v) ≡ k * w + w = rw length-append (omega (arith, before)) in
            ap (part w j) (sym (append_assoc (take (k * w) l) v (drop (k * w + w) l)))
            ∙ part-behind w j (take (k * w) l ++ v) (take (k * w + w) l) (drop (k * w + w) l) (long ∙ sym upto) (rw long (room w over))
            ∙ ap (part w j) (take-append-drop (k * w + w) l)

    -- A list of n parts with v put in place k, as the join of its parts.
    pub put-join : (n : ℕ) (f : ℕ → List A) → length l ≡ n * w → f k ≡ v → ((j : ℕ) → j < n → j ≢ k → f j ≡ part w j l) → put w k v l ≡ join n f
    put-join n f long same other = sym (join_whole w n (put w k v l) (length-put ∙ long)) ∙ join_same n (λ j. part w j (put w k v l)) f each
      where
        each : (j : ℕ) → j < n → part w j (put w k v l) ≡ f j
        each j h = elim (ℕ_discrete j k) [ yes e ↦ rw e (part-put ∙ sym same) | no ne ↦ part-put-other j ne ∙ sym (other j h ne) ]
