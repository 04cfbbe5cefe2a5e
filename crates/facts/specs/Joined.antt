-- Rows joined one behind another: what stands in the join, how long it is, and parts of joins within joins. Assumes nothing.
use Rattle.std.specs.Prelude.{◌≡◌, ℕ, zero, suc, ◌+◌, ◌*◌, ◌≤◌, ◌<◌, get_or}
use Rattle.std.proofs.Math.Path.{sym, ap}
use Rattle.std.proofs.Common.{◌∙◌, ⊎_elim, suc-mul, add-mul, mul_assoc, mul-one, arith, length-append, take-append-drop, drop-drop, length-take-le}
use mathlib.Core.List.{List, [], ◌∷◌}
use Rattle.std.proofs.Math.ListN.{length, take, drop, length-drop}
use Rattle.std.proofs.Math.Seq.{drop-cons}
use Rattle.parts.specs.Parts.{room, part, join, length-join, part-join, part_front}
use Rattle.facts.specs.Cases.{by_eq}
use Rattle.facts.specs.Members.{In, in_front, in_behind, in_append}

-- ---- What stands in a join

pub →in_join : (m : ℕ) (f : ℕ → List ℕ) (x k : ℕ) → k < m → In x (f k) → In x (join m f)
unfolding join
→in_join zero f x k h i = absurd (omega arith)
→in_join (suc m) f x k h i =
    by_eq k m
    (λ e. in_behind x (join m f) (f m) (rw (← e) i))
    (λ e. in_front x (join m f) (f m) (→in_join m f x k (omega arith) i))

pub in_join→ : (m : ℕ) (f : ℕ → List ℕ) (x : ℕ) → In x (join m f) → (k : ℕ) × (k < m) × In x (f k)
unfolding join
in_join→ zero f x i = absurd i
in_join→ (suc m) f x i =
    ⊎_elim
    (λ j. let w = in_join→ m f x j in let h : w.0 < m = w.1 in (w.0, omega arith, w.2))
    (λ j. (m, omega arith, j))
    (in_append x (join m f) (f m) i)

-- The join of m rows of at most n symbols.
pub join-length : (n m : ℕ) (f : ℕ → List ℕ) → ((k : ℕ) → k < m → length (f k) ≤ n) → length (join m f) ≤ m * n
unfolding join
join-length n zero f h = omega arith
join-length n (suc m) f h =
    rw (length-append, suc-mul) (let r = join-length n m f (λ k l. h k (omega arith)) in omega (arith, h m (omega arith)))

-- One of them is empty.
pub join-length-but : (n m : ℕ) (f : ℕ → List ℕ) (o : ℕ) → o < m → f o ≡ [] → ((k : ℕ) → k < m → length (f k) ≤ n) → length (join m f) + n ≤ m * n
unfolding join
join-length-but n zero f o l e h = absurd (omega arith)
join-length-but n (suc m) f o l e h =
    rw (length-append, suc-mul)
    (by_eq o m
    (λ q.
    let z : length (f m) ≡ 0 = ap length (ap f (sym q) ∙ e) in
    let r = join-length n m f (λ k l. h k (omega arith)) in
    omega arith)
    (λ q. let r = join-length-but n m f o (omega arith) e (λ k l. h k (omega arith)) in omega (arith, h m (omega arith))))

-- ---- Parts of parts

module _ {ℓ} {A : Type ℓ} where
  -- Part k of part p, where m parts of w make one.
  pub part-part : (w m p k : ℕ) (l : List A) → k < m → p * (m * w) + m * w ≤ length l → part w k (part (m * w) p l) ≡ part w (p * m + k) l
  unfolding part
  part-part w m p k l h fits =
      let rest : List A = drop (p * (m * w)) l in
      let long : m * w ≤ length (drop (p * (m * w)) l) = rw length-drop (omega arith) in
      let front : k * w + w ≤ length (take (m * w) rest) = rw (length-take-le (m * w) rest long) (room w h) in
      let at : p * (m * w) + k * w ≡ (p * m + k) * w = rw (add-mul, mul_assoc) in
      sym (part_front w k (take (m * w) rest) (drop (m * w) rest) front)
      ∙ ap (λ (x : List A). take w (drop (k * w) x)) (take-append-drop (m * w) rest)
      ∙ ap (take w) (drop-drop (k * w) (p * (m * w)) l ∙ ap (λ (i : ℕ). drop i l) at)

  -- Part p * m + k of a join of n joins of m parts.
  pub part_nested : (w n m : ℕ) (f : ℕ → ℕ → List A) → ((p k : ℕ) → p < n → k < m → length (f p k) ≡ w)
      → (p k : ℕ) → p < n → k < m → part w (p * m + k) (join n (λ p. join m (f p))) ≡ f p k
  part_nested w n m f e p k hp hk =
      sym (part-part w m p k (join n (λ p. join m (f p))) hk (rw total (room (m * w) hp)))
      ∙ ap (part w k) (part-join (m * w) n (λ p. join m (f p)) inner p hp)
      ∙ part-join w m (f p) (λ k h. e p k hp h) k hk
    where
      inner : (p : ℕ) → p < n → length (join m (f p)) ≡ m * w
      inner p h = length-join w m (f p) (λ k l. e p k h l)

      total : length (join n (λ p. join m (f p))) ≡ n * (m * w)
      total = length-join (m * w) n (λ p. join m (f p)) inner

  -- A part of one element is that element.
  pub part_one : (i : ℕ) (l : List A) (d : A) → i < length l → part 1 i l ≡ get_or l i d ∷ []
  unfolding part
  part_one i l d h = rw (mul-one, drop-cons l i d h)
