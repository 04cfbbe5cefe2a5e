-- A row cut down to some symbols, one symbol after another, in 8 cells: the invariant of the loop, its turns and its end. Assumes nothing.
use mathlib.Core.Path.{◌≡◌, refl, sym, ap, ◌∙◌}
use mathlib.Core.Bool.{true, false}
use mathlib.Core.List.{List, [], ◌∷◌, ◌++◌, append-nil}
use Prim.Native.Nat.{ℕ, suc, ◌+◌, ◌-◌, ◌<◌, ◌≤◌}
use native.Mathlib.Numerals.{add-one}
use native.Mathlib.Omega.{arith}
use lib.ListN.{length, get_or, take, set, replicate, length-append}
use lib.Seq.{take_all, set_at, append_snoc}
use Rattle.model.specs.Tests.{is_in, keep}
use Rattle.model.specs.Bytes.{unused, row_bytes}
use Rattle.facts.specs.Turns.{keep_next}

-- The cells of a row of 8.
unfoldable pub cells : List ℕ → List ℕ
cells l = l ++ replicate (8 - length l) unused

cells_more : (y x : ℕ) (l : List ℕ) (m : ℕ) → m ≡ length l → m < 8 → set (y ∷ cells l) (m + 1) x ≡ y ∷ cells (l ++ (x ∷ []))
unfolding cells
cells_more y x l m e h =
    let rest : List ℕ = replicate (8 - suc m) unused in
    let one : 8 - length l ≡ suc (8 - suc m) = omega arith in
    let fewer : 8 - suc m ≡ 8 - length (l ++ (x ∷ [])) = rw length-append (omega arith) in
    ap (λ (q : ℕ). set (y ∷ (l ++ replicate q unused)) (m + 1) x) one
    ∙ rw (add-one m)
    (ap (λ (q : List ℕ). y ∷ q)
    (set_at l unused rest x m (sym e) ∙ sym (append_snoc l x rest) ∙ ap (λ (q : ℕ). l ++ (x ∷ []) ++ replicate q unused) fewer))

-- Those of the first i symbols of w that stand in hs.
unfoldable pub kept : List ℕ → List ℕ → ℕ → List ℕ
kept w hs i = keep (λ x. is_in x hs) (take i w)

-- They stand in the cells, m of them, behind a place for the length.
pub record Cut (w hs : List ℕ) (i m : ℕ) (row : List ℕ) : Type 0 where
  pub most : m ≤ i
  pub many : m ≡ length (kept w hs i)
  pub holds : row ≡ unused ∷ cells (kept w hs i)

pub cut_start : (w hs : List ℕ) → Cut w hs 0 0 (replicate 9 unused)
unfolding cells kept keep
cut_start w hs = record { most = omega arith; many = refl; holds = refl }

module _ {w hs : List ℕ} {i m : ℕ} {row : List ℕ} (so : Cut w hs i m row) where
  module _ (h : i < length w) {m' : ℕ} {row' : List ℕ} where
    pub cut_more : length w ≤ 8 → is_in (get_or w i 0) hs ≡ true → row' ≡ set row (m + 1) (get_or w i 0) → m' ≡ m + 1 → Cut w hs (i + 1) m' row'
    unfolding kept
    cut_more short e er em =
        let one : kept w hs (i + 1) ≡ kept w hs i ++ (get_or w i 0 ∷ []) = rw (keep_next w i h (λ x. is_in x hs), e) in
        record {
          most = omega (arith, so.most);
          many = em ∙ rw (one, length-append) (omega (arith, so.many));
          holds = er ∙ rw (so.holds, one) (cells_more unused (get_or w i 0) (kept w hs i) m so.many (omega (arith, so.most)));
        }

    pub cut_same : is_in (get_or w i 0) hs ≡ false → row' ≡ row → m' ≡ m → Cut w hs (i + 1) m' row'
    unfolding kept
    cut_same e er em =
        let same : kept w hs (i + 1) ≡ kept w hs i = rw (keep_next w i h (λ x. is_in x hs), e) (append-nil (kept w hs i)) in
        record {
          most = omega (arith, so.most);
          many = em ∙ rw same so.many;
          holds = er ∙ rw same so.holds;
        }

  -- The length goes in front.
  pub cut_end : length w ≤ i → set row 0 m ≡ row_bytes 8 (keep (λ x. is_in x hs) w)
  unfolding kept cells row_bytes
  cut_end h =
      let all : kept w hs i ≡ keep (λ x. is_in x hs) w = rw (take_all i w h) in
      rw (← all, so.holds, so.many)
