-- The old row cut down to the heads of other rows, in 8 cells, and the new symbol in front of it: the new row. Assumes nothing.
use mathlib.Core.Path.{◌≡◌, sym, ap, ap₂, ◌∙◌}
use mathlib.Core.List.{List, ◌∷◌}
use Prim.Native.Nat.{ℕ, ◌-◌, ◌<◌}
use native.Mathlib.Omega.{arith}
use lib.ListN.{length, get_or}
use Rattle.model.specs.Tests.{is_in, keep}
use Rattle.model.specs.Steps.{new_symbol, head_of_other, updated_row}
use Rattle.model.specs.Bytes.{row_bytes, symbols_in, row_in_slice}
use Rattle.row.specs.Tab.{tab}
use Rattle.laws.specs.Layout.{row_back}
use Rattle.updating.specs.Others.{head_other_than, kept_others}
use Rattle.updating.specs.Asked.{OwnSlice, own_fits}

-- The symbols of the old row that stay.
unfoldable pub stay : ℕ → ℕ → List ℕ → List ℕ
stay n p s = keep (head_of_other n p (row_in_slice n s)) (row_in_slice n s p)

-- They are what is cut out with those heads.
pub stay_cut : {n p : ℕ} {s old heads kept : List ℕ} → OwnSlice n p s
    → heads ≡ tab (n - 1) (head_other_than p (row_in_slice n s)) → old ≡ row_in_slice n s p
    → kept ≡ row_bytes 8 (keep (λ x. is_in x heads) old) → kept ≡ row_bytes 8 (stay n p s)
unfolding stay
stay_cut {n} {p} {s} own eh eo e =
    e
    ∙ ap (row_bytes 8)
    (ap₂ (λ (hs l : List ℕ). keep (λ x. is_in x hs) l) eh eo
    ∙ kept_others n p (row_in_slice n s) own.copy (row_in_slice n s p))

module _ {n p : ℕ} {s kept : List ℕ} (own : OwnSlice n p s) (e : kept ≡ row_bytes 8 (stay n p s)) where
  symbols : symbols_in kept ≡ stay n p s
  symbols = ap symbols_in e ∙ row_back 8 (stay n p s)

  pub stay_form : kept ≡ row_bytes 8 (symbols_in kept)
  stay_form = e ∙ ap (row_bytes 8) (sym symbols)

  -- There is a cell left for the new symbol.
  pub stay_few : get_or kept 0 0 < 8
  unfolding row_bytes updated_row stay
  stay_few =
      let many : get_or kept 0 0 ≡ length (stay n p s) = ap (λ (q : List ℕ). get_or q 0 0) e in
      omega (arith, own_fits own, own.most)

  pub stay_new : (x : ℕ) (r : List ℕ) → x ≡ new_symbol n (row_in_slice n s) → r ≡ row_bytes 8 (x ∷ symbols_in kept) → r ≡ row_bytes 8 (updated_row n p (row_in_slice n s))
  unfolding updated_row stay
  stay_new x r ex er = er ∙ ap₂ (λ (y : ℕ) (l : List ℕ). row_bytes 8 (y ∷ l)) ex symbols
