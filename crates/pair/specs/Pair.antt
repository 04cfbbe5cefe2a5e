-- Two records side by side: what the checks have shown of both, and what their comparison gives. Assumes nothing.
use Rattle.std.specs.Prelude.{◌≡◌, refl, Bool, true, false, cond, List, [], ◌∷◌, ℕ, ◌<◌, Result, Ok, Err}
use Rattle.std.proofs.Common.{arith}
use Rattle.model.specs.Steps.{Record, unrelated, comparison, b_is_winner}
use Rattle.model.specs.Answers.{Said, said, said_compared, ordered, refuse, answer, number_of_order}
use Rattle.model.specs.declared.Order.{Order}
use Rattle.model.specs.declared.Refusal.{Refusal}
use Rattle.model.specs.declared.Refusal.TheVariants.{UnrelatedSlice}
use Rattle.slice.specs.Shown.{RecordShown}

-- Both records are checked, and their own numbers are below N.
pub record PairShown (n a b : ℕ) (x y : List ℕ) : Type 0 where
  pub first : RecordShown n x
  pub second : RecordShown n y
  pub first_own : a < n
  pub second_own : b < n

-- Refusal 7 where some slice is unrelated, the order otherwise.
unfoldable pub pair_compared : ℕ → ℕ → ℕ → Record → Record → Result Order Refusal
pair_compared n a b x y = cond (unrelated n a b x y) (Err UnrelatedSlice) (Ok (comparison n a b x y))

-- b wins slice p of the pair.
abbrev pub b_wins_slice : ℕ → ℕ → ℕ → Record → Record → Bool
b_wins_slice a b p x y = b_is_winner a b (x p) (y p)

-- What an answer, and what a refusal, tells of a choice that refuses an unrelated slice first.
pub ok_told : {A : Type 0} (u : Bool) {x y : A} → Ok x ≡ cond u (Err UnrelatedSlice) (Ok y) → (u ≡ false) × (x ≡ y)
ok_told true e = absurd (let z : ◌≡◌ {A = ℕ} 0 1 = cc in omega arith)
ok_told false e = (refl, cc)

pub err_told : {A : Type 0} (u : Bool) (y : A) {r : Refusal} → Err r ≡ cond u (Err UnrelatedSlice) (Ok y) → (u ≡ true) × (r ≡ UnrelatedSlice)
err_told true y e = (refl, cc)
err_told false y e = absurd (let z : ◌≡◌ {A = ℕ} 0 1 = cc in omega arith)

-- What such a choice says, as a call's last reason and its answer.
pub said_told : {A : Type 0} (gives : A → Said) (u : Bool) (y : A) → said gives (cond u (Err UnrelatedSlice) (Ok y)) ≡ answer (refuse u 7 ∷ []) (gives y)
unfolding answer
said_told gives true y = refl
said_told gives false y = refl

module _ (n a b : ℕ) (x y : Record) where
  pub compared_ok : (o : Order) → Ok o ≡ pair_compared n a b x y → (unrelated n a b x y ≡ false) × (o ≡ comparison n a b x y)
  unfolding pair_compared
  compared_ok o = ok_told (unrelated n a b x y)

  pub compared_err : (r : Refusal) → Err r ≡ pair_compared n a b x y → (unrelated n a b x y ≡ true) × (r ≡ UnrelatedSlice)
  unfolding pair_compared
  compared_err r = err_told (unrelated n a b x y) (comparison n a b x y)

  -- What the comparison says, as a call's last reason and its answer.
  pub compared_said : said_compared (pair_compared n a b x y) ≡ answer (refuse (unrelated n a b x y) 7 ∷ []) (ordered (number_of_order (comparison n a b x y)))
  unfolding pair_compared
  compared_said = said_told (λ o. ordered (number_of_order o)) (unrelated n a b x y) (comparison n a b x y)
