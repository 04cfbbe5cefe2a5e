-- What `let (Level | Behind | Ahead) = x else ..` tells of x where it goes on, and what `==` tells of x. Assumes nothing.
use Rattle.std.proofs.Common.{◌≡◌, refl, ap, ◌∙◌, arith}
use Rattle.std.specs.Prelude.{◌⊎◌, Bool, true, false, cond, ℕ, ◌≤◌}
use mathlib.Core.Logic.{⊎_elim}
use mir.Val.{bool_byte}
use denote.Enum.Bare.{sameb}
use Rattle.model.specs.Steps.{is_unrelated, is_behind, is_ahead}
use Rattle.model.specs.contracts.SliceAnswer.{the_type}
use Rattle.model.specs.declared.SliceAnswer.{SliceAnswer}
use Rattle.model.specs.declared.SliceAnswer.TheVariants.{Level, Behind, Ahead, Unrelated}

-- x is one of the first three cases.
abbrev pub Known : SliceAnswer → Type 0
Known x = (x ≡ Level) ⊎ ((x ≡ Behind) ⊎ (x ≡ Ahead))

pub related : (x : SliceAnswer) → Known x → is_unrelated x ≡ false
related x k = ⊎_elim (λ e. ap is_unrelated e) (λ r. ⊎_elim (λ e. ap is_unrelated e) (λ e. ap is_unrelated e) r) k

-- The number of a test, as `usize::from` gives it.
pub one_at_most : (b : Bool) → bool_byte b ≤ 1
one_at_most true = omega arith
one_at_most false = omega arith

pub one_behind : (x : SliceAnswer) {b : Bool} {i : ℕ} → b ≡ sameb the_type x Behind → i ≡ bool_byte b → i ≡ cond (is_behind x) 1 0
one_behind x e f = f ∙ ap bool_byte e ∙ go x
  where
    go : (y : SliceAnswer) → bool_byte (sameb the_type y Behind) ≡ cond (is_behind y) 1 0
    go Level = refl
    go Behind = refl
    go Ahead = refl
    go Unrelated = refl

pub one_ahead : (x : SliceAnswer) {b : Bool} {i : ℕ} → b ≡ sameb the_type x Ahead → i ≡ bool_byte b → i ≡ cond (is_ahead x) 1 0
one_ahead x e f = f ∙ ap bool_byte e ∙ go x
  where
    go : (y : SliceAnswer) → bool_byte (sameb the_type y Ahead) ≡ cond (is_ahead y) 1 0
    go Level = refl
    go Behind = refl
    go Ahead = refl
    go Unrelated = refl
