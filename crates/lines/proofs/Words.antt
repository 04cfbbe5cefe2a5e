-- A line's words as they come one by one, and what the first of them and the next three say of the call. Assumes nothing.
use Rattle.std.proofs.Common.{◌≡◌, refl, ap, subst, sym, Bool, false, List, [], ◌∷◌, ℕ, drop, nat_eq, Option, Some, None, Bor, slice_get, option_copied}
use Rattle.std.specs.Fn.{CalledAt}
use Rattle.std.specs.Slice.Iter.{split_steps, split_rest, split_done, split_callee}
use Rattle.std.specs.declared.slice.Split.{Split}
use Rattle.std.proofs.lemmas.Iterator.{YieldsList}
use Rattle.std.proofs.lemmas.Iterator.Splits.{YieldsList-from_slice_split}
use Rattle.std.proofs.lemmas.Option.{same_Some}
use denote.Param.Members.{Mut}
use Rattle.lines.specs.Lines.{letter_of_word, words_of, front_of, command_of, command_in}
use Rattle.lines.specs.Pieces.{words_split}

-- The words that are left.
pub record Left {F : Type 0} (g : Mut F (Bor ℕ × Unit {0}) Bool) (s : Split ℕ F) (ws : List (List ℕ)) : Type 0 where
  pub all : YieldsList (split_steps g) (λ x. x.now) s ws

module _ {F : Type 0} {g : Mut F (Bor ℕ × Unit {0}) Bool} where
  -- One call of `next`: the first of them, and the others are left.
  pub next_word : {s t : Split ℕ F} (ws : List (List ℕ)) (r : Option (Bor (List ℕ))) → split_steps g s r t → Left g s ws
      → (option_copied r ≡ slice_get ws 0) × Left g t (drop 1 ws)
  next_word {s} [] None k left = (refl, subst (λ u. Left g u []) (sym k.1) left)
  next_word {t = t} [] (Some x) k left = absurd (left.all.runs x t k)
  next_word {t = t} (w ∷ ws) None k left = absurd (left.all.runs.0 t k)
  next_word {t = t} (w ∷ ws) (Some x) k left = let h = left.all.runs.1 x t k in (ap Some h.0, record { all = record { runs = h.1 } })

  -- The first call after a line is split at its spaces.
  pub first_word : (s : Split ℕ F) {t : Split ℕ F} {f : F} (line : List ℕ) (r : Option (Bor (List ℕ))) → split_steps g s r t
      → split_rest s ≡ line → split_done s ≡ false → split_callee s ≡ f → ((x : ℕ) (b : Bool) (q : F) → CalledAt g f x b q → (q ≡ f) × (b ≡ nat_eq x 32))
      → (option_copied r ≡ slice_get (words_of line) 0) × Left g t (drop 1 (words_of line))
  first_word s line r k rest done callee tests =
      rw words_split (next_word _ r k (record { all = YieldsList-from_slice_split g (λ b. nat_eq b 32) line rest done callee tests }))

-- The call of the first word and three more.
module _ {x : List ℕ} where
  pub no_letter : (ws : List (List ℕ)) → Some x ≡ slice_get ws 0 → None ≡ letter_of_word x → None ≡ command_in ws
  unfolding command_in
  no_letter [] e f = refl
  no_letter (w ∷ ws) e f = rw (same_Some w x (sym e), ← f)

  pub three_more : {y z third : Option (List ℕ)} {c : ℕ} (ws : List (List ℕ)) → Some x ≡ slice_get ws 0 → Some c ≡ letter_of_word x
      → y ≡ slice_get (drop 1 ws) 0 → z ≡ slice_get (drop 1 (drop 1 ws)) 0 → third ≡ slice_get (drop 1 (drop 1 (drop 1 ws))) 0
      → command_of c (front_of y z third) ≡ command_in ws
  unfolding command_in command_of
  three_more [] e f p q r = absurd (cc)
  three_more {c = c} (w ∷ ws) e f p q r = rw (same_Some w x (sym e), ← f, p, q, r) (front ws)
    where
      front : (l : List (List ℕ)) → command_of c (front_of (slice_get l 0) (slice_get (drop 1 l) 0) (slice_get (drop 1 (drop 1 l)) 0)) ≡ command_of c l
      front [] = refl
      front (x ∷ []) = refl
      front (x ∷ y ∷ []) = refl
      front (x ∷ y ∷ z ∷ l) = refl
