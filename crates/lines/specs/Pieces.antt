-- How pieces are found: the place of the first separator, and what it says of lines; words, as std splits them. Assumes nothing.
use Rattle.std.specs.Prelude.{◌≡◌, Bool, take, drop, eqb, ltb, Option, Some, None}
use Rattle.std.specs.List.{position, position_or_len, slice_split}
use Rattle.std.specs.Option.{unwrap_or}
use borrow.Author.Tests.{ltb-false}
use Rattle.std.proofs.Math.Path.{refl, ap}
use Rattle.std.proofs.Common.{sym, ◌∙◌, one-add, length-drop, drop_of_length-le, take_all, length-take-le}
use Rattle.std.proofs.Math.Bool.{true, false, cond}
use Rattle.std.proofs.lemmas.List.Recursion.{is_position_or_len}
use mathlib.Core.List.{List, [], ◌∷◌}
use Prim.Native.Nat.{ℕ, suc, ◌+◌, ◌-◌, ◌≤◌, ◌<◌}
use Prim.Native.Char.{code}
use Rattle.std.proofs.Math.Numerals.{add-one}
use Rattle.std.proofs.Math.Decide.{dec_lt}
use native.Mathlib.Omega.{arith}
use Rattle.std.proofs.Math.ListN.{length}
use Rattle.std.proofs.Math.Seq.{take-length}
use Rattle.lines.specs.Lines.{onto, pieces, lines_of, words_of}

-- How many bytes stand in front of the first separator; all of them where there is none.
unfoldable pub place : ℕ → List ℕ → ℕ
place sep [] = 0
place sep (c ∷ l) = cond (eqb c sep) 0 (suc (place sep l))

pub place_within : (sep : ℕ) (l : List ℕ) → place sep l ≤ length l
unfolding place
place_within sep [] = omega arith
place_within sep (c ∷ l) = go (eqb c sep) (place_within sep l)
  where
    go : (b : Bool) → place sep l ≤ length l → cond b 0 (suc (place sep l)) ≤ suc (length l)
    go true h = omega arith
    go false h = omega arith

-- The same in std's words.
pub place_found : (sep : ℕ) (l : List ℕ) → place sep l ≡ position_or_len (λ c. eqb c sep) l
unfolding place
place_found sep l = is_position_or_len (place sep) (λ c. eqb c sep) refl (λ c l. ap (cond (eqb c sep) 0) (sym (one-add (place sep l)))) l

-- In front of a separator stands the first piece, behind it the others.
pub pieces_next : (sep : ℕ) (last : List (List ℕ)) (l : List ℕ) → place sep l < length l
    → pieces sep last l ≡ take (place sep l) l ∷ pieces sep last (drop (suc (place sep l)) l)
unfolding place pieces onto
pieces_next sep last [] h = absurd (omega arith)
pieces_next sep last (c ∷ l) h = go (eqb c sep) (pieces_next sep last l) h
  where
    go : (b : Bool)
        → (place sep l < length l → pieces sep last l ≡ take (place sep l) l ∷ pieces sep last (drop (suc (place sep l)) l))
        → cond b 0 (suc (place sep l)) < suc (length l)
        → cond b ([] ∷ pieces sep last l) (onto c (pieces sep last l))
        ≡ take (cond b 0 (suc (place sep l))) (c ∷ l) ∷ pieces sep last (drop (cond b 0 (suc (place sep l))) l)
    go true ih m = refl
    go false ih m = ap (onto c) (ih (omega arith))

-- Without a separator all of it is one line.
module _ (sep : ℕ) where
  further : (c : ℕ) (l : List ℕ) (rest : List (List ℕ)) → place sep (c ∷ l) ≡ length (c ∷ l)
      → (place sep l ≡ length l) × (cond (eqb c sep) ([] ∷ rest) (onto c rest) ≡ onto c rest)
  unfolding place
  further c l rest e = go (eqb c sep) e
    where
      go : (b : Bool) → cond b 0 (suc (place sep l)) ≡ suc (length l) → (place sep l ≡ length l) × (cond b ([] ∷ rest) (onto c rest) ≡ onto c rest)
      go true h = absurd (omega arith)
      go false h = (omega arith, refl)

  pub one_line : (c : ℕ) (l : List ℕ) → place sep (c ∷ l) ≡ length (c ∷ l) → pieces sep [] (c ∷ l) ≡ (c ∷ l) ∷ []
  unfolding pieces onto
  one_line c [] e = (further c [] [] e).1
  one_line c (d ∷ l) e =
      let f = further c (d ∷ l) (pieces sep [] (d ∷ l)) e in
      f.1 ∙ ap (onto c) (one_line d l f.0)

-- ---- A place that was found

pub record Placed (sep : ℕ) (l : List ℕ) (r : ℕ) : Type 0 where
  pub at : r ≡ place sep l
  pub within : r ≤ length l
  pub front : r ≡ length (take r l)

pub placed : {sep : ℕ} {l : List ℕ} {r : ℕ} → r ≡ place sep l → Placed sep l r
placed {sep} {l} {r} e =
    let fits : r ≤ length l = rw e (place_within sep l) in
    record { at = e; within = fits; front = sym (length-take-le r l fits) }

-- The first place where the separator is found, or else the length.
pub placed_found : {sep : ℕ} {l : List ℕ} {found : Option ℕ} {r : ℕ} → found ≡ position (λ c. eqb c sep) l → r ≡ unwrap_or found (length l) → Placed sep l r
placed_found {sep} {l} e f =
    placed (f ∙ rw (e, ← place_found sep l) (go (place sep l) (place_within sep l)))
  where
    go : (p : ℕ) → p ≤ length l → unwrap_or (cond (ltb p (length l)) (Some p) None) (length l) ≡ p
    go p h = by (ltb p (length l)) refl
      where
        by : (b : Bool) → ltb p (length l) ≡ b → unwrap_or (cond b (Some p) None) (length l) ≡ p
        by true t = refl
        by false t = omega (arith, ltb-false p (length l) t)

pub placed_once : {sep : ℕ} {l : List ℕ} {r r' : ℕ} → Placed sep l r → Placed sep l r' → r ≡ r'
placed_once x y = x.at ∙ sym y.at

-- What stands from k on, as it is lent.
pub lent_from : (k : ℕ) (l : List ℕ) → take (length l - k) (drop k l) ≡ drop k l
lent_from k l = take_all (length l - k) (drop k l) (rw length-drop (omega arith))

-- A line's words are the parts between its spaces.
pub words_split : (l : List ℕ) → words_of l ≡ slice_split (λ c. eqb c (code " ")) l
unfolding words_of pieces onto
words_split [] = refl
words_split (c ∷ l) = ap (λ (m : List (List ℕ)). cond (eqb c (code " ")) ([] ∷ m) (onto c m)) (words_split l)

pub lines_none : (l : List ℕ) → length l ≡ 0 → lines_of l ≡ []
unfolding lines_of pieces
lines_none [] e = refl
lines_none (c ∷ l) e = absurd (omega arith)

-- While something is left there is a line, up to the first LF, and the others stand behind that LF.
pub lines_next : {l : List ℕ} {r : ℕ} → Placed (code "\n") l r → 0 < length l → lines_of l ≡ take r l ∷ lines_of (drop (r + 1) l)
unfolding lines_of pieces
lines_next {l} {r} p some = rw (add-one r, p.at) (go l some (dec_lt (place lf l) (length l)))
  where
    lf : ℕ
    lf = code "\n"

    go : (l : List ℕ) → 0 < length l → Dec (place lf l < length l) → pieces lf [] l ≡ take (place lf l) l ∷ pieces lf [] (drop (suc (place lf l)) l)
    go l h (yes m) = pieces_next lf [] l m
    go [] h (no m) = absurd (omega arith)
    go (c ∷ l) h (no m) =
        let e : place lf (c ∷ l) ≡ length (c ∷ l) = omega (arith, place_within lf (c ∷ l)) in
        rw (e, take-length (c ∷ l), drop_of_length-le (c ∷ l) {i = suc (length (c ∷ l))} (omega arith)) (one_line lf c l e)
