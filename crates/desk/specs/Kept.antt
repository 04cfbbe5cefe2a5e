-- The table in the front of a buffer that holds the largest: what each call leaves there. Assumes nothing.
use Rattle.std.specs.Prelude.{◌≡◌, Bool, not, ◌&&◌, List, [], ◌∷◌, ◌++◌, ℕ, ◌≤◌, length, get_or, drop, replicate, eqb, Option, Some}
use Rattle.std.proofs.Math.Path.{refl, sym}
use Rattle.std.proofs.Common.{ap, ◌∙◌, mul-le-mul, arith, take_at, drop_at, length-take-le}
use Rattle.std.proofs.Math.Bool.{true, false, cond}
use borrow.Author.Tests.{eq-eqb}
use Rattle.std.proofs.Math.ListN.{take}
use Rattle.std.proofs.lemmas.List.{length-replicate}
use Rattle.model.specs.Steps.{fresh_rows}
use Rattle.model.specs.Answers.{Said, refused, done, refuse, answer, accepted, leave}
use Rattle.model.specs.Bytes.{table_size, record_size, is_in_range, table_bytes}
use Rattle.model.specs.Calls.{fresh_reasons, fresh_says, fresh_leaves}
use Rattle.model.specs.Promises.{Owed}
use Rattle.slice.specs.Places.{sizes}
use Rattle.lines.specs.declared.Command.{Command}
use Rattle.lines.specs.declared.Command.TheVariants.{Fresh}
use Rattle.desk.specs.Desk.{size_with_n, room_for, call_says, call_leaves}

-- ---- Sizes

-- The largest table takes 4,640 bytes.
pub table_most : (n : ℕ) → n ≤ 8 → table_size n ≤ 4640
table_most n few = let r : record_size n ≤ 580 = omega (arith, sizes n few) in mul-le-mul few r

pub size_out : (old n : ℕ) → is_in_range n ≡ false → size_with_n old n ≡ old
unfolding size_with_n
size_out old n e = rw e

pub size_in : (old n : ℕ) → is_in_range n ≡ true → size_with_n old n ≡ table_size n
unfolding size_with_n
size_in old n e = rw e

-- ---- What a call says and leaves of the table

pub record Kept (c : Option Command) (before after : List ℕ) (said : Said) : Type 0 where
  pub says : said ≡ call_says before c
  pub leaves : after ≡ call_leaves before c

-- The one buffer that a call was lent.
only : {x y : List ℕ} → x ∷ [] ≡ y ∷ [] → x ≡ y
only e = ap (λ (l : List (List ℕ)). get_or l 0 []) e

-- The first s bytes were lent and came back as `last`.
module _ (s : ℕ) (before : List ℕ) {last : List ℕ} {answer : Said} {leaves : List ℕ} {said : Said} (fits : s ≤ length before)
    (long : length last ≡ length (take s before)) (owed : Owed answer (leaves ∷ []) said (last ∷ [])) where
  came_back : length last ≡ s
  came_back = long ∙ length-take-le s before fits

  pub lent_front : take s (last ++ drop s before) ≡ leaves
  lent_front = take_at last (drop s before) s came_back ∙ only owed.bytes

  pub lent_rest : drop s (last ++ drop s before) ≡ drop s before
  lent_rest = drop_at last (drop s before) s came_back

-- ---- `I n`

-- `I n` in the front of the buffer, where N is 2 to 8.
pub record Renewed (n : ℕ) (before after : List ℕ) (said : Said) : Type 0 where
  pub fits : size_with_n 0 n ≤ 4640
  pub says : said ≡ fresh_says (take (size_with_n 0 n) before) n
  pub front : take (size_with_n 0 n) after ≡ fresh_leaves (take (size_with_n 0 n) before) n
  pub rest : drop (size_with_n 0 n) after ≡ drop (size_with_n 0 n) before

pub renewed : (s n : ℕ) (before last : List ℕ) (said : Said) → s ≡ size_with_n 0 n → s ≤ 4640 → length before ≡ 4640 → length last ≡ length (take s before)
    → Owed (fresh_says (take s before) n) (fresh_leaves (take s before) n ∷ []) said (last ∷ []) → Renewed n before (last ++ drop s before) said
renewed s n before last said e fits all long owed =
    let within : s ≤ length before = omega arith in
    record {
      fits = rw (← e) fits;
      says = rw (← e) owed.answers;
      front = rw (← e) (lent_front s before within long owed);
      rest = rw (← e) (lent_rest s before within long owed);
    }

-- Fresh looks at nothing of the buffer but its length.
reasons_same : (n : ℕ) (x y : List ℕ) → length x ≡ length y → fresh_reasons x n ≡ fresh_reasons y n
unfolding fresh_reasons
reasons_same n x y e = rw e

-- It is accepted where N is 2 to 8, and refused 2 otherwise.
room_accepts : (n : ℕ) → accepted (fresh_reasons (room_for n) n) ≡ is_in_range n
unfolding accepted fresh_reasons room_for size_with_n
room_accepts n = go (is_in_range n)
  where
    go : (b : Bool) → not (not b) && (not (not (eqb (length {A = ℕ} (replicate (cond b (table_size n) 0) 0)) (table_size n))) && true) ≡ b
    go true = rw (length-replicate {0} {A = ℕ} (table_size n) 0, eq-eqb (table_size n) (table_size n) refl)
    go false = refl

pub room_answers : (n : ℕ) → fresh_says (room_for n) n ≡ cond (is_in_range n) done (refused 2)
unfolding fresh_says answer fresh_reasons room_for size_with_n
room_answers n = go (is_in_range n)
  where
    go : (b : Bool) → answer (refuse (not b) 2 ∷ refuse (not (eqb (length {A = ℕ} (replicate (cond b (table_size n) 0) 0)) (table_size n))) 3 ∷ []) done ≡ cond b done (refused 2)
    go true = rw (length-replicate {0} {A = ℕ} (table_size n) 0, eq-eqb (table_size n) (table_size n) refl)
    go false = refl

-- A buffer that is renewed says and leaves what the call does.
module _ {n : ℕ} {before after : List ℕ} {said : Said} (long : length before ≡ 4640) (r : Renewed n before after said) (size : ℕ) where
  room_same : fresh_reasons (take (size_with_n 0 n) before) n ≡ fresh_reasons (room_for n) n
  unfolding room_for
  room_same =
      reasons_same n (take (size_with_n 0 n) before) (replicate (size_with_n 0 n) 0)
      (length-take-le (size_with_n 0 n) before (omega (arith, r.fits)) ∙ sym (length-replicate {0} {A = ℕ} (size_with_n 0 n) 0))

  pub renewed_says : said ≡ call_says (take size before) (Some (Fresh n))
  unfolding call_says fresh_says
  renewed_says = r.says ∙ rw room_same

  pub renewed_leaves : take (size_with_n size n) after ≡ call_leaves (take size before) (Some (Fresh n))
  unfolding call_leaves fresh_leaves leave
  renewed_leaves = go (is_in_range n) refl
    where
      go : (b : Bool) → is_in_range n ≡ b
          → take (size_with_n size n) after
          ≡ cond (accepted (fresh_reasons (room_for n) n)) (cond (accepted (fresh_reasons (room_for n) n)) (table_bytes n fresh_rows) (room_for n)) (take size before)
      go true e =
          let same : size_with_n size n ≡ size_with_n 0 n = size_in size n e ∙ sym (size_in 0 n e) in
          rw (same, r.front, room_same, room_accepts n, e)
      go false e =
          let none : size_with_n 0 n ≡ 0 = size_out 0 n e in
          let kept : size_with_n size n ≡ size = size_out size n e in
          rw (kept, room_accepts n, e) (ap (take size) (rw none at r.rest))
