-- `I n` in the front of the buffer keeps what a call keeps; where it is done the fresh table stands there, and where it is refused the old
-- one. Assumes nothing.
use Rattle.std.specs.Prelude.{◌≡◌, refl, Bool, true, false, cond, List, [], ◌∷◌, ◌++◌, ℕ, ◌≤◌, length, drop, Some}
use Rattle.std.proofs.Common.{sym, ◌∙◌}
use Rattle.std.proofs.Math.ListN.{take}
use Rattle.model.specs.Answers.{Said, refused, done}
use Rattle.model.specs.Bytes.{is_in_range}
use Rattle.model.specs.Calls.{fresh_says, fresh_leaves}
use Rattle.model.specs.Promises.{Owed}
use Rattle.lines.specs.declared.Command.TheVariants.{Fresh}
use Rattle.desk.specs.Desk.{size_with_n, call_says}
use Rattle.desk.specs.Kept.{Kept, Renewed, renewed, renewed_says, renewed_leaves, room_answers, size_in, size_out}

module _ {n : ℕ} {before after : List ℕ} {said : Said} (long : length before ≡ 4640) (r : Renewed n before after said) (size : ℕ) where
  pub renewed_kept : Kept (Some (Fresh n)) (take size before) (take (size_with_n size n) after) said
  renewed_kept = record { says = renewed_says long r size; leaves = renewed_leaves long r size }

-- The front of the buffer was lent to `fresh` and came back as `last`.
module _ (s n size : ℕ) (before last : List ℕ) {said : Said} (sized : s ≡ size_with_n 0 n) (most : s ≤ 4640) (long : length before ≡ 4640)
    (back : length last ≡ length (take s before)) (owed : Owed (fresh_says (take s before) n) (fresh_leaves (take s before) n ∷ []) said (last ∷ [])) where
  kept : Kept (Some (Fresh n)) (take size before) (take (size_with_n size n) (last ++ drop s before)) said
  kept = renewed_kept long (renewed s n before last said sized most long back owed) size

  answered : said ≡ cond (is_in_range n) done (refused 2)
  unfolding call_says fresh_says
  answered = kept.says ∙ room_answers n

  -- Kept with the size at hand, where that is the size after the call.
  sized_by : {now : ℕ} → size_with_n size n ≡ now → Kept (Some (Fresh n)) (take size before) (take now (last ++ drop s before)) said
  sized_by e = rw e at kept

  pub renewed_done : said ≡ done → Kept (Some (Fresh n)) (take size before) (take s (last ++ drop s before)) said
  renewed_done e = go (is_in_range n) refl (sym e ∙ answered)
    where
      go : (b : Bool) → is_in_range n ≡ b → done ≡ cond (is_in_range n) done (refused 2)
          → Kept (Some (Fresh n)) (take size before) (take s (last ++ drop s before)) said
      go true i d = sized_by (size_in size n i ∙ sym (size_in 0 n i) ∙ sym sized)
      go false i d = absurd (let x : done ≡ refused 2 = rw i at d in cc)

  pub renewed_refused : (k : ℕ) → said ≡ refused k → Kept (Some (Fresh n)) (take size before) (take size (last ++ drop s before)) said
  renewed_refused k e = go (is_in_range n) refl (sym e ∙ answered)
    where
      go : (b : Bool) → is_in_range n ≡ b → refused k ≡ cond (is_in_range n) done (refused 2)
          → Kept (Some (Fresh n)) (take size before) (take size (last ++ drop s before)) said
      go true i d = absurd (let x : refused k ≡ done = rw i at d in cc)
      go false i d = sized_by (size_out size n i)
