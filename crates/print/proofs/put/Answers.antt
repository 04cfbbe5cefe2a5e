-- `put`: what fits is copied, and setting the rest past the end sets nothing. Assumes nothing.
use Rattle.std.proofs.Common.{◌≡◌, refl, sym, ap, ◌∙◌, List, [], ◌∷◌, ◌++◌, ℕ, suc, ◌+◌, ◌-◌, ◌≤◌, ◌<◌, min, length, take, drop, take-append-drop, length-take-le, drop_of_length-le, drop-drop, append-nil, append_assoc, ⊎_elim, arith}
use Rattle.std.proofs.lemmas.List.{set_past}
use Rattle.std.proofs.lemmas.List.Edits.{sets, sets-eq}
use Rattle.std.proofs.lemmas.Bool.{cases_lt}
use Rattle.std.proofs.Math.Seq.{length-sets, take-length, drop-length}
use borrow.Rule.Slice.PartMut.{put_mid}
use Rattle.print.specs.Room.{sets_append}
use Rattle.print.proofs.put.Goals as goal

past : (l : List ℕ) (i : ℕ) (x : List ℕ) → length l ≤ i → sets l i x ≡ l
past l i [] h = refl
past l i (b ∷ x) h = rw (set_past l i b h) (past l (suc i) x (omega arith))

-- What is past the end of the room: nothing is put there.
cut : (l : List ℕ) (at : ℕ) (x : List ℕ) (n : ℕ) → n ≤ length x → (n < length x → length l ≤ at + n) → sets l at x ≡ sets l at (take n x)
cut l at x n few full =
    let whole : x ≡ take n x ++ drop n x = sym (take-append-drop n x) in
    let front : length (take n x) ≡ n = length-take-le n x few in
    let rest : sets (sets l at (take n x)) (at + n) (drop n x) ≡ sets l at (take n x) =
    ⊎_elim
    (λ (more : n < length x). past (sets l at (take n x)) (at + n) (drop n x) (rw length-sets (full more)))
    (λ (all : length x ≤ n). rw (drop_of_length-le x all))
    (cases_lt n (length x)) in
    ap (sets l at) whole ∙ sets_append l at (take n x) (drop n x) ∙ rw front rest

-- Inside the room as much as fits is copied; behind it nothing is.
inside : (l : List ℕ) (at : ℕ) (x : List ℕ) (n : ℕ) → n ≤ length x → at + n ≤ length l → (n < length x → length l ≤ at + n)
    → put_mid at (at + n - at) l (take n x) ≡ sets l at x
inside l at x n few fits full =
    let front : length (take n x) ≡ n = length-take-le n x few in
    let same : at + n - at ≡ n = omega arith in
    rw (cut l at x n few full, sets-eq (take n x) l at (omega arith), front, same, drop-drop, append_assoc)

outside : (l : List ℕ) (at : ℕ) (x : List ℕ) → length l ≤ at → put_mid (length l) (length l + 0 - length l) l [] ≡ sets l at x
outside l at x behind =
    let same : length l + 0 - length l ≡ 0 = omega arith in
    rw (past l at x behind, same, take-length, drop-length) (append-nil l)

fitting : (l : List ℕ) (at : ℕ) (x : List ℕ) (i n : ℕ) → i ≡ min at (length l) → n ≤ length x → i + n ≤ length l → (n < length x → length l ≤ i + n)
    → put_mid i (i + n - i) l (take n x) ≡ sets l at x
fitting l at x i n e few fits full =
    ⊎_elim
    (λ (short : length l < at).
    let here : i ≡ length l = omega arith in
    let none : n ≡ 0 = omega arith in
    rw (here, none) (outside l at x (omega arith)))
    (λ (long : at ≤ length l). let here : i ≡ at = omega arith in rw here (inside l at x n few (omega arith) (λ h. omega (arith, full h))))
    (cases_lt (length l) at)

pub returns : goal.returns
returns c =
    let a = c.args in
    record {
      next = refl;
      bytes = rw c.copy_from_slice.ensures.after (fitting a.out.now a.at a.text.now _ _ c.min-start.ensures (omega arith) (omega arith) (λ h. omega arith));
    }
