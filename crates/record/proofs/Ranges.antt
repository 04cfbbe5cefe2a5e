-- Chains over the numbers below n, `all` and `fold`, and `all` over the parts of a list, as the model's definitions. Assumes nothing.
use Rattle.std.specs.Prelude.{◌≡◌, Bool, List, [], ◌∷◌, ◌++◌, map, ℕ, zero, suc, ◌+◌, ◌*◌, ◌≤◌, ◌<◌, length, take, drop}
use Rattle.std.specs.Fn.{Called}
use Rattle.std.specs.List.{list_all, fold, range_with_len}
use Rattle.std.specs.Iterator.{AlwaysYields, FoldsItems}
use Rattle.std.specs.Slice.Iter.{chunks_exact_rest, chunks_exact_size, chunks_exact_steps}
use Rattle.std.specs.declared.slice.ChunksExact.{ChunksExact}
use Rattle.std.proofs.Common.{refl, sym, ap, ◌∙◌, add-one, suc-mul, zero-add, zero-mul, length-append, length-drop, take_at, drop_at, drop-drop, arith}
use Rattle.std.proofs.Math.Bool.{and-true}
use Rattle.std.proofs.Math.Nat.{sub-zero}
use Rattle.std.proofs.iter.Yields.{nat_range_steps, Range-gives}
use Rattle.std.proofs.lemmas.Fn.{fold_over}
use Rattle.std.proofs.lemmas.Iterator.{YieldsList}
use Rattle.std.proofs.lemmas.List.Folds.{list_all-append, list_all-map}
use Rattle.std.proofs.lemmas.List.Sums.{fold-append}
use denote.Ref.{Bor}
use denote.Param.Members.{Mut}
use Rattle.parts.specs.Parts.{part, room}
use Rattle.model.specs.Tests.{all}

-- ---- The numbers from a on

range_more : (a n : ℕ) → range_with_len a (suc n) ≡ range_with_len a n ++ (a + n) ∷ []
range_more a zero = ap (λ (m : ℕ). m ∷ []) (omega arith)
range_more a (suc n) = ap (λ (l : List ℕ). a ∷ l) (range_more (a + 1) n ∙ ap (λ (m : ℕ). range_with_len (a + 1) n ++ m ∷ []) (omega arith))

pub range-last : (n : ℕ) → range_with_len 0 (suc n) ≡ range_with_len 0 n ++ n ∷ []
range-last n = range_more 0 n ∙ ap (λ (m : ℕ). range_with_len 0 n ++ m ∷ []) (omega arith)

pub all_ranged : (f : ℕ → Bool) (n : ℕ) → list_all f (range_with_len 0 n) ≡ all n f
unfolding all
all_ranged f zero = refl
all_ranged f (suc n) = ap (list_all f) (range-last n) ∙ list_all-append f (range_with_len 0 n) (n ∷ []) ∙ rw (all_ranged f n, and-true) refl

-- `fold` over the numbers below n, by a closure that computes h and keeps itself.
pub fold_ranged : {F C : Type 0} (g : Mut F (C × (ℕ × Unit {0})) C) (f : F) (h : C → ℕ → C) (n : ℕ) (a r : C)
    → ((x : C) (k : ℕ) (y : C) (f' : F) → Called g f (x, (k, tt)) y f' → (y ≡ h x k) × (f' ≡ f))
    → FoldsItems nat_range_steps g (record { start = 0; end = n }) f a r → r ≡ fold h a (range_with_len 0 n)
fold_ranged {F} {C} g f h n a r turn ran =
    fold_over nat_range_steps (λ k. k) g (λ (ks : List ℕ) (x : C). x ≡ fold h a ks) f
    (λ ks x k y f' so call. let t = turn x k y f' call in (t.0 ∙ ap (λ (z : C). h z k) so ∙ sym (fold-append h a ks (k ∷ [])), t.1))
    (record { start = 0; end = n }) (range_with_len 0 n) a r (rw sub-zero at (Range-gives (record { start = 0; end = n }))) refl ran

-- ---- The parts of a list, as `chunks_exact` hands them out

module _ (w : ℕ) (some : 0 < w) (l : List ℕ) where
  yields : (a n : ℕ) (s : ChunksExact ℕ) → chunks_exact_rest s ≡ drop (a * w) l → chunks_exact_size s ≡ w → length l ≡ (a + n) * w
      → AlwaysYields chunks_exact_steps (λ (x : Bor (List ℕ)). x.now) s (map (λ k. part w k l) (range_with_len a n))
  unfolding part
  yields a zero s rest size long = λ x j e. omega (arith, ap length (sym rest ∙ e.1.0), length-append x.now (chunks_exact_rest j), length-drop (a * w) l, e.1.1)
  yields a (suc n) s rest size long = (
    (λ j e. omega (arith, ap length rest, length-drop (a * w) l, e.1.0, left)),
    λ x j e.
        let whole : drop (a * w) l ≡ x.now ++ chunks_exact_rest j = sym rest ∙ e.1.0 in
        let wide : length x.now ≡ w = e.1.1 ∙ size in
        let next : a * w + w ≡ (a + 1) * w = rw (add-one, suc-mul) refl in (
          sym (ap (take w) whole ∙ take_at x.now (chunks_exact_rest j) w wide),
          yields (a + 1) n j
              (sym (drop_at x.now (chunks_exact_rest j) w wide) ∙ sym (ap (drop w) whole) ∙ drop-drop w (a * w) l ∙ ap (λ (m : ℕ). drop m l) next)
              (e.0 ∙ size)
              (long ∙ ap (λ (m : ℕ). m * w) (omega arith)),
        ),
  )
    where
      left : a * w + w ≤ length l
      left = rw long (room w (omega arith))

  pub YieldsList-from_parts : (n : ℕ) (s : ChunksExact ℕ) → chunks_exact_rest s ≡ l → chunks_exact_size s ≡ w → length l ≡ n * w
      → YieldsList chunks_exact_steps (λ (x : Bor (List ℕ)). x.now) s (map (λ k. part w k l) (range_with_len 0 n))
  YieldsList-from_parts n s rest size long = record { runs = yields 0 n s (rest ∙ rw zero-mul refl) size (long ∙ rw zero-add refl) }

pub chunks_all : (w n : ℕ) (l : List ℕ) (f : List ℕ → Bool) → list_all f (map (λ k. part w k l) (range_with_len 0 n)) ≡ all n (λ k. f (part w k l))
chunks_all w n l f = list_all-map f (λ k. part w k l) (range_with_len 0 n) ∙ all_ranged (λ k. f (part w k l)) n
