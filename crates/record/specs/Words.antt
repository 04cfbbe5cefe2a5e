-- The principal set by two words of 64 bits: the heads of all rows of a slice and the symbols of its principal row are the same set
-- exactly if their words are equal. Assumes nothing.
use Rattle.std.specs.Prelude.{◌≡◌, refl, Bool, true, false, cond, ◌||◌, List, [], ◌∷◌, ℕ, zero, suc, ◌*◌, ◌/◌, ◌%◌, ◌^◌, ◌<◌, eqb}
use Rattle.std.proofs.Common.{sym, ap, ◌∙◌, inl, inr, pow-suc, mul_comm, arith, lit<, eqb-true, eq-eqb}
use Rattle.std.proofs.Math.Nat.{div-div-eq-div-mul, zero-div}
use Rattle.std.specs.Int.Bits.{bit_or}
use Rattle.model.specs.Tests.{any, head, is_in}
use Rattle.model.specs.Steps.{Slice}
use Rattle.model.specs.Bytes.{principal_is_formed}
use Rattle.facts.specs.Cases.{agree}
use Rattle.facts.specs.Numbers.{any→, →any}
use Rattle.facts.specs.Members.{is_in→, →is_in}
use Rattle.laws.specs.Formed.{principal_is_formed→, →principal_is_formed}
use Rattle.symbols.specs.Marks.{digit, marks, Below}
use Rattle.symbols.proofs.Digits.{digit_mark, digit-marks, mark_fits}

-- The word with the bit of the head of each row below n set.
unfoldable pub head_marks : ℕ → Slice → ℕ
head_marks zero s = 0
head_marks (suc n) s = bit_or (head_marks n s) (2 ^ head (s n))

-- ---- Their digits, and that they fit

digit_heads : (n : ℕ) (s : Slice) (x : ℕ) → digit (head_marks n s) x ≡ cond (any n (λ k. eqb (head (s k)) x)) 1 0
unfolding head_marks any
digit_heads zero s x = rw (zero-div (2 ^ x))
digit_heads (suc n) s x =
    digit_mark (head_marks n s) (head (s n)) x
    ∙ rw (digit_heads n s x) (go (any n (λ k. eqb (head (s k)) x)) (eqb (head (s n)) x))
  where
    go : (a b : Bool) → ◌≡◌ {A = ℕ} (cond b 1 (cond a 1 0)) (cond (a || b) 1 0)
    go true true = refl
    go true false = refl
    go false true = refl
    go false false = refl

digit_symbols : (l : List ℕ) (x : ℕ) → digit (marks 0 l) x ≡ cond (is_in x l) 1 0
digit_symbols l x = digit-marks 0 l x ∙ rw (zero-div (2 ^ x))

heads_fit : (n : ℕ) (s : Slice) → ((k : ℕ) → k < n → head (s k) < 64) → head_marks n s < 2 ^ 64
unfolding head_marks
heads_fit zero s h = lit< tt
heads_fit (suc n) s h = mark_fits (head_marks n s) (head (s n)) (heads_fit n s (λ k l. h k (omega arith))) (h n (omega arith))

marks_fit : (w : ℕ) (l : List ℕ) → w < 2 ^ 64 → Below 64 l → marks w l < 2 ^ 64
unfolding marks
marks_fit w [] f h = f
marks_fit w (x ∷ l) f h = marks_fit (bit_or w (2 ^ x)) l (mark_fits w x f (h x (inl refl))) (λ y i. h y (inr i))

-- ---- Words with the same digits are the same

half : (w x : ℕ) → digit (w / 2) x ≡ digit w (suc x)
half w x = ap (λ (m : ℕ). m % 2) (div-div-eq-div-mul w 2 (2 ^ x) ∙ ap (λ (m : ℕ). w / m) (mul_comm 2 (2 ^ x) ∙ sym (pow-suc 2 x)))

digits_same : (k w v : ℕ) → w < 2 ^ k → v < 2 ^ k → ((x : ℕ) → digit w x ≡ digit v x) → w ≡ v
digits_same zero w v hw hv e = omega arith
digits_same (suc k) w v hw hv e =
    let p : 2 ^ suc k ≡ 2 ^ k * 2 = pow-suc 2 k in
    let high : w / 2 ≡ v / 2 = digits_same k (w / 2) (v / 2) (omega arith) (omega arith) (λ x. half w x ∙ e (suc x) ∙ sym (half v x)) in
    let low : w / 1 % 2 ≡ v / 1 % 2 = e 0 in
    omega arith

-- ---- The principal set

same_test : (a b : Bool) → ◌≡◌ {A = ℕ} (cond a 1 0) (cond b 1 0) → a ≡ b
same_test true true e = refl
same_test true false e = absurd (omega arith)
same_test false true e = absurd (omega arith)
same_test false false e = refl

module _ (n own : ℕ) (s : Slice) where
  -- Symbol x is a head exactly if it stands in the principal row: as tests.
  abbrev SameSet : Type 0
  SameSet = (x : ℕ) → any n (λ k. eqb (head (s k)) x) ≡ is_in x (s own)

  set→ : principal_is_formed n own s ≡ true → SameSet
  set→ e x =
      let p = principal_is_formed→ n own s e x in
      agree (any n (λ k. eqb (head (s k)) x)) (is_in x (s own))
      (λ t. let a = any→ n (λ k. eqb (head (s k)) x) t in →is_in x (s own) (p.1 (a.0, a.1, eqb-true (head (s a.0)) x a.2)))
      (λ t. let a = p.0 (is_in→ x (s own) t) in →any n (λ k. eqb (head (s k)) x) a.0 a.1 (eq-eqb (head (s a.0)) x a.2))

  →set : SameSet → principal_is_formed n own s ≡ true
  →set same =
      →principal_is_formed n own s λ x. (
        λ i. (let a = any→ n (λ k. eqb (head (s k)) x) (same x ∙ →is_in x (s own) i) in (a.0, a.1, eqb-true (head (s a.0)) x a.2)),
        λ a. is_in→ x (s own) (sym (same x) ∙ →any n (λ k. eqb (head (s k)) x) a.0 a.1 (eq-eqb (head (s a.0)) x a.2)),
      )

  pub principal_words : ((k : ℕ) → k < n → head (s k) < 64) → Below 64 (s own)
      → eqb (head_marks n s) (marks 0 (s own)) ≡ principal_is_formed n own s
  principal_words heads symbols =
      agree (eqb (head_marks n s) (marks 0 (s own))) (principal_is_formed n own s)
      (λ e. let w = eqb-true (head_marks n s) (marks 0 (s own)) e in
      →set λ x. same_test (any n (λ k. eqb (head (s k)) x)) (is_in x (s own))
      (sym (digit_heads n s x) ∙ ap (λ (m : ℕ). digit m x) w ∙ digit_symbols (s own) x))
      (λ e. eq-eqb (head_marks n s) (marks 0 (s own))
      (digits_same 64 (head_marks n s) (marks 0 (s own)) (heads_fit n s heads) (marks_fit 0 (s own) (lit< tt) symbols)
      (λ x. digit_heads n s x ∙ ap (λ (b : Bool). cond b 1 0) (set→ e x) ∙ sym (digit_symbols (s own) x))))
