-- The invariant of one slice with primary p: how the rows st a k (row k of record a) and the counters vv a of the unbounded vectors
-- stand to a history; and what it says of heads, of principal rows and of the symbols that the primary's record holds (the last in
-- proofs/Inv.antt). Assumes nothing.
use Rattle.std.specs.Prelude.{◌≡◌, refl, Bool, true, List, ℕ, suc, ◌≤◌, ◌<◌, eqb}
use Rattle.std.proofs.Common.{sym, ap, ◌∙◌, arith, eq-eqb, eqb-true}
use Rattle.model.specs.Tests.{any, head}
use Rattle.facts.specs.Cases.{agree}
use Rattle.facts.specs.Numbers.{any→, →any}
use Rattle.facts.specs.Members.{In}
use Rattle.history.specs.Hist.{Hist, Below, Occurs, own, known, chain, count}
use Rattle.history.specs.Listed.{listed, listed_first, →listed, listed→}
use Rattle.history.specs.Next.{Latest}

-- Value v stands among the values f 0 to f (N−1).
abbrev pub among : ℕ → (ℕ → ℕ) → ℕ → Bool
among N f v = any N (λ k. eqb (f k) v)

-- The vector of event s: the count of the latest event of each copy that s knows of.
abbrev pub vector : (ℕ → ℕ → ℕ) → (ℕ → ℕ) → ℕ → ℕ → ℕ
vector E C s k = C (E s k)

-- The principal row of event s: the symbols of the values in its vector, the greatest first.
abbrev pub row_at : ℕ → (ℕ → ℕ → ℕ) → (ℕ → ℕ) → (ℕ → ℕ) → ℕ → List ℕ
row_at N E C sy s = listed sy (among N (vector E C s)) (suc (C s))

-- Row x, of copy k in a record whose latest event is e, was the principal row of an event of k that e knows of, and has the count of
-- the latest such event.
pub record Cached (N m : ℕ) (E : ℕ → ℕ → ℕ) (C sy : ℕ → ℕ) (x : List ℕ) (e k : ℕ) : Type 0 where
  pub event : ℕ
  pub before : event < m
  pub own : E event k ≡ event
  pub known : event ≤ E e k
  pub same : C event ≡ C (E e k)
  pub row : x ≡ row_at N E C sy event

-- Value v stands in some copy's vector.
abbrev pub Live : ℕ → (ℕ → ℕ → ℕ) → (ℕ → ℕ) → (ℕ → ℕ) → ℕ → Type 0
Live N E C L v = (a : ℕ) × (a < N) × Occurs N E C (L a) v

-- Each principal row is that of the copy's latest event, each cached row an older one with the same count; and no two values in the
-- copies' vectors share a symbol, though values that stand in cached rows alone may.
pub record Inv (N p : ℕ) (st : ℕ → ℕ → List ℕ) (vv : ℕ → ℕ) (m : ℕ) (E : ℕ → ℕ → ℕ) (C L sy : ℕ → ℕ) : Type 0 where
  pub primary : p < N
  pub hist : Hist N p m E C
  pub last : (a : ℕ) → a < N → Latest m E a (L a)
  pub counts : (a : ℕ) → a < N → vv a ≡ C (L a)
  pub principal : (a : ℕ) → a < N → st a a ≡ row_at N E C sy (L a)
  pub cached : (a k : ℕ) → a < N → k < N → Cached N m E C sy (st a k) (L a) k
  pub distinct : (u v : ℕ) → Live N E C L u → Live N E C L v → sy u ≡ sy v → u ≡ v

-- Rows and counters that some history explains: m events so far, what they know and count, the latest event of each copy, and the
-- symbol that each value was given. Only numbers below N count.
pub record Good (N p : ℕ) (st : ℕ → ℕ → List ℕ) (vv : ℕ → ℕ) : Type 0 where
  pub m : ℕ
  pub E : ℕ → ℕ → ℕ
  pub C : ℕ → ℕ
  pub L : ℕ → ℕ
  pub sy : ℕ → ℕ
  pub inv : Inv N p st vv m E C L sy

module _ {N : ℕ} (f : ℕ → ℕ) {v : ℕ} where
  pub among→ : among N f v ≡ true → (k : ℕ) × (k < N) × (f k ≡ v)
  among→ e = let (k, k_n, t) = any→ N (λ k. eqb (f k) v) e in (k, k_n, eqb-true (f k) v t)

  pub →among : (k : ℕ) × (k < N) × (f k ≡ v) → among N f v ≡ true
  →among (k, k_n, e) = →any N (λ k. eqb (f k) v) k k_n (eq-eqb (f k) v e)

-- The row of an event.
module _ {N p m : ℕ} {E : ℕ → ℕ → ℕ} {C : ℕ → ℕ} (sy : ℕ → ℕ) (p_n : p < N) (h : Hist N p m E C) (s : ℕ) (ls : s < m) where
  own-among : among N (vector E C s) (C s) ≡ true
  own-among = →among (vector E C s) (p, p_n, sym (count h s ls))

  head_row : head (row_at N E C sy s) ≡ sy (C s)
  head_row = ap head (listed_first sy (among N (vector E C s)) (C s) own-among)

  pub row→ : (x : ℕ) → In x (row_at N E C sy s) → (v : ℕ) × Occurs N E C s v × (sy v ≡ x)
  row→ x i = let (v, lv, e, q) = listed→ sy (among N (vector E C s)) (suc (C s)) x i in (v, among→ (vector E C s) e, q)

  pub →row : (v : ℕ) → Occurs N E C s v → In (sy v) (row_at N E C sy s)
  →row v (k, k_n, e) =
      →listed sy (among N (vector E C s)) (suc (C s)) v (omega (arith, (known h s k ls).counts)) (→among (vector E C s) (k, k_n, e))

module _ {N p : ℕ} {st : ℕ → ℕ → List ℕ} {vv : ℕ → ℕ} {m : ℕ} {E : ℕ → ℕ → ℕ} {C L sy : ℕ → ℕ} (I : Inv N p st vv m E C L sy) where
  pub lt : (a : ℕ) → a < N → L a < m
  lt a a_n = (I.last a a_n).before

  -- A copy's counter is what it knows of itself.
  pub own_value : (a : ℕ) → a < N → C (E (L a) a) ≡ C (L a)
  own_value a a_n = ap C (I.last a a_n).own

  -- The symbols of live values tell them apart.
  pub symbols_tell : (u v : ℕ) → Live N E C L u → Live N E C L v → eqb (sy u) (sy v) ≡ eqb u v
  symbols_tell u v lu lv =
      agree (eqb (sy u) (sy v)) (eqb u v)
      (λ t. eq-eqb u v (I.distinct u v lu lv (eqb-true (sy u) (sy v) t)))
      (λ t. eq-eqb (sy u) (sy v) (ap sy (eqb-true u v t)))

  -- The head of row k of record a is the symbol of what a's vector has at k.
  pub head_is : (a k : ℕ) → a < N → k < N → head (st a k) ≡ sy (C (E (L a) k))
  head_is a k a_n k_n =
      let c : Cached N m E C sy (st a k) (L a) k = I.cached a k a_n k_n in
      ap head c.row ∙ head_row sy I.primary I.hist c.event c.before ∙ ap sy c.same

  pub principal_head : (a : ℕ) → a < N → head (st a a) ≡ sy (C (L a))
  principal_head a a_n = head_is a a a_n a_n ∙ ap sy (own_value a a_n)

  -- The head of row k of record a stands in b's principal row exactly if its value stands in b's vector.
  pub found→ : (a k b : ℕ) → a < N → k < N → b < N → In (head (st a k)) (st b b) → Occurs N E C (L b) (C (E (L a) k))
  found→ a k b a_n k_n b_n i =
      let (v, o, q) = row→ sy I.primary I.hist (L b) (lt b b_n) (head (st a k)) (rw (I.principal b b_n) at i) in
      rw (I.distinct v (C (E (L a) k)) (b, b_n, o) (a, a_n, (k, k_n, refl)) (q ∙ head_is a k a_n k_n)) at o

  pub →found : (b v : ℕ) → b < N → Occurs N E C (L b) v → In (sy v) (st b b)
  →found b v b_n o = rw (I.principal b b_n) (→row sy I.primary I.hist (L b) (lt b b_n) v o)

  -- No event counts more than the primary does.
  pub top : (s : ℕ) → s < m → C s ≤ C (L p)
  top s ls =
      let pl : Latest m E p (L p) = I.last p I.primary in
      let b : Below E C (E s p) (L p) = chain I.hist p (E s p) (L p) pl.before (own I.hist s p ls) pl.own (pl.last s ls) in
      omega (arith, count I.hist s ls, b.counts)

  -- a's head stands in b's principal row exactly if a counts no more than b.
  pub ahead→ : (a b : ℕ) → a < N → b < N → In (head (st a a)) (st b b) → C (L a) ≤ C (L b)
  ahead→ a b a_n b_n i =
      let (j, j_n, o) = found→ a a b a_n a_n b_n i in
      omega (arith, (known I.hist (L b) j (lt b b_n)).counts, own_value a a_n)
