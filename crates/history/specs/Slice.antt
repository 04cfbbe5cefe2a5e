-- One slice by document 01's definitions: fresh rows and the rows that a meeting leaves keep the invariant (the latter in
-- proofs/Slice.antt). Assumes nothing.
use Rattle.std.specs.Prelude.{◌≡◌, refl, ◌⊎◌, false, List, [], ◌∷◌}
use Rattle.std.proofs.Math.Path.{sym, ap}
use Rattle.std.proofs.Common.{◌∙◌, inl, inr, ⊎_elim, arith}
use Prim.Native.Nat.{ℕ, ◌≤◌, ◌<◌, max}
use borrow.Author.Tests.{eq-eqb, ne_eqb}
use Rattle.model.specs.Tests.{head}
use Rattle.model.specs.Steps.{winning_row, new_head_of, new_heads_of, is_named, cached_row_of}
use Rattle.facts.specs.Cases.{by_eq, cond_true, cond_false}
use Rattle.history.specs.Listed.{listed_first, listed_none}
use Rattle.history.specs.Inv.{Good, row_at, among, →among}

-- Only numbers below N count.
pub good_same :
    {N p : ℕ} {st st' : ℕ → ℕ → List ℕ} {vv vv' : ℕ → ℕ}
    → Good N p st vv
    → ((c k : ℕ) → c < N → k < N → st' c k ≡ st c k)
    → ((c : ℕ) → c < N → vv' c ≡ vv c)
    → Good N p st' vv'
good_same g same counts =
    let I = g.inv in
    record {
      m = g.m;
      E = g.E;
      C = g.C;
      L = g.L;
      sy = g.sy;
      inv =
          record {
            primary = I.primary;
            hist = I.hist;
            last = I.last;
            counts = λ a a_n. counts a a_n ∙ I.counts a a_n;
            principal = λ a a_n. same a a a_n a_n ∙ I.principal a a_n;
            cached = λ a k a_n k_n. rw (same a k a_n k_n) (I.cached a k a_n k_n);
            distinct = I.distinct;
          };
    }

-- ---- Fresh: the event 0, which every copy has

pub fresh_good : (N p : ℕ) → p < N → Good N p (λ c k. 0 ∷ []) (λ c. 0)
fresh_good N p p_n =
    record {
      m = 1;
      E = λ t k. 0;
      C = λ t. 0;
      L = λ a. 0;
      sy = λ v. 0;
      inv =
          record {
            primary = p_n;
            hist = record { start = λ k. refl; event = λ t t0 t1. absurd (omega arith) };
            last = λ a a_n. record { before = omega arith; own = refl; last = λ s ls. omega arith };
            counts = λ a a_n. refl;
            principal = λ a a_n. row;
            cached = λ a k a_n k_n. record { event = 0; before = omega arith; own = refl; known = omega arith; same = refl; row = row };
            distinct = λ u v (a, a_n, (k, k_n, e)) (b, b_n, (j, j_n, f)) q. sym e ∙ f;
          };
    }
  where
    row : 0 ∷ [] ≡ row_at N (λ t k. 0) (λ t. 0) (λ v. 0) 0
    row =
        sym (listed_first (λ v. 0) (among N (λ k. 0)) 0 (→among (λ k. 0) (p, p_n, refl))
        ∙ ap (λ (r : List ℕ). 0 ∷ r) (listed_none (λ v. 0) (among N (λ k. 0))))

-- ---- Meeting of a and b

-- The row that a record keeps or takes has the new head, if one of the two has: all that is asked of the choice.
pub cached_fits :
    (new : ℕ) (own other : List ℕ)
    → (new ≡ head own) ⊎ (new ≡ head other)
    → ((cached_row_of new own other ≡ own) × (head own ≡ new)) ⊎ ((cached_row_of new own other ≡ other) × (head other ≡ new))
unfolding cached_row_of
cached_fits new own other e =
    by_eq (head own) new
    (λ q. inl (cond_true own other (eq-eqb (head own) new q), q))
    (λ ne. inr (cond_false own other (ne_eqb (head own) new ne), ⊎_elim (λ q. absurd (ne (sym q))) sym e))

-- Who won and who lost, and what the model reads of them.
pub record Roles (N a b : ℕ) (st : ℕ → ℕ → List ℕ) (vv : ℕ → ℕ) : Type 0 where
  pub w : ℕ
  pub l : ℕ
  pub w_n : w < N
  pub l_n : l < N
  pub named : (k : ℕ) → is_named a b k ≡ is_named w l k
  pub less : vv l ≤ vv w
  pub most : max (vv a) (vv b) ≡ vv w
  pub row : winning_row a b (st a) (st b) ≡ st w w
  pub rest : (k : ℕ) → is_named a b k ≡ false → new_heads_of a b (st a) (st b) k ≡ new_head_of (st w w) (head (st l k)) (head (st w k))
