-- One slice by document 01's definitions: the rows that a meeting leaves keep the invariant. Assumes nothing.
use Rattle.std.specs.Prelude.{◌≡◌, refl, ◌⊎◌, false, List, eqb}
use Rattle.std.proofs.Math.Path.{sym, ap}
use Rattle.std.proofs.Common.{◌∙◌, inl, inr, ⊎_elim, arith}
use Rattle.std.proofs.Math.Logic.{⊎_swap}
use Rattle.std.proofs.Math.Bool.{true, or_comm}
use Prim.Native.Nat.{ℕ, ◌≤◌, ◌<◌, max}
use borrow.Author.Tests.{leb-true, leb-false}
use Rattle.model.specs.Tests.{head, is_in, keep}
use Rattle.model.specs.Steps.{b_is_winner, winning_row, new_heads_of, is_named, cut_row_of, cached_row_of, met_row}
use Rattle.facts.specs.Cases.{by_test, cond_true, cond_false}
use Rattle.laws.specs.MeetingKept.{→is_named, new_heads_of_named, new_heads_of_either}
use Rattle.history.specs.Next.{either_named}
use Rattle.history.specs.Inv.{Good, among}
use Rattle.history.specs.Slice.{cached_fits, Roles}
use Rattle.history.proofs.Meet.{meet_good}
use Rattle.history.proofs.Answer.{found_is}

module _ {N p a b : ℕ} {st : ℕ → ℕ → List ℕ} {vv : ℕ → ℕ} (g : Good N p st vv) (a_n : a < N) (b_n : b < N) where
  roles : Roles N a b st vv
  unfolding b_is_winner winning_row new_heads_of is_named
  roles = by_test (is_in (head (st a a)) (st b b)) b_wins a_wins
    where
      b_wins : is_in (head (st a a)) (st b b) ≡ true → Roles N a b st vv
      b_wins t =
          let le : vv a ≤ vv b = leb-true (vv a) (vv b) (sym (found_is g a b a_n b_n) ∙ t) in
          record {
            w = b;
            l = a;
            w_n = b_n;
            l_n = a_n;
            named = λ k. or_comm (eqb k a) (eqb k b);
            less = le;
            most = omega arith;
            row = rw t;
            rest = λ k e. rw (e, t);
          }

      a_wins : is_in (head (st a a)) (st b b) ≡ false → Roles N a b st vv
      a_wins t =
          let le : vv b < vv a = leb-false (vv a) (vv b) (sym (found_is g a b a_n b_n) ∙ t) in
          record {
            w = a;
            l = b;
            w_n = a_n;
            l_n = b_n;
            named = λ k. refl;
            less = omega arith;
            most = omega arith;
            row = rw t;
            rest = λ k e. rw (e, t);
          }

  -- The rows of the two records after the meeting, those of the others, and the counters.
  module _
      {st' : ℕ → ℕ → List ℕ} {vv' : ℕ → ℕ}
      (first : (k : ℕ) → k < N → st' a k ≡ met_row N a b (st a) (st b) (st a) (st b) k)
      (second : (k : ℕ) → k < N → st' b k ≡ met_row N a b (st a) (st b) (st b) (st a) k)
      (other : (c k : ℕ) → is_named a b c ≡ false → c < N → k < N → st' c k ≡ st c k)
      (counted : (c : ℕ) → is_named a b c ≡ true → c < N → vv' c ≡ max (vv a) (vv b))
      (uncounted : (c : ℕ) → is_named a b c ≡ false → c < N → vv' c ≡ vv c) where
    cut : (c k : ℕ) → is_named a b c ≡ true → is_named a b k ≡ true → st' c k ≡ cut_row_of N a b (st a) (st b)
    unfolding met_row
    cut c k n m =
        let k_n : k < N = either_named (λ k. k < N) a b a_n b_n k m in
        either_named (λ c. st' c k ≡ cut_row_of N a b (st a) (st b)) a b
        (first k k_n ∙ cond_true (cut_row_of N a b (st a) (st b)) (cached_row_of (new_heads_of a b (st a) (st b) k) (st a k) (st b k)) m)
        (second k k_n ∙ cond_true (cut_row_of N a b (st a) (st b)) (cached_row_of (new_heads_of a b (st a) (st b) k) (st b k) (st a k)) m)
        c n

    Fits : ℕ → ℕ → Type 0
    Fits c k = (d : ℕ) × (is_named a b d ≡ true) × (st' c k ≡ st d k) × (head (st d k) ≡ new_heads_of a b (st a) (st b) k)

    fits : (c k : ℕ) → is_named a b c ≡ true → is_named a b k ≡ false → k < N → Fits c k
    unfolding met_row Fits
    fits c k n m k_n =
        either_named (λ c. Fits c k) a b
        (one a a b (→is_named a b a (inl refl)) (→is_named a b b (inr refl)) (new_heads_of_either a b (st a) (st b) k m)
        (first k k_n ∙ cond_false (cut_row_of N a b (st a) (st b)) (cached_row_of (new_heads_of a b (st a) (st b) k) (st a k) (st b k)) m))
        (one b b a (→is_named a b b (inr refl)) (→is_named a b a (inl refl)) (⊎_swap (new_heads_of_either a b (st a) (st b) k m))
        (second k k_n ∙ cond_false (cut_row_of N a b (st a) (st b)) (cached_row_of (new_heads_of a b (st a) (st b) k) (st b k) (st a k)) m))
        c n
      where
        nh : ℕ
        nh = new_heads_of a b (st a) (st b) k

        one :
            (c own oth : ℕ)
            → is_named a b own ≡ true
            → is_named a b oth ≡ true
            → (nh ≡ head (st own k)) ⊎ (nh ≡ head (st oth k))
            → st' c k ≡ cached_row_of nh (st own k) (st oth k)
            → Fits c k
        one c own oth n₁ n₂ e q =
            ⊎_elim
            (λ (r, h). (own, n₁, q ∙ r, h))
            (λ (r, h). (oth, n₂, q ∙ r, h))
            (cached_fits nh (st own k) (st oth k) e)

    pub met_good : Good N p st' vv'
    unfolding cut_row_of Fits
    met_good =
        let r = roles in
        meet_good {nh = new_heads_of a b (st a) (st b)} g r.w_n r.l_n r.less
        record {
          top = λ k n. new_heads_of_named a b (st a) (st b) k (r.named k ∙ n) ∙ ap head r.row;
          rest = λ k n k_n. r.rest k (r.named k ∙ n);
          cut = λ c k n m. cut c k (r.named c ∙ n) (r.named k ∙ m) ∙ ap (keep (among N (new_heads_of a b (st a) (st b)))) r.row;
          fits = λ c k n m k_n.
              let (d, nd, e, h) = fits c k (r.named c ∙ n) (r.named k ∙ m) k_n in
              (d, sym (r.named d) ∙ nd, e, h);
          other = λ c k n. other c k (r.named c ∙ n);
        }
        (λ c n c_n. counted c (r.named c ∙ n) c_n ∙ r.most)
        (λ c n. uncounted c (r.named c ∙ n))
