-- A meeting keeps well-formedness, on rows: what a meeting's rows are, that every new head stands in W and every new row has its new
-- head, and that the two records and the table are formed again, forged ones included. For every N. Assumes nothing.
use Rattle.std.specs.Prelude.{◌≡◌, refl, ◌⊎◌, Bool, true, false, cond, List, ℕ, ◌<◌}
use Rattle.std.proofs.Math.Path.{sym, ap}
use Rattle.std.proofs.Common.{◌∙◌, ⊎_elim, arith}
use Rattle.std.proofs.Math.Logic.{inl, inr}
use Rattle.std.proofs.Math.Dec.{eqb}
use borrow.Author.Tests.{eq-eqb, ne_eqb, eqb-true, eqb-false}
use Rattle.model.specs.Tests.{any, head, is_in, earlier}
use Rattle.model.specs.Steps.{Slice, Record, Table, b_is_winner, winning_row, new_head_of, is_named, new_heads_of, cut_row_of, cached_row_of, met_row, met_record, met_table}
use Rattle.facts.specs.Cases.{by_eq, by_test, either→, →either, →neither}
use Rattle.facts.specs.Numbers.{any→, →any}
use Rattle.facts.specs.Members.{In, head_in, in_long}
use Rattle.facts.specs.Keeping.{keep→, →keep, keep-different, keep-length, keep-head, earlier_either, earlier_in}
use Rattle.laws.specs.Formed.{FormedRow, FormedSlice, FormedRecord, FormedTable, formed_record_same}

-- Row k is row a or row b.
pub is_named→ : (a b k : ℕ) → is_named a b k ≡ true → (k ≡ a) ⊎ (k ≡ b)
unfolding is_named
is_named→ a b k e = ⊎_elim (λ t. inl (eqb-true k a t)) (λ t. inr (eqb-true k b t)) (either→ (eqb k a) (eqb k b) e)

pub →is_named : (a b k : ℕ) → (k ≡ a) ⊎ (k ≡ b) → is_named a b k ≡ true
unfolding is_named
→is_named a b k w = →either (eqb k a) (eqb k b) (⊎_elim (λ e. inl (eq-eqb k a e)) (λ e. inr (eq-eqb k b e)) w)

pub →not_named : (a b k : ℕ) → (k ≡ a → ⊥) → (k ≡ b → ⊥) → is_named a b k ≡ false
unfolding is_named
→not_named a b k na nb = →neither (ne_eqb k a na) (ne_eqb k b nb)

-- A new head is the head of W for rows a and b; for another row, of the loser's head and the winner's.
pub new_heads_of_named : (a b : ℕ) (x y : Slice) (k : ℕ) → is_named a b k ≡ true → new_heads_of a b x y k ≡ head (winning_row a b x y)
unfolding new_heads_of
new_heads_of_named a b x y k e = rw e

-- A new head is one of the two heads, and stands in W where the winner's head does.
pub new_head_of_either : (w : List ℕ) (x y : ℕ) → (new_head_of w x y ≡ x) ⊎ (new_head_of w x y ≡ y)
unfolding new_head_of
new_head_of_either w x y = go (is_in x w)
  where
    go : (t : Bool) → (cond t (earlier w x y) y ≡ x) ⊎ (cond t (earlier w x y) y ≡ y)
    go true = earlier_either w x y
    go false = inr refl

pub new_head_of_in : (w : List ℕ) (x y : ℕ) → In y w → In (new_head_of w x y) w
unfolding new_head_of
new_head_of_in w x y i = go (is_in x w)
  where
    go : (t : Bool) → In (cond t (earlier w x y) y) w
    go true = earlier_in w x y (inr i)
    go false = i

pub new_heads_of_either : (a b : ℕ) (x y : Slice) (k : ℕ) → is_named a b k ≡ false → (new_heads_of a b x y k ≡ head (x k)) ⊎ (new_heads_of a b x y k ≡ head (y k))
unfolding new_heads_of
new_heads_of_either a b x y k e = rw e (go (b_is_winner a b x y))
  where
    go : (t : Bool)
        → (cond t (new_head_of (winning_row a b x y) (head (x k)) (head (y k))) (new_head_of (winning_row a b x y) (head (y k)) (head (x k))) ≡ head (x k))
        ⊎ (cond t (new_head_of (winning_row a b x y) (head (x k)) (head (y k))) (new_head_of (winning_row a b x y) (head (y k)) (head (x k))) ≡ head (y k))
    go true = new_head_of_either (winning_row a b x y) (head (x k)) (head (y k))
    go false = ⊎_elim inr inl (new_head_of_either (winning_row a b x y) (head (y k)) (head (x k)))

-- W is a's principal row or b's.
pub winning_either : (a b : ℕ) (x y : Slice) → ((b_is_winner a b x y ≡ true) × (winning_row a b x y ≡ y b)) ⊎ ((b_is_winner a b x y ≡ false) × (winning_row a b x y ≡ x a))
unfolding winning_row
winning_either a b x y = by_test (b_is_winner a b x y) (λ t. inl (t, rw t)) (λ t. inr (t, rw t))

module _ (n a b : ℕ) (x y : Slice) (ha : a < n) (hb : b < n) (fx : FormedSlice n a x) (fy : FormedSlice n b y) where
  winning_formed : FormedRow n (winning_row a b x y)
  winning_formed = ⊎_elim (λ w. rw w.1 (fy.row b hb)) (λ w. rw w.1 (fx.row a ha)) (winning_either a b x y)

  -- Every new head stands in W.
  pub new_heads_of_in : (k : ℕ) → k < n → In (new_heads_of a b x y k) (winning_row a b x y)
  unfolding new_heads_of
  new_heads_of_in k l =
      by_test (is_named a b k)
      (λ t. rw t (head_in (winning_row a b x y) winning_formed.filled))
      (λ t. rw t
      (⊎_elim
      (λ w. rw w.0 (new_head_of_in (winning_row a b x y) (head (x k)) (head (y k)) (rw w.1 ((fy.principal (head (y k))).1 (k, l, refl)))))
      (λ w. rw w.0 (new_head_of_in (winning_row a b x y) (head (y k)) (head (x k)) (rw w.1 ((fx.principal (head (x k))).1 (k, l, refl)))))
      (winning_either a b x y)))

  -- The cut row holds exactly the new heads.
  pub cut→ : (v : ℕ) → In v (cut_row_of n a b x y) → (k : ℕ) × (k < n) × (new_heads_of a b x y k ≡ v)
  unfolding cut_row_of
  cut→ v i =
      let w = any→ n (λ k. eqb (new_heads_of a b x y k) v) (keep→ (λ s. any n (λ k. eqb (new_heads_of a b x y k) s)) v (winning_row a b x y) i).1 in
      (w.0, w.1, eqb-true (new_heads_of a b x y w.0) v w.2)

  new_is : (k : ℕ) → k < n → any n (λ j. eqb (new_heads_of a b x y j) (new_heads_of a b x y k)) ≡ true
  new_is k l = →any n (λ j. eqb (new_heads_of a b x y j) (new_heads_of a b x y k)) k l (eq-eqb (new_heads_of a b x y k) (new_heads_of a b x y k) refl)

  pub →cut : (k : ℕ) → k < n → In (new_heads_of a b x y k) (cut_row_of n a b x y)
  unfolding cut_row_of
  →cut k l = →keep (λ s. any n (λ k. eqb (new_heads_of a b x y k) s)) (new_heads_of a b x y k) (winning_row a b x y) (new_heads_of_in k l) (new_is k l)

  pub cut_formed : FormedRow n (cut_row_of n a b x y)
  unfolding cut_row_of
  cut_formed =
      record {
        filled = in_long (new_heads_of a b x y a) (cut_row_of n a b x y) (→cut a ha);
        fits = (let k = keep-length (λ s. any n (λ k. eqb (new_heads_of a b x y k) s)) (winning_row a b x y) in let w = winning_formed.fits in omega arith);
        below = λ v i. winning_formed.below v (keep→ (λ s. any n (λ k. eqb (new_heads_of a b x y k) s)) v (winning_row a b x y) i).0;
        differ = keep-different (λ s. any n (λ k. eqb (new_heads_of a b x y k) s)) (winning_row a b x y) winning_formed.differ;
      }

  -- Its head is the head of W.
  pub cut_head : head (cut_row_of n a b x y) ≡ head (winning_row a b x y)
  unfolding cut_row_of
  cut_head =
      let e : new_heads_of a b x y a ≡ head (winning_row a b x y) = new_heads_of_named a b x y a (→is_named a b a (inl refl)) in
      keep-head (λ s. any n (λ k. eqb (new_heads_of a b x y k) s)) (winning_row a b x y) (rw e at (new_is a ha)) winning_formed.filled

  -- In either record: own is its rows, other the other's.
  module _ (c : ℕ) (own other : Slice) (named : (c ≡ a) ⊎ (c ≡ b))
      (sides : (k : ℕ) → ((own k ≡ x k) × (other k ≡ y k)) ⊎ ((own k ≡ y k) × (other k ≡ x k))) where
    met_named : (k : ℕ) → is_named a b k ≡ true → met_row n a b x y own other k ≡ cut_row_of n a b x y
    unfolding met_row
    met_named k e = rw e

    met_rest : (k : ℕ) → is_named a b k ≡ false → met_row n a b x y own other k ≡ cached_row_of (new_heads_of a b x y k) (own k) (other k)
    unfolding met_row
    met_rest k e = rw e

    own_formed : (k : ℕ) → k < n → FormedRow n (own k)
    own_formed k l = ⊎_elim (λ w. rw w.0 (fx.row k l)) (λ w. rw w.0 (fy.row k l)) (sides k)

    other_formed : (k : ℕ) → k < n → FormedRow n (other k)
    other_formed k l = ⊎_elim (λ w. rw w.1 (fy.row k l)) (λ w. rw w.1 (fx.row k l)) (sides k)

    -- A cached row has the new head, whichever record it comes from.
    either_head : (k : ℕ) → is_named a b k ≡ false → (new_heads_of a b x y k ≡ head (own k)) ⊎ (new_heads_of a b x y k ≡ head (other k))
    either_head k e =
        ⊎_elim
        (λ w. ⊎_elim (λ q. inl (q ∙ ap head (sym w.0))) (λ q. inr (q ∙ ap head (sym w.1))) (new_heads_of_either a b x y k e))
        (λ w. ⊎_elim (λ q. inr (q ∙ ap head (sym w.1))) (λ q. inl (q ∙ ap head (sym w.0))) (new_heads_of_either a b x y k e))
        (sides k)

    -- Every row has its new head.
    pub met-head : (k : ℕ) → head (met_row n a b x y own other k) ≡ new_heads_of a b x y k
    unfolding cached_row_of
    met-head k =
        by_test (is_named a b k)
        (λ t. ap head (met_named k t) ∙ cut_head ∙ sym (new_heads_of_named a b x y k t))
        (λ t. ap head (met_rest k t)
        ∙ by_test (eqb (head (own k)) (new_heads_of a b x y k))
        (λ q. rw q (eqb-true (head (own k)) (new_heads_of a b x y k) q))
        (λ q. rw q (⊎_elim (λ e. absurd (eqb-false (head (own k)) (new_heads_of a b x y k) q (sym e))) (λ e. sym e) (either_head k t))))

    met_row_lem : (k : ℕ) → k < n → FormedRow n (met_row n a b x y own other k)
    unfolding cached_row_of
    met_row_lem k l =
        by_test (is_named a b k)
        (λ t. rw (met_named k t) cut_formed)
        (λ t. rw (met_rest k t)
        (by_test (eqb (head (own k)) (new_heads_of a b x y k)) (λ q. rw q (own_formed k l)) (λ q. rw q (other_formed k l))))

    pub met_slice_kept : FormedSlice n c (met_row n a b x y own other)
    met_slice_kept =
        record {
          row = met_row_lem;
          principal = λ v. (
            λ i. (let w = cut→ v (rw (met_named c (→is_named a b c named)) at i) in (w.0, w.1, met-head w.0 ∙ w.2)),
            λ w. rw (met_named c (→is_named a b c named)) (rw (sym (met-head w.0) ∙ w.2) at (→cut w.0 w.1)),
          );
        }

module _ (n a b : ℕ) (x y : Record) (ha : a < n) (hb : b < n) (fx : FormedRecord n a x) (fy : FormedRecord n b y) where
  pub met_first_kept : FormedRecord n a (met_record n a b x y x y)
  unfolding met_record
  met_first_kept =
      record {
        slice = λ p l.
            met_slice_kept n a b (x p) (y p) ha hb (fx.slice p l) (fy.slice p l) a (x p) (y p) (inl refl) (λ k. inl (refl, refl));
      }

  pub met_second_kept : FormedRecord n b (met_record n a b x y y x)
  unfolding met_record
  met_second_kept =
      record {
        slice = λ p l.
            met_slice_kept n a b (x p) (y p) ha hb (fx.slice p l) (fy.slice p l) b (y p) (x p) (inr refl) (λ k. inr (refl, refl));
      }

-- Records a and b become their results; other records keep every row.
pub met_table_first : (n a b : ℕ) (t : Table) (p k : ℕ) → met_table n a b t a p k ≡ met_record n a b (t a) (t b) (t a) (t b) p k
unfolding met_table
met_table_first n a b t p k = rw (eq-eqb a a refl)

pub met_table_second : (n a b : ℕ) (t : Table) (p k : ℕ) → (b ≡ a → ⊥) → met_table n a b t b p k ≡ met_record n a b (t a) (t b) (t b) (t a) p k
unfolding met_table
met_table_second n a b t p k ne = rw (ne_eqb b a ne, eq-eqb b b refl)

pub met_table-other : (n a b : ℕ) (t : Table) (c p k : ℕ) → (c ≡ a → ⊥) → (c ≡ b → ⊥) → met_table n a b t c p k ≡ t c p k
unfolding met_table
met_table-other n a b t c p k na nb = rw (ne_eqb c a na, ne_eqb c b nb)

pub meet-kept : (n a b : ℕ) (t : Table) → a < n → b < n → FormedTable n t → FormedTable n (met_table n a b t)
meet-kept n a b t ha hb f = record { copy = copy }
  where
    copy : (c : ℕ) → c < n → FormedRecord n c (met_table n a b t c)
    copy c l =
        by_eq c a
        (λ e. rw e (formed_record_same ha (λ p k u v. sym (met_table_first n a b t p k)) (met_first_kept n a b (t a) (t b) ha hb (f.copy a ha) (f.copy b hb))))
        (λ na. by_eq c b
        (λ e. rw e
        (formed_record_same hb (λ p k u v. sym (met_table_second n a b t p k (λ q. na (e ∙ q))))
        (met_second_kept n a b (t a) (t b) ha hb (f.copy a ha) (f.copy b hb))))
        (λ nb. formed_record_same l (λ p k u v. sym (met_table-other n a b t c p k na nb)) (f.copy c l)))
