-- Reading and writing the rows of one loose record, on the calls: what is read from a well-formed record and written is those bytes;
-- rows that are written and read again are those rows, with length 0 and FF beyond N; the refusals of writing. Assumes of rows passed
-- that they come in their room.
use Rattle.std.specs.Prelude.{◌≡◌, ◌⊎◌, true}
use Rattle.std.proofs.Math.Path.{refl, sym, ap}
use Rattle.std.proofs.Common.{◌∙◌, arith}
use mathlib.Core.List.{List, [], ◌∷◌, ◌++◌}
use Prim.Native.Nat.{ℕ, ◌+◌, ◌*◌, ◌-◌, ◌≤◌, ◌<◌}
use Rattle.std.proofs.Math.ListN.{length, get_or, take, drop, replicate}
use borrow.Author.Tests.{eq-eqb, not-true}
use Rattle.parts.specs.Parts.{part}
use Rattle.model.specs.Tests.{head}
use Rattle.model.specs.Steps.{Record}
use Rattle.model.specs.Answers.{refused, done, accepted}
use Rattle.model.specs.Bytes.{row_size, record_size, unused, own_in, row_in_slice, slice_in, record_rows, record_is_formed}
use Rattle.model.specs.Calls.{record_reasons, most, length_given, cells_given, rows_given, read_gives, row_passed, record_passed, write_reasons, write_says, write_leaves}
use Rattle.model.specs.declared.Rows.{Rows}
use Rattle.facts.specs.Cases.{by_test, clash, fails, true_not, cond_true, cond_false}
use Rattle.laws.specs.Formed.{→is_in_range}
use Rattle.laws.specs.Layout.{RecordFits, length-slice_in, length-row_in_slice}
use Rattle.laws.specs.WellFormed.{WellRecord, record_is_formed→, →record_is_formed}
use Rattle.laws.specs.RoundTrip.{record_fits, row_form, record_form, record_formed}
use Rattle.laws.specs.Reasons.{Ground, ground, SaySame, NoGround, answer-accepted, leave-accepted, no_ground→}
use Rattle.laws.specs.Grounds.{WrongN, WrongLength, wrong_n→, →wrong_n, unequal→, →unequal, right_n}
use Rattle.laws.specs.Refusals.{Ruled, ruled, refused_leaves}
use Rattle.laws.specs.Accepted.{→record_accepted}
use Rattle.laws.specs.Given.{within, beyond, drop_blank, given-cells, given-length, given-passed, given_record, InRoom, passed_size, passed_row, passed-own}

-- ---- A record read and written again

-- What reading gives for a well-formed record.
pub read_gives_lem : (n : ℕ) (r : List ℕ) → WellRecord n r → read_gives r ≡ rows_given n (own_in r) (record_rows n r)
unfolding read_gives
read_gives_lem n r w =
    rw w.copies (leave-accepted (record_reasons r) _ (rows_given n (own_in r) (record_rows n r)) (→record_accepted n r w))

-- Written into a buffer of the right length it is accepted and gives those bytes.
module _ (n : ℕ) (r b : List ℕ) (w : WellRecord n r) (room : length b ≡ record_size n) where
  passed : record_passed (read_gives r) ≡ r
  passed =
      ap record_passed (read_gives_lem n r w)
      ∙ given_record n (own_in r) (record_rows n r) w.most (record_fits (record_formed n r w))
      ∙ record_form n r w

  number : (read_gives r).n ≡ n
  unfolding rows_given
  number = ap (λ (x : Rows). x.n) (read_gives_lem n r w)

  taken : accepted (write_reasons b (read_gives r)) ≡ true
  unfolding write_reasons accepted
  taken =
      rw (passed, number, →is_in_range n w.least w.most, eq-eqb (length b) (record_size n) room, →record_is_formed n r w)

  pub read_write : (write_says b (read_gives r) ≡ done) × (write_leaves b (read_gives r) ≡ r)
  unfolding write_says write_leaves
  read_write = (
    answer-accepted (write_reasons b (read_gives r)) done taken,
    leave-accepted (write_reasons b (read_gives r)) b (record_passed (read_gives r)) taken ∙ passed,
  )

-- ---- Rows written and read again

-- Writing rows: 2, 3 for the buffer, then 4 if the record would not be well formed.
abbrev pub write_grounds : List ℕ → Rows → List Ground
write_grounds b x =
    ground (WrongN x.n) 2
    ∷ ground (WrongLength b (record_size x.n)) 3
    ∷ ground (WellRecord x.n (record_passed x) → ⊥) 4
    ∷ []

module _ (b : List ℕ) (x : Rows) (i : InRoom x) where
  pub write_same : SaySame (write_reasons b x) (write_grounds b x)
  unfolding write_reasons
  write_same = (
    refl,
    wrong_n→ x.n,
    →wrong_n x.n,
    λ r. (
      refl,
      unequal→ (length b) (record_size x.n),
      →unequal (length b) (record_size x.n),
      λ s.
          let n = right_n r in (
            refl,
            (λ t w. clash (→record_is_formed x.n (record_passed x) w) (not-true (record_is_formed x.n (record_passed x)) t)),
            (λ w. true_not (fails (record_is_formed x.n (record_passed x))
                (λ t. w (record_is_formed→ x.n (record_passed x) n.0 n.1 (passed_size x i n.1) t)))),
            λ z. tt,
          ),
    ),
  )

  pub write_ruled : Ruled (write_says b x) done (write_grounds b x)
  unfolding write_says
  write_ruled = ruled (write_reasons b x) (write_grounds b x) done refl write_same

  pub write_refused : (k : ℕ) → write_says b x ≡ refused k → write_leaves b x ≡ b
  unfolding write_says write_leaves
  write_refused k = refused_leaves (write_reasons b x) done b (record_passed x) k refl

  -- What an accepted writing leaves is well formed, with the N and own number passed.
  module _ (e : accepted (write_reasons b x) ≡ true) where
    pub write_leaves_lem : write_leaves b x ≡ record_passed x
    unfolding write_leaves
    write_leaves_lem = leave-accepted (write_reasons b x) b (record_passed x) e

    none : NoGround (write_grounds b x)
    none = no_ground→ (write_reasons b x) (write_grounds b x) write_same e

    range : (2 ≤ x.n) × (x.n ≤ 8)
    range = right_n none.0

    well : WellRecord x.n (record_passed x)
    well =
        by_test (record_is_formed x.n (record_passed x))
        (record_is_formed→ x.n (record_passed x) range.0 range.1 (passed_size x i range.1))
        (λ f. absurd (none.1.1.0 (λ w. clash (→record_is_formed x.n (record_passed x) w) f)))

    pub write_well : WellRecord x.n (write_leaves b x)
    write_well = rw write_leaves_lem well

    again : read_gives (write_leaves b x) ≡ rows_given x.n x.own (record_rows x.n (record_passed x))
    again =
        ap read_gives write_leaves_lem
        ∙ read_gives_lem x.n (record_passed x) well
        ∙ ap (λ (o : ℕ). rows_given x.n o (record_rows x.n (record_passed x))) (passed-own x)

    -- Read again: the same N, the same own number,
    pub write_read_n : (read_gives (write_leaves b x)).n ≡ x.n
    unfolding rows_given
    write_read_n = ap (λ (y : Rows). y.n) again

    pub write_read_own : (read_gives (write_leaves b x)).own ≡ x.own
    unfolding rows_given
    write_read_own = ap (λ (y : Rows). y.own) again

    fits : RecordFits x.n (record_rows x.n (record_passed x))
    fits = record_fits (record_formed x.n (record_passed x) well)

    -- for p and k below N the same row: its length, and the first N cells;
    pub write_read_row : (p k : ℕ) → p < x.n → k < x.n → row_passed (read_gives (write_leaves b x)) p k ≡ row_passed x p k
    unfolding record_rows row_in_slice
    write_read_row p k h l =
        let s : List ℕ = slice_in x.n (record_passed x) p in
        let wide : length (part (row_size x.n) k s) ≡ row_size x.n = length-row_in_slice x.n s k (length-slice_in x.n (record_passed x) p well.size h) l in
        ap (λ (y : Rows). row_passed y p k) again
        ∙ given-passed x.n x.own (record_rows x.n (record_passed x)) range.1 fits p k h l
        ∙ sym (row_form x.n (part (row_size x.n) k s) wide ((well.slice p h).row k l))
        ∙ passed_row x i range.1 p k h l

    pub write_read_length : (p k : ℕ) → p < x.n → k < x.n → get_or (read_gives (write_leaves b x)).lengths (p * most + k) 0 ≡ get_or x.lengths (p * most + k) 0
    unfolding row_passed
    write_read_length p k h l = ap head (write_read_row p k h l)

    pub write_read_cells : (p k : ℕ) → p < x.n → k < x.n
        → take x.n (part most (p * most + k) (read_gives (write_leaves b x)).cells) ≡ take x.n (part most (p * most + k) x.cells)
    unfolding row_passed
    write_read_cells p k h l =
        sym (ap (λ (m : ℕ). take m (part most (p * most + k) (read_gives (write_leaves b x)).cells)) write_read_n) ∙ ap (drop 1) (write_read_row p k h l)

    -- beyond N length 0 and FF, in the slices and rows of the room and in the cells of a row.
    pub write_read_beyond : (p k : ℕ) → p < most → k < most → (x.n ≤ p) ⊎ (x.n ≤ k)
        → (get_or (read_gives (write_leaves b x)).lengths (p * most + k) 0 ≡ 0) × (part most (p * most + k) (read_gives (write_leaves b x)).cells ≡ replicate most unused)
    unfolding length_given cells_given
    write_read_beyond p k h l o =
        let r : Record = record_rows x.n (record_passed x) in (
          ap (λ (y : Rows). get_or y.lengths (p * most + k) 0) again
              ∙ given-length x.n x.own r range.1 fits p k h l
              ∙ cond_false (length (r p k)) 0 (beyond x.n p k o),
          ap (λ (y : Rows). part most (p * most + k) y.cells) again
              ∙ given-cells x.n x.own r range.1 fits p k h l
              ∙ cond_false (r p k ++ replicate (most - length (r p k)) unused) (replicate most unused) (beyond x.n p k o),
        )

    pub write_read_rest : (p k : ℕ) → p < x.n → k < x.n → drop x.n (part most (p * most + k) (read_gives (write_leaves b x)).cells) ≡ replicate (most - x.n) unused
    unfolding cells_given
    write_read_rest p k h l =
        let r : Record = record_rows x.n (record_passed x) in
        let small : x.n ≤ most = range.1 in
        ap (λ (y : Rows). drop x.n (part most (p * most + k) y.cells)) again
        ∙ ap (drop x.n)
        (given-cells x.n x.own r small fits p k (omega arith) (omega arith)
        ∙ cond_true (r p k ++ replicate (most - length (r p k)) unused) (replicate most unused) (within x.n p k h l))
        ∙ drop_blank x.n most (r p k) (fits p h k l) small
