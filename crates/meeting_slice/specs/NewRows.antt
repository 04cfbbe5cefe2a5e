-- One slice of a meeting as code takes it: new heads from the loser's rows and the winner's, new rows as the bytes that are copied; and
-- that these are document 01's. Assumes nothing.
use Rattle.std.specs.Prelude.{◌≡◌, true, false, cond, List, ℕ, ◌≤◌, ◌<◌, length, get_or}
use Rattle.parts.specs.Parts.{join, join_same}
use Rattle.model.specs.Tests.{head}
use Rattle.model.specs.Steps.{Slice, b_is_winner, winning_row, new_head_of, is_named, new_heads_of, cut_row_of, cached_row_of, met_row, met_record}
use Rattle.model.specs.Bytes.{row_bytes, slice_bytes, row_in_slice, slice_in, record_rows}
use Rattle.facts.specs.Cases.{by_test, cond_has}
use Rattle.row.specs.Tab.{tab, get_or-tab, tab_same}
use Rattle.slice.specs.Places.{row_of_length}
use Rattle.pair.specs.Pair.{PairShown}

-- ---- New heads

-- For rows a and b, the head of W. For every other row k, of the loser's head and the winner's.
unfoldable pub head_from : ℕ → ℕ → List ℕ → Slice → Slice → ℕ → ℕ
head_from a b w loser winner k = cond (is_named a b k) (head w) (new_head_of w (head (loser k)) (head (winner k)))

-- These are the new heads: b wins, or a does.
pub heads_b_wins : (n a b : ℕ) (x y : Slice) → b_is_winner a b x y ≡ true → tab n (head_from a b (winning_row a b x y) x y) ≡ tab n (new_heads_of a b x y)
unfolding head_from new_heads_of
heads_b_wins n a b x y e = tab_same n (head_from a b (winning_row a b x y) x y) (new_heads_of a b x y) (λ k. rw e)

pub heads_a_wins : (n a b : ℕ) (x y : Slice) → b_is_winner a b x y ≡ false → tab n (head_from a b (winning_row a b x y) y x) ≡ tab n (new_heads_of a b x y)
unfolding head_from new_heads_of
heads_a_wins n a b x y e = tab_same n (head_from a b (winning_row a b x y) y x) (new_heads_of a b x y) (λ k. rw e)

-- W has a symbol, and at most N.
pub winning_length : {n a b : ℕ} {x y : List ℕ} → PairShown n a b x y → (p : ℕ) → p < n
    → (1 ≤ length (winning_row a b (record_rows n x p) (record_rows n y p))) × (length (winning_row a b (record_rows n x p) (record_rows n y p)) ≤ n)
unfolding winning_row
winning_length {n} {a} {b} {x} {y} shown p less =
    cond_has (λ (w : List ℕ). (1 ≤ length w) × (length w ≤ n)) (b_is_winner a b (record_rows n x p) (record_rows n y p))
    (λ t. row_of_length shown.second p b less shown.second_own)
    (λ t. row_of_length shown.first p a less shown.first_own)

-- ---- New rows

-- The bytes that are copied: the cut row for rows a and b, else one of the two cached rows.
unfoldable pub chosen_row : ℕ → ℕ → ℕ → List ℕ → List ℕ → List ℕ → List ℕ → ℕ → List ℕ
chosen_row n a b own other hs cut k = cond (is_named a b k) cut (row_bytes n (cached_row_of (get_or hs k 0) (row_in_slice n own k) (row_in_slice n other k)))

-- With the new heads and the cut row of slice p of records x and y, the rows copied are document 01's.
pub rows_met : (n a b p : ℕ) (x y own other hs cut : List ℕ) → hs ≡ tab n (new_heads_of a b (record_rows n x p) (record_rows n y p))
    → cut ≡ row_bytes n (cut_row_of n a b (record_rows n x p) (record_rows n y p))
    → join n (chosen_row n a b (slice_in n own p) (slice_in n other p) hs cut)
    ≡ slice_bytes n (met_record n a b (record_rows n x) (record_rows n y) (record_rows n own) (record_rows n other) p)
unfolding chosen_row slice_bytes met_record met_row record_rows
rows_met n a b p x y own other hs cut eh ec =
    join_same n (chosen_row n a b (slice_in n own p) (slice_in n other p) hs cut)
    (λ k. row_bytes n (met_record n a b (record_rows n x) (record_rows n y) (record_rows n own) (record_rows n other) p k)) each
  where
    each : (k : ℕ) → k < n
        → chosen_row n a b (slice_in n own p) (slice_in n other p) hs cut k
        ≡ row_bytes n (met_record n a b (record_rows n x) (record_rows n y) (record_rows n own) (record_rows n other) p k)
    each k less =
        by_test (is_named a b k)
        (λ t. rw (t, ec))
        (λ t. rw (t, eh, get_or-tab n (new_heads_of a b (record_rows n x p) (record_rows n y p)) k less))
