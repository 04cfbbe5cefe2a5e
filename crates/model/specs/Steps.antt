-- Document 01's 'Steps' on rows: fresh, update, slice answer, comparison, meeting, superfluous copies. A row is its symbols, greatest
-- first; the rows of a slice, of a record and of a table are functions of the numbers, of which only those below N count.
-- Assumes nothing.
use Rattle.std.specs.Prelude.{Bool, true, false, cond, not, ◌&&◌, ◌||◌, List, [], ◌∷◌, ℕ, zero, suc, ◌+◌, ◌*◌, ◌^◌, eqb}
use Rattle.model.specs.Tests.{any, count, least, head, is_in, keep, earlier}
use Rattle.model.specs.declared.SliceAnswer.{SliceAnswer}
use Rattle.model.specs.declared.SliceAnswer.TheVariants.{Level, Behind, Ahead, Unrelated}
use Rattle.model.specs.declared.Order.{Order}
use Rattle.model.specs.declared.Order.TheVariants.{Equal, Older, Newer, Conflicting}

-- Row k of a slice; row k of slice p of a record; row k of slice p of record c of a table.
abbrev pub Slice : Type 0
Slice = ℕ → List ℕ

abbrev pub Record : Type 0
Record = ℕ → ℕ → List ℕ

abbrev pub Table : Type 0
Table = ℕ → ℕ → ℕ → List ℕ

-- ---- Fresh

-- Every row of every slice is the single symbol 0.
unfoldable pub fresh_rows : Table
fresh_rows c p k = 0 ∷ []

-- ---- Update of copy p

-- Symbol x stands in some row of the slice.
unfoldable pub in_use : ℕ → Slice → ℕ → Bool
in_use n s x = any n (λ k. is_in x (s k))

-- The new symbol is the smallest that stands in no row of the slice. Symbols are 0 to N²−1.
unfoldable pub new_symbol : ℕ → Slice → ℕ
new_symbol n s = least (n * n) (λ x. not (in_use n s x))

-- Symbol x is the head of a row other than p.
unfoldable pub head_of_other : ℕ → ℕ → Slice → ℕ → Bool
head_of_other n p s x = any n (λ k. not (eqb k p) && eqb (head (s k)) x)

-- Row p becomes the new symbol, followed by those symbols of the old row p that are still heads of other rows, in their old order.
unfoldable pub updated_row : ℕ → ℕ → Slice → List ℕ
updated_row n p s = new_symbol n s ∷ keep (head_of_other n p s) (s p)

-- Only slice p of record p changes, and of it only row p.
unfoldable pub updated_slice : ℕ → ℕ → Slice → Slice
updated_slice n p s k = cond (eqb k p) (updated_row n p s) (s k)

unfoldable pub updated_record : ℕ → ℕ → Record → Record
updated_record n p r q k = cond (eqb q p) (updated_slice n p (r p) k) (r q k)

unfoldable pub updated_table : ℕ → ℕ → Table → Table
updated_table n p t c q k = cond (eqb c p) (updated_record n p (t p) q k) (t c q k)

-- ---- Slice answer of a against b

-- From: A = B; A is in b's principal row; B is in a's principal row.
abbrev pub answer_of : Bool → Bool → Bool → SliceAnswer
answer_of true found found_other = Level
answer_of false true false = Behind
answer_of false false true = Ahead
answer_of false true true = Unrelated
answer_of false false false = Unrelated

-- The answer of the principal rows x of a and y of b, whose heads are A and B.
unfoldable pub slice_answer_of : List ℕ → List ℕ → SliceAnswer
slice_answer_of x y = answer_of (eqb (head x) (head y)) (is_in (head x) y) (is_in (head y) x)

-- Slice p of record x with own number a against slice p of record y with own number b.
unfoldable pub answer_at_slice : ℕ → ℕ → Record → Record → ℕ → SliceAnswer
answer_at_slice a b x y p = slice_answer_of (x p a) (y p b)

-- ---- Comparison

abbrev pub is_unrelated : SliceAnswer → Bool
is_unrelated Level = false
is_unrelated Behind = false
is_unrelated Ahead = false
is_unrelated Unrelated = true

abbrev pub is_behind : SliceAnswer → Bool
is_behind Level = false
is_behind Behind = true
is_behind Ahead = false
is_behind Unrelated = false

abbrev pub is_ahead : SliceAnswer → Bool
is_ahead Level = false
is_ahead Behind = false
is_ahead Ahead = true
is_ahead Unrelated = false

-- Some slice of the pair is unrelated.
unfoldable pub unrelated : ℕ → ℕ → ℕ → Record → Record → Bool
unrelated n a b x y = any n (λ p. is_unrelated (answer_at_slice a b x y p))

-- From how many slices are behind and how many ahead: equal if all are level; older if some are behind and none ahead; newer if some
-- are ahead and none behind; conflicting if some are of each.
abbrev pub order_of : ℕ → ℕ → Order
order_of zero zero = Equal
order_of (suc behind) zero = Older
order_of zero (suc ahead) = Newer
order_of (suc behind) (suc ahead) = Conflicting

-- The comparison of a pair with no unrelated slice.
unfoldable pub comparison : ℕ → ℕ → ℕ → Record → Record → Order
comparison n a b x y = order_of (count n (λ p. is_behind (answer_at_slice a b x y p))) (count n (λ p. is_ahead (answer_at_slice a b x y p)))

-- ---- Meeting of a and b, a named first: one slice, with the rows x of a's record and y of b's

-- b wins if a's head is in b's principal row (so b wins a level slice), else a wins.
unfoldable pub b_is_winner : ℕ → ℕ → Slice → Slice → Bool
b_is_winner a b x y = is_in (head (x a)) (y b)

-- The winning principal row W.
unfoldable pub winning_row : ℕ → ℕ → Slice → Slice → List ℕ
winning_row a b x y = cond (b_is_winner a b x y) (y b) (x a)

-- With the loser's head x and the winner's head y: y if x isn't in W, else whichever of x and y stands earlier in W.
unfoldable pub new_head_of : List ℕ → ℕ → ℕ → ℕ
new_head_of w x y = cond (is_in x w) (earlier w x y) y

-- Row k is row a or row b.
unfoldable pub is_named : ℕ → ℕ → ℕ → Bool
is_named a b k = eqb k a || eqb k b

-- New heads: for rows a and b, the head of W. For every other row k, of the loser's head and the winner's.
unfoldable pub new_heads_of : ℕ → ℕ → Slice → Slice → ℕ → ℕ
new_heads_of a b x y k =
    let w : List ℕ = winning_row a b x y in
    cond (is_named a b k) (head w) (cond (b_is_winner a b x y) (new_head_of w (head (x k)) (head (y k))) (new_head_of w (head (y k)) (head (x k))))

-- W cut down to the new heads, order kept.
unfoldable pub cut_row_of : ℕ → ℕ → ℕ → Slice → Slice → List ℕ
cut_row_of n a b x y = keep (λ s. any n (λ k. eqb (new_heads_of a b x y k) s)) (winning_row a b x y)

-- Another row keeps a record's own row if its head didn't change, else takes the other record's row.
unfoldable pub cached_row_of : ℕ → List ℕ → List ℕ → List ℕ
cached_row_of new_head_of own other = cond (eqb (head own) new_head_of) own other

-- Row k after the meeting, in the record whose rows are own; other is the other record's.
unfoldable pub met_row : ℕ → ℕ → ℕ → Slice → Slice → Slice → Slice → Slice
met_row n a b x y own other k = cond (is_named a b k) (cut_row_of n a b x y) (cached_row_of (new_heads_of a b x y k) (own k) (other k))

-- All slices; the first record is (x, y) with own x, the second with own y.
unfoldable pub met_record : ℕ → ℕ → ℕ → Record → Record → Record → Record → Record
met_record n a b x y own other p k = met_row n a b (x p) (y p) (own p) (other p) k

-- Records a and b become their results; other records keep every row.
unfoldable pub met_table : ℕ → ℕ → ℕ → Table → Table
met_table n a b t c p k =
    cond (eqb c a) (met_record n a b (t a) (t b) (t a) (t b) p k)
    (cond (eqb c b) (met_record n a b (t a) (t b) (t b) (t a) p k) (t c p k))

-- ---- Superfluous copies

-- The other copy compares equal to this copy or newer than it: of this copy's order against the other.
abbrev pub is_covered : Order → Bool
is_covered Equal = true
is_covered Older = true
is_covered Newer = false
is_covered Conflicting = false

-- A copy is superfluous if some other copy compares equal to it or newer than it.
unfoldable pub is_superfluous : ℕ → (ℕ → ℕ → Order) → ℕ → Bool
is_superfluous n order i = any n (λ j. not (eqb j i) && is_covered (order i j))

-- A mask with bit i for copy i.
unfoldable pub mask_of : ℕ → (ℕ → Bool) → ℕ
mask_of zero f = 0
mask_of (suc n) f = mask_of n f + cond (f n) (2 ^ n) 0
