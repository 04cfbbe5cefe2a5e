-- Every call of document 01 with what it is given, as one type; and by cases on it what the call says, the buffers that were lent to be
-- written and their bytes afterwards (the model's outcome definitions), and its rows of the refusal table in its order. Assumes
-- nothing.
use Rattle.std.specs.Prelude.{List, [], ◌∷◌, ℕ}
use Rattle.std.specs.Int.Count.{ones}
use Rattle.model.specs.Steps.{comparison}
use Rattle.model.specs.Answers.{Said, done, ordered, listed, number_of_order}
use Rattle.model.specs.Bytes.{copies_in, own_in, record_rows}
use Rattle.model.specs.Calls.{fresh_says, fresh_leaves, check_says, update_says, update_leaves, meet_says, meet_leaves, copy_order, compare_says, lend_says, superfluous_mask_of, superfluous_says, check_record_says, meet_records_says, meet_records_leaves_first, meet_records_leaves_second, compare_records_says, read_says, write_says, write_leaves}
use Rattle.model.specs.declared.Rows.{Rows}
use Rattle.laws.specs.Reasons.{Ground}
use Rattle.laws.specs.Grounds.{record_grounds, table_grounds, fresh_grounds, copy_grounds, meet_grounds, compare_grounds, superfluous_grounds, pair_grounds}
use Rattle.laws.specs.Given.{InRoom}
use Rattle.laws.specs.ReadWrite.{write_grounds}

pub data Asked : Type 0 where
  -- a table: the buffer and the numbers
  fresh : List ℕ → ℕ → Asked
  check : List ℕ → Asked
  update : List ℕ → ℕ → Asked
  meet : List ℕ → ℕ → ℕ → Asked
  compare : List ℕ → ℕ → ℕ → Asked
  lend : List ℕ → ℕ → Asked
  superfluous : List ℕ → Asked
  -- one loose record, and two
  check_record : List ℕ → Asked
  compare_records : List ℕ → List ℕ → Asked
  meet_records : List ℕ → List ℕ → Asked
  -- rows of one loose record
  read_rows : List ℕ → Asked
  write_rows : List ℕ → Rows → Asked

-- Rows to be written come in their room, 64 lengths and 512 cells: their type says so.
abbrev pub Roomy : Asked → Type 0
Roomy (fresh t n) = Unit {0}
Roomy (check t) = Unit {0}
Roomy (update t p) = Unit {0}
Roomy (meet t a b) = Unit {0}
Roomy (compare t a b) = Unit {0}
Roomy (lend t i) = Unit {0}
Roomy (superfluous t) = Unit {0}
Roomy (check_record r) = Unit {0}
Roomy (compare_records a b) = Unit {0}
Roomy (meet_records a b) = Unit {0}
Roomy (read_rows r) = Unit {0}
Roomy (write_rows b x) = InRoom x

-- What the call says.
abbrev pub says_of : Asked → Said
says_of (fresh t n) = fresh_says t n
says_of (check t) = check_says t
says_of (update t p) = update_says t p
says_of (meet t a b) = meet_says t a b
says_of (compare t a b) = compare_says t a b
says_of (lend t i) = lend_says t i
says_of (superfluous t) = superfluous_says t
says_of (check_record r) = check_record_says r
says_of (compare_records a b) = compare_records_says a b
says_of (meet_records a b) = meet_records_says a b
says_of (read_rows r) = read_says r
says_of (write_rows b x) = write_says b x

-- What it says where it is not refused.
abbrev pub own_of : Asked → Said
own_of (fresh t n) = done
own_of (check t) = done
own_of (update t p) = done
own_of (meet t a b) = done
own_of (compare t a b) = ordered (number_of_order (copy_order t a b))
own_of (lend t i) = done
own_of (superfluous t) = listed (superfluous_mask_of t) (ones (superfluous_mask_of t))
own_of (check_record r) = done
own_of (compare_records a b) =
    ordered (number_of_order (comparison (copies_in a) (own_in a) (own_in b) (record_rows (copies_in a) a) (record_rows (copies_in a) b)))
own_of (meet_records a b) = done
own_of (read_rows r) = done
own_of (write_rows b x) = done

-- The buffers that were lent to be written, and their bytes afterwards.
abbrev pub lent_to : Asked → List (List ℕ)
lent_to (fresh t n) = t ∷ []
lent_to (check t) = []
lent_to (update t p) = t ∷ []
lent_to (meet t a b) = t ∷ []
lent_to (compare t a b) = []
lent_to (lend t i) = []
lent_to (superfluous t) = []
lent_to (check_record r) = []
lent_to (compare_records a b) = []
lent_to (meet_records a b) = a ∷ b ∷ []
lent_to (read_rows r) = []
lent_to (write_rows b x) = b ∷ []

abbrev pub left_by : Asked → List (List ℕ)
left_by (fresh t n) = fresh_leaves t n ∷ []
left_by (check t) = []
left_by (update t p) = update_leaves t p ∷ []
left_by (meet t a b) = meet_leaves t a b ∷ []
left_by (compare t a b) = []
left_by (lend t i) = []
left_by (superfluous t) = []
left_by (check_record r) = []
left_by (compare_records a b) = []
left_by (meet_records a b) = meet_records_leaves_first a b ∷ meet_records_leaves_second a b ∷ []
left_by (read_rows r) = []
left_by (write_rows b x) = write_leaves b x ∷ []

-- Its refusal numbers, in its order; and the rows of the refusal table that stand behind them, as propositions.
abbrev pub numbers_of : Asked → List ℕ
numbers_of (fresh t n) = 2 ∷ 3 ∷ []
numbers_of (check t) = 1 ∷ 2 ∷ 3 ∷ 4 ∷ []
numbers_of (update t p) = 1 ∷ 2 ∷ 3 ∷ 4 ∷ 5 ∷ []
numbers_of (meet t a b) = 1 ∷ 2 ∷ 3 ∷ 4 ∷ 5 ∷ 6 ∷ 7 ∷ []
numbers_of (compare t a b) = 1 ∷ 2 ∷ 3 ∷ 4 ∷ 5 ∷ 7 ∷ []
numbers_of (lend t i) = 1 ∷ 2 ∷ 3 ∷ 4 ∷ 5 ∷ []
numbers_of (superfluous t) = 1 ∷ 2 ∷ 3 ∷ 4 ∷ 7 ∷ []
numbers_of (check_record r) = 1 ∷ 2 ∷ 3 ∷ 4 ∷ []
numbers_of (compare_records a b) = 1 ∷ 2 ∷ 3 ∷ 4 ∷ 1 ∷ 2 ∷ 3 ∷ 4 ∷ 8 ∷ 6 ∷ 7 ∷ []
numbers_of (meet_records a b) = 1 ∷ 2 ∷ 3 ∷ 4 ∷ 1 ∷ 2 ∷ 3 ∷ 4 ∷ 8 ∷ 6 ∷ 7 ∷ []
numbers_of (read_rows r) = 1 ∷ 2 ∷ 3 ∷ 4 ∷ []
numbers_of (write_rows b x) = 2 ∷ 3 ∷ 4 ∷ []

abbrev pub rows_of : Asked → List Ground
rows_of (fresh t n) = fresh_grounds t n
rows_of (check t) = table_grounds t
rows_of (update t p) = copy_grounds t p
rows_of (meet t a b) = meet_grounds t a b
rows_of (compare t a b) = compare_grounds t a b
rows_of (lend t i) = copy_grounds t i
rows_of (superfluous t) = superfluous_grounds t
rows_of (check_record r) = record_grounds r
rows_of (compare_records a b) = pair_grounds a b
rows_of (meet_records a b) = pair_grounds a b
rows_of (read_rows r) = record_grounds r
rows_of (write_rows b x) = write_grounds b x
