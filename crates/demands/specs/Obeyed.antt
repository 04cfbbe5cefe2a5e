-- Demand 1 for each call (the whole is stated in Demands): by cases on the call, from the laws of refusals. Assumes nothing.
use Rattle.std.specs.Prelude.{◌≡◌, refl, List, [], ◌∷◌, ℕ}
use Rattle.std.proofs.Common.{ap, ap₂}
use Rattle.model.specs.Answers.{refused}
use Rattle.laws.specs.Refusals.{Ruled, list_of, fresh_ruled, check_ruled, update_ruled, meet_ruled, compare_ruled, lend_ruled, superfluous_ruled, check_record_ruled, meet_records_ruled, compare_records_ruled, read_ruled, fresh_refused, update_refused, meet_refused, meet_records_refused}
use Rattle.laws.specs.ReadWrite.{write_ruled, write_refused}
use Rattle.demands.specs.Asked.{Asked, fresh, check, update, meet, compare, lend, superfluous, check_record, compare_records, meet_records, read_rows, write_rows, Roomy, says_of, own_of, lent_to, left_by, numbers_of, rows_of}

pub call_ruled : (q : Asked) → Roomy q → Ruled (says_of q) (own_of q) (rows_of q)
call_ruled (fresh t n) i = fresh_ruled t n
call_ruled (check t) i = check_ruled t
call_ruled (update t p) i = update_ruled t p
call_ruled (meet t a b) i = meet_ruled t a b
call_ruled (compare t a b) i = compare_ruled t a b
call_ruled (lend t j) i = lend_ruled t j
call_ruled (superfluous t) i = superfluous_ruled t
call_ruled (check_record r) i = check_record_ruled r
call_ruled (compare_records a b) i = compare_records_ruled a b
call_ruled (meet_records a b) i = meet_records_ruled a b
call_ruled (read_rows r) i = read_ruled r
call_ruled (write_rows b x) i = write_ruled b x i

-- The numbers are those of the rows.
pub call_numbers : (q : Asked) → list_of (rows_of q) ≡ numbers_of q
call_numbers (fresh t n) = refl
call_numbers (check t) = refl
call_numbers (update t p) = refl
call_numbers (meet t a b) = refl
call_numbers (compare t a b) = refl
call_numbers (lend t i) = refl
call_numbers (superfluous t) = refl
call_numbers (check_record r) = refl
call_numbers (compare_records a b) = refl
call_numbers (meet_records a b) = refl
call_numbers (read_rows r) = refl
call_numbers (write_rows b x) = refl

-- A refusal leaves every lent byte.
pub call_leaves_lem : (q : Asked) → Roomy q → (k : ℕ) → says_of q ≡ refused k → left_by q ≡ lent_to q
call_leaves_lem (fresh t n) o k e = ap (λ (b : List ℕ). b ∷ []) (fresh_refused t n k e)
call_leaves_lem (check t) o k e = refl
call_leaves_lem (update t p) o k e = ap (λ (b : List ℕ). b ∷ []) (update_refused t p k e)
call_leaves_lem (meet t a b) o k e = ap (λ (b : List ℕ). b ∷ []) (meet_refused t a b k e)
call_leaves_lem (compare t a b) o k e = refl
call_leaves_lem (lend t i) o k e = refl
call_leaves_lem (superfluous t) o k e = refl
call_leaves_lem (check_record r) o k e = refl
call_leaves_lem (compare_records a b) o k e = refl
call_leaves_lem (meet_records a b) o k e =
    let s = meet_records_refused a b k e in
    ap₂ (λ (x y : List ℕ). x ∷ y ∷ []) s.0 s.1
call_leaves_lem (read_rows r) o k e = refl
call_leaves_lem (write_rows b x) o k e = ap (λ (b : List ℕ). b ∷ []) (write_refused b x o k e)
