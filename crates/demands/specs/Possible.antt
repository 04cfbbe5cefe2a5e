-- The promises can be kept together: for every call there are arguments, a result and parameters at exit that the function's own promise
-- allows, with the outcome definition's outcome. So what is said of a library in Library is not said of nothing
-- (`library_possible`, in proofs/Possible). Assumes nothing.
use Rattle.std.specs.Prelude.{◌≡◌, refl, ◌⊎◌, Bool, true, List, [], ◌∷◌, ℕ, length, get_or, eqb, Result, Ok, Err}
use Rattle.std.proofs.Common.{sym, ap, ◌∙◌, inl, inr, eqb-true}
use contract.Lifetimes.{Lfts}
use Rattle.std.specs.Borrow.{Bor, MutBor}
use Rattle.model.specs.Tests.{every}
use Rattle.model.specs.Steps.{comparison}
use Rattle.model.specs.Answers.{Said, refused, done, ordered, listed, answer, number_of_refusal, number_of_order, said, said_done, said_compared, said_listed}
use Rattle.model.specs.Bytes.{record_size, copies_in, own_in, record_rows, is_in_range, record_is_formed}
use Rattle.model.specs.Calls.{fresh_leaves, update_leaves, meet_leaves, copy_order, meet_records_leaves_first, meet_records_leaves_second, record_reasons, blank_rows, read_says, read_gives, record_passed, write_reasons, write_says, write_leaves}
use Rattle.model.specs.Promises.{Read}
use Rattle.model.specs.declared.Order.{Order}
use Rattle.model.specs.declared.Refusal.{Refusal}
use Rattle.model.specs.declared.Refusal.TheVariants.{Unmarked, WrongN, WrongLength, NotWellFormed, NoSuchCopy, SameCopy, UnrelatedSlice, DifferentN, Unreadable}
use Rattle.model.specs.declared.Copies.{Copies}
use Rattle.model.specs.declared.Rows.{Rows}
use Rattle.facts.specs.Cases.{by_test}
use Rattle.facts.specs.Members.{In, every→}
use Rattle.laws.specs.Reasons.{refused_not, leave_refused}
use Rattle.demands.specs.Asked.{Asked, Roomy, fresh, check, update, meet, compare, lend, superfluous, check_record, compare_records, meet_records, read_rows, write_rows, says_of, own_of, left_by, numbers_of}
use Rattle.demands.specs.Obeyed.{call_ruled, call_numbers}
use Rattle.demands.specs.Versions.{name_of}
use Rattle.demands.specs.Serves.{Allows}
use Rattle.demands.specs.Library.{service_of}

-- ---- Every answer of a call can be said by its enum

-- The refusal with number k, for k from 1 to 8.
refusal_of : ℕ → Refusal
refusal_of k =
    get_or (Unmarked ∷ Unmarked ∷ WrongN ∷ WrongLength ∷ NotWellFormed ∷ NoSuchCopy ∷ SameCopy ∷ UnrelatedSlice ∷ DifferentN ∷ []) k Unreadable

is_number : ℕ → Bool
is_number k = eqb (number_of_refusal (refusal_of k)) k

-- The call's own answer, or a refusal that has a number.
abbrev Sayable : Said → Said → Type 0
Sayable says own = (says ≡ own) ⊎ ((r : Refusal) × (refused (number_of_refusal r) ≡ says))

by_number : {says own : Said} (l : List ℕ) → every is_number l ≡ true → (says ≡ own) ⊎ ((k : ℕ) × In k l × (says ≡ refused k)) → Sayable says own
unfolding is_number
by_number l e (inl p) = inl p
by_number l e (inr w) =
    inr (refusal_of w.0, ap refused (eqb-true (number_of_refusal (refusal_of w.0)) w.0 (every→ is_number l e w.0 w.1)) ∙ sym w.2)

table_sayable : (q : Asked) → Roomy q → every is_number (numbers_of q) ≡ true → Sayable (says_of q) (own_of q)
table_sayable q i e = by_number (numbers_of q) e (rw (call_numbers q) at (call_ruled q i).nothing_else)

write_sayable : (b : List ℕ) (x : Rows) → Sayable (write_says b x) done
unfolding write_says write_reasons answer
write_sayable b x =
    by_test (is_in_range x.n)
    (λ p. by_test (eqb (length b) (record_size x.n))
    (λ q. by_test (record_is_formed x.n (record_passed x))
    (λ r. inl (rw (p, q, r)))
    (λ r. inr (NotWellFormed, rw (p, q, r))))
    (λ q. inr (WrongLength, rw (p, q))))
    (λ p. inr (WrongN, rw p))

sayable : (q : Asked) → Sayable (says_of q) (own_of q)
unfolding every is_number refusal_of
sayable (fresh t n) = table_sayable (fresh t n) tt refl
sayable (check t) = table_sayable (check t) tt refl
sayable (update t p) = table_sayable (update t p) tt refl
sayable (meet t a b) = table_sayable (meet t a b) tt refl
sayable (compare t a b) = table_sayable (compare t a b) tt refl
sayable (lend t i) = table_sayable (lend t i) tt refl
sayable (superfluous t) = table_sayable (superfluous t) tt refl
sayable (check_record r) = table_sayable (check_record r) tt refl
sayable (compare_records a b) = table_sayable (compare_records a b) tt refl
sayable (meet_records a b) = table_sayable (meet_records a b) tt refl
sayable (read_rows r) = table_sayable (read_rows r) tt refl
sayable (write_rows b x) = write_sayable b x

-- What a call gives, where it can say that, or the refusal.
as_given : {A : Type 0} {says : Said} (gives : A → Said) (x : A) → Sayable says (gives x) → (d : Result A Refusal) × (said gives d ≡ says)
as_given gives x (inl e) = (Ok x, sym e)
as_given gives x (inr w) = (Err w.0, w.1)

as_done : {says : Said} → Sayable says done → (d : Result (Unit {0}) Refusal) × (said_done d ≡ says)
as_done = as_given (λ _. done) tt

as_compared : {says : Said} (o : Order) → Sayable says (ordered (number_of_order o)) → (d : Result Order Refusal) × (said_compared d ≡ says)
as_compared = as_given (λ o. ordered (number_of_order o))

as_listed : {says : Said} {m c : ℕ} → Sayable says (listed m c) → (d : Result Copies Refusal) × (said_listed d ≡ says)
as_listed {m = m} {c = c} = as_given (λ c. listed c.mask c.count) (record { mask = m; count = c })

as_read : (r : List ℕ) → Sayable (read_says r) done → (d : Result Rows Refusal) × Read (read_says r) (read_gives r) d
unfolding read_says read_gives
as_read r (inl e) = (Ok (read_gives r), record { answers = sym e; rows = refl })
as_read r (inr w) = (Err w.0, record { answers = w.1; rows = sym (blank r w.0 (sym w.1)) })
  where
    blank : (r : List ℕ) (q : Refusal) → read_says r ≡ refused (number_of_refusal q) → read_gives r ≡ blank_rows
    blank r q e = leave_refused (record_reasons r) blank_rows _ (refused_not (record_reasons r) done (number_of_refusal q) refl e)

-- ---- A reference to bytes, with some place and, where they are lent to be written, some name

at : List ℕ → Bor (List ℕ)
at l = record { ref_ptr = (0, 0); now = l }

lent_at : List ℕ → MutBor (List ℕ)
lent_at l = record { ref_ptr = (0, 0); ghost_name = 0; now = l }

-- ---- Every call

pub allowed : (κs : Lfts 2) (q : Asked) → Allows (service_of κs (name_of q)) q (record { said = says_of q; lent = left_by q })
unfolding at lent_at
allowed κs (fresh t n) =
    let d = as_done (sayable (fresh t n)) in
    record { arguments = (lent_at t, (n, tt)); result = d.0; exit = (lent_at (fresh_leaves t n), (n, tt)); learnt = record { answers = d.1; bytes = refl }; asks = refl; says = d.1; leaves = refl }
allowed κs (check t) =
    let d = as_done (sayable (check t)) in
    record { arguments = (at t, tt); result = d.0; exit = (at t, tt); learnt = record { answers = d.1; bytes = refl }; asks = refl; says = d.1; leaves = refl }
allowed κs (update t p) =
    let d = as_done (sayable (update t p)) in
    record { arguments = (lent_at t, (p, tt)); result = d.0; exit = (lent_at (update_leaves t p), (p, tt)); learnt = record { answers = d.1; bytes = refl }; asks = refl; says = d.1; leaves = refl }
allowed κs (meet t a b) =
    let d = as_done (sayable (meet t a b)) in
    record { arguments = (lent_at t, (a, (b, tt))); result = d.0; exit = (lent_at (meet_leaves t a b), (a, (b, tt))); learnt = record { answers = d.1; bytes = refl }; asks = refl; says = d.1; leaves = refl }
allowed κs (compare t a b) =
    let d = as_compared (copy_order t a b) (sayable (compare t a b)) in
    record { arguments = (at t, (a, (b, tt))); result = d.0; exit = (at t, (a, (b, tt))); learnt = record { answers = d.1; bytes = refl }; asks = refl; says = d.1; leaves = refl }
allowed κs (lend t i) =
    let d = as_done (sayable (lend t i)) in
    record { arguments = (at t, (i, tt)); result = d.0; exit = (at t, (i, tt)); learnt = record { answers = d.1; bytes = refl }; asks = refl; says = d.1; leaves = refl }
allowed κs (superfluous t) =
    let d = as_listed (sayable (superfluous t)) in
    record { arguments = (at t, tt); result = d.0; exit = (at t, tt); learnt = record { answers = d.1; bytes = refl }; asks = refl; says = d.1; leaves = refl }
allowed κs (check_record r) =
    let d = as_done (sayable (check_record r)) in
    record { arguments = (at r, tt); result = d.0; exit = (at r, tt); learnt = record { answers = d.1; bytes = refl }; asks = refl; says = d.1; leaves = refl }
allowed κs (compare_records a b) =
    let d = as_compared (comparison (copies_in a) (own_in a) (own_in b) (record_rows (copies_in a) a) (record_rows (copies_in a) b)) (sayable (compare_records a b)) in
    record { arguments = (at a, (at b, tt)); result = d.0; exit = (at a, (at b, tt)); learnt = record { answers = d.1; bytes = refl }; asks = refl; says = d.1; leaves = refl }
allowed κs (meet_records a b) =
    let d = as_done (sayable (meet_records a b)) in
    record { arguments = (lent_at a, (lent_at b, tt)); result = d.0; exit = (lent_at (meet_records_leaves_first a b), (lent_at (meet_records_leaves_second a b), tt)); learnt = record { answers = d.1; bytes = refl }; asks = refl; says = d.1; leaves = refl }
allowed κs (read_rows r) =
    let d = as_read r (sayable (read_rows r)) in
    record { arguments = (at r, tt); result = d.0; exit = (at r, tt); learnt = d.1; asks = refl; says = d.1.answers; leaves = refl }
allowed κs (write_rows b x) =
    let d = as_done (sayable (write_rows b x)) in
    record { arguments = (lent_at b, (x, tt)); result = d.0; exit = (lent_at (write_leaves b x), (x, tt)); learnt = record { answers = d.1; bytes = refl }; asks = refl; says = d.1; leaves = refl }
