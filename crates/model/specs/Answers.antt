-- What an answer says: document 01's number and values for each case of each answer, `said`, and that it is one-to-one. The
-- definitions of the calls speak of these, and so do the promises. Assumes nothing.
use Rattle.std.specs.Prelude.{◌≡◌, refl, Bool, true, false, not, ◌&&◌, cond, List, [], ◌∷◌, ℕ, get_or, Result, Ok, Err}
use Rattle.std.proofs.Common.{sym, ap, ◌∙◌}
use Rattle.model.specs.declared.Order.{Order}
use Rattle.model.specs.declared.Order.TheVariants.{Equal, Older, Newer, Conflicting}
use Rattle.model.specs.declared.Refusal.{Refusal}
use Rattle.model.specs.declared.Refusal.TheVariants.{Unmarked, WrongN, WrongLength, NotWellFormed, NoSuchCopy, SameCopy, UnrelatedSlice, DifferentN, Unreadable}
use Rattle.model.specs.declared.Copies.{Copies}

-- An answer in document 01's numbers.
pub data Said : Type 0 where
  -- a refusal, and its number in the table
  refused : ℕ → Said
  -- done, with nothing to tell
  done : Said
  -- a comparison: equal 0, older 1, newer 2, conflicting 3
  ordered : ℕ → Said
  -- the superfluous copies: mask and count
  listed : ℕ → ℕ → Said

-- The refusal table's numbers.
abbrev pub number_of_refusal : Refusal → ℕ
number_of_refusal Unmarked = 1
number_of_refusal WrongN = 2
number_of_refusal WrongLength = 3
number_of_refusal NotWellFormed = 4
number_of_refusal NoSuchCopy = 5
number_of_refusal SameCopy = 6
number_of_refusal UnrelatedSlice = 7
number_of_refusal DifferentN = 8
number_of_refusal Unreadable = 9

-- The comparison's numbers.
abbrev pub number_of_order : Order → ℕ
number_of_order Equal = 0
number_of_order Older = 1
number_of_order Newer = 2
number_of_order Conflicting = 3

-- What a call's answer says: what it gives, by `gives`, or the refusal's number.
abbrev pub said : {A : Type 0} → (A → Said) → Result A Refusal → Said
said gives (Ok x) = gives x
said gives (Err r) = refused (number_of_refusal r)

abbrev pub said_done : Result (Unit {0}) Refusal → Said
said_done = said (λ _. done)

abbrev pub said_compared : Result Order Refusal → Said
said_compared = said (λ o. ordered (number_of_order o))

abbrev pub said_listed : Result Copies Refusal → Said
said_listed = said (λ c. listed c.mask c.count)

-- ---- A reason to refuse, and the first that applies

-- Whether it applies, and its number.
pub data Reason : Type 0 where
  refuse : Bool → ℕ → Reason

-- The first reason that applies is the answer; where none does, the call's own answer is.
unfoldable pub answer : List Reason → Said → Said
answer [] a = a
answer (refuse true k ∷ l) a = refused k
answer (refuse false k ∷ l) a = answer l a

-- No reason applies.
unfoldable pub accepted : List Reason → Bool
accepted [] = true
accepted (refuse b k ∷ l) = not b && accepted l

-- What stands afterwards: the old where the call is refused, the new where it is accepted.
unfoldable pub leave {ℓ} : {A : Type ℓ} → List Reason → A → A → A
leave l old new = cond (accepted l) new old

-- ---- said is one-to-one: what is said is heard again

heard_order : ℕ → Order
heard_order k = get_or (Equal ∷ Older ∷ Newer ∷ Conflicting ∷ []) k Equal

pub heard_refusal : ℕ → Refusal
heard_refusal k =
    get_or
    (Unmarked ∷ Unmarked ∷ WrongN ∷ WrongLength ∷ NotWellFormed ∷ NoSuchCopy ∷ SameCopy ∷ UnrelatedSlice ∷ DifferentN ∷ Unreadable ∷ [])
    k
    Unmarked

order_heard : (o : Order) → heard_order (number_of_order o) ≡ o
unfolding heard_order
order_heard Equal = refl
order_heard Older = refl
order_heard Newer = refl
order_heard Conflicting = refl

refusal_heard : (r : Refusal) → heard_refusal (number_of_refusal r) ≡ r
unfolding heard_refusal
refusal_heard Unmarked = refl
refusal_heard WrongN = refl
refusal_heard WrongLength = refl
refusal_heard NotWellFormed = refl
refusal_heard NoSuchCopy = refl
refusal_heard SameCopy = refl
refusal_heard UnrelatedSlice = refl
refusal_heard DifferentN = refl
refusal_heard Unreadable = refl

-- What is given for each saying that is no refusal, or the refusal.
unfoldable pub heard : {A : Type 0} → (Said → A) → Said → Result A Refusal
heard gives (refused k) = Err (heard_refusal k)
heard gives done = Ok (gives done)
heard gives (ordered k) = Ok (gives (ordered k))
heard gives (listed m c) = Ok (gives (listed m c))

pub err_heard : {A : Type 0} (gives : Said → A) (r : Refusal) → heard gives (refused (number_of_refusal r)) ≡ Err r
unfolding heard
err_heard gives r = ap Err (refusal_heard r)

-- A saying that can be heard again is one-to-one.
heard_once : {A : Type 0} (says : A → Said) (hears : Said → A) → ((x : A) → hears (says x) ≡ x) → (x y : A) → says x ≡ says y → x ≡ y
heard_once says hears back x y e = sym (back x) ∙ ap hears e ∙ back y

pub order_once : (x y : Order) → number_of_order x ≡ number_of_order y → x ≡ y
order_once x y e = sym (order_heard x) ∙ ap heard_order e ∙ order_heard y

heard_order_of : Said → Order
heard_order_of (ordered k) = heard_order k
heard_order_of done = Equal
heard_order_of (refused k) = Equal
heard_order_of (listed m c) = Equal

heard_copies : Said → Copies
heard_copies (listed m c) = record { mask = m; count = c }
heard_copies done = record { mask = 0; count = 0 }
heard_copies (refused k) = record { mask = 0; count = 0 }
heard_copies (ordered k) = record { mask = 0; count = 0 }

pub done_once : (x y : Result (Unit {0}) Refusal) → said_done x ≡ said_done y → x ≡ y
unfolding heard
done_once = heard_once said_done (heard (λ _. tt)) back
  where
    back : (x : Result (Unit {0}) Refusal) → heard (λ _. tt) (said_done x) ≡ x
    back (Ok u) = refl
    back (Err r) = err_heard (λ _. tt) r

pub compared_once : (x y : Result Order Refusal) → said_compared x ≡ said_compared y → x ≡ y
unfolding heard heard_order_of
compared_once = heard_once said_compared (heard heard_order_of) back
  where
    back : (x : Result Order Refusal) → heard heard_order_of (said_compared x) ≡ x
    back (Ok o) = ap Ok (order_heard o)
    back (Err r) = err_heard heard_order_of r

pub listed_once : (x y : Result Copies Refusal) → said_listed x ≡ said_listed y → x ≡ y
unfolding heard heard_copies
listed_once = heard_once said_listed (heard heard_copies) back
  where
    back : (x : Result Copies Refusal) → heard heard_copies (said_listed x) ≡ x
    back (Ok c) = refl
    back (Err r) = err_heard heard_copies r
