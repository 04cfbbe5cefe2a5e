-- Seen from the other side: the slice answer of b against a mirrors that of a against b, so a pair is unrelated from both sides or from
-- neither, and the comparison from the other side is older for newer. Assumes nothing.
use Rattle.std.specs.Prelude.{◌≡◌, refl, Bool, true, false, List, ℕ, zero, suc, eqb}
use Rattle.std.proofs.Common.{sym, ap, ap₂, ◌∙◌, eqb-true, eq-eqb}
use Rattle.model.specs.Tests.{head, is_in, count}
use Rattle.model.specs.Steps.{Record, answer_of, slice_answer_of, answer_at_slice, is_unrelated, is_behind, is_ahead, unrelated, order_of, comparison}
use Rattle.model.specs.declared.SliceAnswer.{SliceAnswer}
use Rattle.model.specs.declared.SliceAnswer.TheVariants.{Level, Behind, Ahead, Unrelated}
use Rattle.model.specs.declared.Order.{Order}
use Rattle.model.specs.declared.Order.TheVariants.{Equal, Older, Newer, Conflicting}
use Rattle.facts.specs.Cases.{agree}
use Rattle.facts.specs.Numbers.{any_same, count_same}

abbrev pub mirrored : SliceAnswer → SliceAnswer
mirrored Level = Level
mirrored Behind = Ahead
mirrored Ahead = Behind
mirrored Unrelated = Unrelated

abbrev pub mirrored_order : Order → Order
mirrored_order Equal = Equal
mirrored_order Older = Newer
mirrored_order Newer = Older
mirrored_order Conflicting = Conflicting

same_head : (x y : ℕ) → eqb x y ≡ eqb y x
same_head x y = agree (eqb x y) (eqb y x) (λ e. eq-eqb y x (sym (eqb-true x y e))) (λ e. eq-eqb x y (sym (eqb-true y x e)))

mirrored_of : (e f g : Bool) → answer_of e g f ≡ mirrored (answer_of e f g)
mirrored_of true f g = refl
mirrored_of false true true = refl
mirrored_of false true false = refl
mirrored_of false false true = refl
mirrored_of false false false = refl

pub slice_mirrored : (x y : List ℕ) → slice_answer_of y x ≡ mirrored (slice_answer_of x y)
unfolding slice_answer_of
slice_mirrored x y =
    ap (λ (e : Bool). answer_of e (is_in (head y) x) (is_in (head x) y)) (same_head (head y) (head x))
    ∙ mirrored_of (eqb (head x) (head y)) (is_in (head x) y) (is_in (head y) x)

pub answer-mirrored : (a b : ℕ) (x y : Record) (p : ℕ) → answer_at_slice b a y x p ≡ mirrored (answer_at_slice a b x y p)
unfolding answer_at_slice
answer-mirrored a b x y p = slice_mirrored (x p a) (y p b)

mirrored-unrelated : (s : SliceAnswer) → is_unrelated (mirrored s) ≡ is_unrelated s
mirrored-unrelated Level = refl
mirrored-unrelated Behind = refl
mirrored-unrelated Ahead = refl
mirrored-unrelated Unrelated = refl

mirrored-behind : (s : SliceAnswer) → is_behind (mirrored s) ≡ is_ahead s
mirrored-behind Level = refl
mirrored-behind Behind = refl
mirrored-behind Ahead = refl
mirrored-behind Unrelated = refl

mirrored_ahead : (s : SliceAnswer) → is_ahead (mirrored s) ≡ is_behind s
mirrored_ahead Level = refl
mirrored_ahead Behind = refl
mirrored_ahead Ahead = refl
mirrored_ahead Unrelated = refl

order-mirrored : (b a : ℕ) → order_of a b ≡ mirrored_order (order_of b a)
order-mirrored zero zero = refl
order-mirrored zero (suc a) = refl
order-mirrored (suc b) zero = refl
order-mirrored (suc b) (suc a) = refl

-- An unrelated slice between the pair is one from either side.
pub unrelated-mirrored : (n a b : ℕ) (x y : Record) → unrelated n b a y x ≡ unrelated n a b x y
unfolding unrelated
unrelated-mirrored n a b x y =
    any_same n (λ p. is_unrelated (answer_at_slice b a y x p)) (λ p. is_unrelated (answer_at_slice a b x y p))
    (λ p h. ap is_unrelated (answer-mirrored a b x y p) ∙ mirrored-unrelated (answer_at_slice a b x y p))

pub comparison-mirrored : (n a b : ℕ) (x y : Record) → comparison n b a y x ≡ mirrored_order (comparison n a b x y)
unfolding comparison
comparison-mirrored n a b x y =
    ap₂ order_of
    (count_same n (λ p. is_behind (answer_at_slice b a y x p)) (λ p. is_ahead (answer_at_slice a b x y p))
    (λ p h. ap is_behind (answer-mirrored a b x y p) ∙ mirrored-behind (answer_at_slice a b x y p)))
    (count_same n (λ p. is_ahead (answer_at_slice b a y x p)) (λ p. is_behind (answer_at_slice a b x y p))
    (λ p h. ap is_ahead (answer-mirrored a b x y p) ∙ mirrored_ahead (answer_at_slice a b x y p)))
    ∙ order-mirrored (count n (λ p. is_behind (answer_at_slice a b x y p))) (count n (λ p. is_ahead (answer_at_slice a b x y p)))
