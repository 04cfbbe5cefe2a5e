-- Behind a check that passed the other reasons decide, and two copy numbers below N are no reason. Assumes nothing.
use Rattle.std.specs.Prelude.{◌≡◌, refl, Bool, false, ◌||◌, List, [], ◌∷◌, ◌++◌, ℕ, ◌<◌, leb}
use Rattle.std.proofs.Common.{sym, ◌∙◌}
use borrow.Author.Tests.{lt-leb}
use Rattle.model.specs.Answers.{Said, done, Reason, refuse, answer}
use Rattle.model.specs.Calls.{table_reasons, check_says}
use Rattle.model.specs.Promises.{Owed}
use Rattle.laws.specs.Reasons.{answer-behind}

pub decided_behind : (t : List ℕ) (m : List Reason) (a : Said) → Owed (check_says t) [] done [] → {s : Said} → s ≡ answer m a
    → Owed (answer (table_reasons t ++ m) a) [] s []
unfolding check_says
decided_behind t m a o e = record { answers = e ∙ sym (answer-behind (table_reasons t) m a (sym o.answers)); bytes = refl }

pub both_low : (x y : Bool) (k : ℕ) (l : List Reason) (a : Said) → x ≡ false → y ≡ false → answer (refuse (x || y) k ∷ l) a ≡ answer l a
unfolding answer
both_low x y k l a e f = rw (e, f)

pub numbers_low : (n a b k : ℕ) (l : List Reason) (s : Said) → a < n → b < n → answer (refuse (leb n a || leb n b) k ∷ l) s ≡ answer l s
numbers_low n a b k l s h i = both_low (leb n a) (leb n b) k l s (lt-leb n a h) (lt-leb n b i)
