-- Document 01's 'The program', the reading: the input as lines, a line as words, a word as a number from 0 to 255, the words as a call.
-- Assumes nothing.
use Rattle.std.specs.Prelude.{Bool, true, false, cond, not, ◌&&◌, List, [], ◌∷◌, ℕ, ◌+◌, ◌*◌, ◌-◌, eqb, leb, Option, Some, None}
use Rattle.std.specs.Option.{option_and_then}
use Prim.Native.Char.{code}
use Rattle.model.specs.Tests.{every}
use Rattle.lines.specs.declared.Command.{Command}
use Rattle.lines.specs.declared.Command.TheVariants.{Fresh, Update, Meet, Compare, Superfluous}

-- ---- Lines and words

-- The byte c in front of the first piece; a piece of its own where there is none.
unfoldable pub onto : ℕ → List (List ℕ) → List (List ℕ)
onto c [] = (c ∷ []) ∷ []
onto c (x ∷ l) = (c ∷ x) ∷ l

-- The pieces between the separators; `last` is what a separator at the very end has behind it.
unfoldable pub pieces : ℕ → List (List ℕ) → List ℕ → List (List ℕ)
pieces sep last [] = last
pieces sep last (c ∷ l) = cond (eqb c sep) ([] ∷ pieces sep last l) (onto c (pieces sep last l))

-- Lines end in LF; the last may lack it, and a last LF starts no further line.
unfoldable pub lines_of : List ℕ → List (List ℕ)
lines_of l = pieces (code "\n") [] l

-- One space stands between words; behind a last space stands the empty word.
unfoldable pub words_of : List ℕ → List (List ℕ)
words_of l = pieces (code " ") ([] ∷ []) l

-- ---- Numbers

abbrev pub is_digit : ℕ → Bool
is_digit c = leb (code "0") c && leb c (code "9")

-- Something stands there, and more than one digit do not begin with 0.
unfoldable pub has_good_lead : List ℕ → Bool
has_good_lead [] = false
has_good_lead (c ∷ []) = true
has_good_lead (c ∷ d ∷ l) = not (eqb c (code "0"))

-- The value of digits behind those whose value is v.
unfoldable pub value_from : ℕ → List ℕ → ℕ
value_from v [] = v
value_from v (c ∷ l) = value_from (v * 10 + (c - code "0")) l

-- A number is 0 to 255, in digits, without leading zeros.
unfoldable pub is_number : List ℕ → Bool
is_number w = has_good_lead w && (every is_digit w && leb (value_from 0 w) 255)

unfoldable pub number_of : List ℕ → Option ℕ
number_of w = cond (is_number w) (Some (value_from 0 w)) None

-- ---- Calls

-- The letter that a word is, where it is one byte.
unfoldable pub letter_of_word : List ℕ → Option ℕ
letter_of_word [] = None
letter_of_word (c ∷ []) = Some c
letter_of_word (c ∷ d ∷ l) = None

-- `D`
unfoldable pub alone : ℕ → Option Command
alone c = cond (eqb c (code "D")) (Some Superfluous) None

-- `I n`, `U i`
unfoldable pub with_one : ℕ → Option ℕ → Option Command
with_one c None = None
with_one c (Some i) = cond (eqb c (code "I")) (Some (Fresh i)) (cond (eqb c (code "U")) (Some (Update i)) None)

-- `M i j`, `C i j`
unfoldable pub with_two : ℕ → Option ℕ → Option ℕ → Option Command
with_two c None y = None
with_two c (Some i) None = None
with_two c (Some i) (Some j) = cond (eqb c (code "M")) (Some (Meet i j)) (cond (eqb c (code "C")) (Some (Compare i j)) None)

-- The letter and the words behind it.
unfoldable pub command_of : ℕ → List (List ℕ) → Option Command
command_of c [] = alone c
command_of c (x ∷ []) = with_one c (number_of x)
command_of c (x ∷ y ∷ []) = with_two c (number_of x) (number_of y)
command_of c (x ∷ y ∷ z ∷ l) = None

-- The words behind the letter as they are looked at: up to three.
abbrev pub front_of : Option (List ℕ) → Option (List ℕ) → Option (List ℕ) → List (List ℕ)
front_of None y third = []
front_of (Some x) None third = x ∷ []
front_of (Some x) (Some y) None = x ∷ y ∷ []
front_of (Some x) (Some y) (Some z) = x ∷ y ∷ z ∷ []

unfoldable pub command_in : List (List ℕ) → Option Command
command_in [] = None
command_in (w ∷ l) = option_and_then (λ c. command_of c l) (letter_of_word w)

-- The call that a line is; none where it cannot be read.
unfoldable pub line_read : List ℕ → Option Command
unfolding onto pieces words_of every has_good_lead value_from is_number number_of letter_of_word alone with_one with_two command_of command_in
line_read l = command_in (words_of l)
