-- Document 01's 'The program', the printing: an answer in words and decimal numbers, and the line it stands in. Assumes nothing.
use Rattle.std.specs.Prelude.{List, [], ◌∷◌, ◌++◌, ℕ, get_or, Result}
use Rattle.model.specs.Answers.{Said, refused, done, ordered, listed, number_of_order, said}
use Rattle.model.specs.declared.Refusal.{Refusal}
use Rattle.print.specs.Text.{ascii, decimal}
use Rattle.print.specs.declared.Answer.{Answer}
use Rattle.print.specs.declared.Answer.TheVariants.{Done}

-- The comparison's names, in the order of its numbers.
unfoldable pub order_name : ℕ → List ℕ
unfolding ascii
order_name k = get_or (ascii "equal" ∷ ascii "older" ∷ ascii "newer" ∷ ascii "conflicting" ∷ []) k []

-- `ok`, the comparison's name, mask and count, or `refused` and its number.
unfoldable pub answer_text : Said → List ℕ
unfolding ascii decimal order_name
answer_text (refused k) = ascii "refused " ++ decimal k
answer_text done = ascii "ok"
answer_text (ordered k) = order_name k
answer_text (listed mask count) = decimal mask ++ (ascii " " ++ decimal count)

-- Line number, letter, answer, one space between.
unfoldable pub line_text : ℕ → ℕ → Said → List ℕ
unfolding answer_text
line_text k letter a = decimal k ++ (ascii " " ++ (letter ∷ (ascii " " ++ (answer_text a ++ ascii "\n"))))

-- What is given of any of the calls says, and what their answer says.
abbrev pub says_of : Answer → Said
says_of Done = done
says_of (Answer.Order o) = ordered (number_of_order o)
says_of (Answer.Copies c) = listed c.mask c.count

abbrev pub said_answer : Result Answer Refusal → Said
said_answer = said says_of
