-- Document 01's 'The program' as one definition: the output's bytes from the input's. The state is the table's bytes, none at first: every
-- call on a table refuses fewer than 4 bytes by 1, so that calls before an accepted `I` are refused 1. Assumes nothing.
use Rattle.std.specs.Prelude.{cond, List, [], ◌∷◌, ◌++◌, ℕ, suc, length, replicate, ltb, Option, Some, None}
use Prim.Native.Char.{code}
use Rattle.model.specs.Answers.{Said, refused, leave}
use Rattle.model.specs.Bytes.{table_size, is_in_range}
use Rattle.model.specs.Calls.{fresh_reasons, fresh_says, fresh_leaves, update_says, update_leaves, meet_says, meet_leaves, compare_says, superfluous_says}
use Rattle.lines.specs.Lines.{lines_of, line_read}
use Rattle.lines.specs.declared.Command.{Command}
use Rattle.lines.specs.declared.Command.TheVariants.{Fresh, Update, Meet, Compare, Superfluous}
use Rattle.print.specs.Text.{ascii}
use Rattle.print.specs.Printed.{line_text}

-- ---- One call

-- The size of a fresh table of n copies; the old size where N is not 2 to 8.
unfoldable pub size_with_n : ℕ → ℕ → ℕ
size_with_n old n = cond (is_in_range n) (table_size n) old

-- The room that it is made in.
unfoldable pub room_for : ℕ → List ℕ
room_for n = replicate (size_with_n 0 n) 0

abbrev pub letter_of_command : Option Command → ℕ
letter_of_command (Some (Fresh n)) = code "I"
letter_of_command (Some (Update i)) = code "U"
letter_of_command (Some (Meet i j)) = code "M"
letter_of_command (Some (Compare i j)) = code "C"
letter_of_command (Some Superfluous) = code "D"
letter_of_command None = code "?"

-- What the table t answers; a line that cannot be read is refused 9.
unfoldable pub call_says : List ℕ → Option Command → Said
call_says t (Some (Fresh n)) = fresh_says (room_for n) n
call_says t (Some (Update i)) = update_says t i
call_says t (Some (Meet i j)) = meet_says t i j
call_says t (Some (Compare i j)) = compare_says t i j
call_says t (Some Superfluous) = superfluous_says t
call_says t None = refused 9

-- The table afterwards. A refused `I` keeps the old one; an accepted one starts a new history.
unfoldable pub call_leaves : List ℕ → Option Command → List ℕ
call_leaves t (Some (Fresh n)) = leave (fresh_reasons (room_for n) n) t (fresh_leaves (room_for n) n)
call_leaves t (Some (Update i)) = update_leaves t i
call_leaves t (Some (Meet i j)) = meet_leaves t i j
call_leaves t (Some (Compare i j)) = t
call_leaves t (Some Superfluous) = t
call_leaves t None = t

-- ---- The whole

-- The line of call c on the table t, with number k.
unfoldable pub call_text : ℕ → List ℕ → Option Command → List ℕ
call_text k t c = line_text k (letter_of_command c) (call_says t c)

-- One line for each input line; k lines stand in front of them.
unfoldable pub lines_text : ℕ → List ℕ → List (List ℕ) → List ℕ
lines_text k t [] = []
lines_text k t (l ∷ ls) = call_text (suc k) t (line_read l) ++ lines_text (suc k) (call_leaves t (line_read l)) ls

unfoldable pub header : List ℕ
unfolding ascii
header = ascii "line call answer\n"

-- The longest input that is read.
abbrev pub most : ℕ
most = 65536

-- The output is never longer: a header of 17 bytes, and at most 20 for each of at most 65,536 lines.
abbrev pub longest : ℕ
longest = 1310737

-- The output; longer input gives the header and the one line `0 ? refused 9`.
unfoldable pub desk_text : List ℕ → List ℕ
desk_text input =
    let answers : List ℕ = lines_text 0 [] (lines_of input) in
    header ++ cond (ltb most (length input)) (call_text 0 [] None) answers
