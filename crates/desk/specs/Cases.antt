-- Worked cases of the program: document 01's sample to the byte, and our reading of its lines, as one theorem by computation.
-- Assumes nothing.
use Rattle.std.specs.Prelude.{◌≡◌, refl, List, [], ◌∷◌, ◌++◌, map, ℕ}
use Prim.Native.String.{String}
use Rattle.model.specs.Calls.{fresh_says}
use Rattle.model.specs.Worked.{history, compared, listing}
use Rattle.lines.specs.Lines.{lines_of, line_read}
use Rattle.print.specs.Text.{ascii}
use Rattle.print.specs.Printed.{line_text}
use Rattle.desk.specs.Desk.{size_with_n, room_for, call_says, call_leaves, call_text, lines_text, header, desk_text}

-- Lines of text, each with its LF.
unfoldable pub text : List String → List ℕ
unfolding ascii
text [] = []
text (l ∷ ls) = ascii l ++ (ascii "\n" ++ text ls)

pub record Case : Type 0 where
  pub input : List ℕ
  pub output : List ℕ

-- The lines of the input and, behind the header, of the output.
unfoldable pub case : List String → List String → Case
unfolding text
case input output = record { input = text input; output = text ("line call answer" ∷ output) }

unfoldable pub cases : List Case
unfolding case
cases =
    -- document 01's sample
    case ("I 3" ∷ "U 0" ∷ "C 0 1" ∷ "U 2" ∷ "C 0 2" ∷ "M 1 2" ∷ "C 1 2" ∷ "M 0 1" ∷ "C 1 2" ∷ "M 1 1" ∷ "C 0 1" ∷ [])
    ("1 I ok" ∷ "2 U ok" ∷ "3 C newer" ∷ "4 U ok" ∷ "5 C conflicting" ∷ "6 M ok" ∷ "7 C equal" ∷ "8 M ok" ∷ "9 C newer" ∷ "10 M refused 6" ∷ "11 C equal" ∷ [])
    -- empty input: the header alone
    ∷ case ([])
    ([])
    -- a lone LF
    ∷ case ("" ∷ [])
    ("1 ? refused 9" ∷ [])
    -- lines that cannot be read
    ∷ case ("I\t3" ∷ "I 3\r" ∷ "I 3\0" ∷ "i 3" ∷ "I  3" ∷ "I 3 " ∷ " I 3" ∷ "D 1" ∷ "I +2" ∷ "I 02" ∷ "I 00" ∷ "I 256" ∷ "I" ∷ "I 3 3" ∷ "M 0" ∷ "DD" ∷ "E" ∷ [])
    ("1 ? refused 9" ∷ "2 ? refused 9" ∷ "3 ? refused 9" ∷ "4 ? refused 9" ∷ "5 ? refused 9" ∷ "6 ? refused 9" ∷ "7 ? refused 9" ∷ "8 ? refused 9" ∷ "9 ? refused 9" ∷ "10 ? refused 9" ∷ "11 ? refused 9" ∷ "12 ? refused 9" ∷ "13 ? refused 9" ∷ "14 ? refused 9" ∷ "15 ? refused 9" ∷ "16 ? refused 9" ∷ "17 ? refused 9" ∷ [])
    -- numbers that can be read, N that is not 2 to 8
    ∷ case ("I 0" ∷ "I 9" ∷ "I 255" ∷ [])
    ("1 I refused 2" ∷ "2 I refused 2" ∷ "3 I refused 2" ∷ [])
    -- before an accepted `I` every call is 1, whatever its numbers
    ∷ case ("U 255" ∷ "M 0 0" ∷ "C 9 9" ∷ "D" ∷ "I 9" ∷ "U 0" ∷ [])
    ("1 U refused 1" ∷ "2 M refused 1" ∷ "3 C refused 1" ∷ "4 D refused 1" ∷ "5 I refused 2" ∷ "6 U refused 1" ∷ [])
    -- a refused `I` keeps the old table
    ∷ case ("I 2" ∷ "U 0" ∷ "I 9" ∷ "C 0 1" ∷ "C 1 0" ∷ [])
    ("1 I ok" ∷ "2 U ok" ∷ "3 I refused 2" ∷ "4 C newer" ∷ "5 C older" ∷ [])
    -- an accepted one starts a new history, also with another N
    ∷ case ("I 2" ∷ "U 0" ∷ "D" ∷ "I 3" ∷ "C 0 1" ∷ "D" ∷ "U 3" ∷ [])
    ("1 I ok" ∷ "2 U ok" ∷ "3 D 2 1" ∷ "4 I ok" ∷ "5 C equal" ∷ "6 D 7 3" ∷ "7 U refused 5" ∷ [])
    -- the last line may lack its LF
    ∷ record { input = ascii "D\nD"; output = ascii "line call answer\n1 D refused 1\n2 D refused 1\n" }
    ∷ []

pub worked : map (λ c. desk_text c.input) cases ≡ map (λ c. c.output) cases
unfolding cases history compared listing fresh_says lines_of line_read line_text size_with_n room_for call_says call_leaves call_text lines_text header desk_text
worked = refl
