-- The run over the lines: what one line puts out and leaves, and what is left to put out after some. Assumes nothing.
use Rattle.std.specs.Prelude.{◌≡◌, ℕ, ◌+◌, ◌*◌, ◌≤◌, ◌<◌, take, drop, Option}
use Rattle.std.proofs.Common.{add-one, arith, lt-ltb, le-ltb, length-drop}
use mathlib.Core.List.{List, [], ◌++◌}
use Prim.Native.Char.{code}
use Rattle.std.proofs.Math.Path.{refl}
use Rattle.std.proofs.Math.ListN.{length}
use Rattle.lines.specs.Lines.{lines_of, line_read}
use Rattle.lines.specs.Pieces.{Placed, lines_next, lines_none}
use Rattle.lines.specs.declared.Command.{Command}
use Rattle.model.specs.Answers.{Said, refused}
use Rattle.print.specs.Printed.{line_text}
use Rattle.print.specs.Room.{Put, put_then}
use Rattle.desk.specs.Kept.{Kept}
use Rattle.desk.specs.Desk.{letter_of_command, call_says, call_leaves, call_text, lines_text, header, most, desk_text}

-- What line k puts out, and what it leaves of the table.
pub record Answered (line : List ℕ) (k at : ℕ) (before after out out' : List ℕ) (at' : ℕ) : Type 0 where
  pub text : Put (call_text k before (line_read line)) at out out' at'
  pub table : after ≡ call_leaves before (line_read line)
  pub short : at' ≤ at + 20

pub answered : {line : List ℕ} {k at : ℕ} {before after out out' : List ℕ} {at' : ℕ} {said : Said} {letter : ℕ} (c : Option Command)
    → c ≡ line_read line → letter ≡ letter_of_command c → Kept c before after said
    → Put (line_text k letter said) at out out' at' → at' ≤ at + 20 → Answered line k at before after out out' at'
unfolding call_text
answered c read letter kept put short = record {
  text = rw (← read) (rw (letter, kept.says) at put);
  table = rw (← read) kept.leaves;
  short = short;
}

-- Behind the k lines in front of what is left: what is still to be put out gives the whole.
pub record Running (input : List ℕ) (start : ℕ) (out₀ left : List ℕ) (k at : ℕ) (table out : List ℕ) : Type 0 where
  pub lines : k + length left ≤ length input
  pub short : at ≤ start + 20 * k
  pub rest : (r : ℕ) (end : List ℕ) → Put (lines_text k table (lines_of left)) at out end r → Put (lines_text 0 [] (lines_of input)) start out₀ end r

pub running_start : (input : List ℕ) (start : ℕ) (out₀ table : List ℕ) → table ≡ [] → Running input start out₀ input 0 start table out₀
running_start input start out₀ table none = record { lines = omega arith; short = omega arith; rest = λ r end p. rw none at p }

module _ {input : List ℕ} {start : ℕ} {out₀ left : List ℕ} {k at : ℕ} {table out : List ℕ} (so : Running input start out₀ left k at table out) where
  -- One line more.
  pub running_next : {e : ℕ} {table' out' : List ℕ} {at' : ℕ} → 0 < length left → Placed (code "\n") left e
      → Answered (take e left) (k + 1) at table table' out out' at' → Running input start out₀ (drop (e + 1) left) (k + 1) at' table' out'
  unfolding lines_text
  running_next {e} {table'} {out'} {at'} more placed a = record {
    lines = rw length-drop (omega (arith, so.lines));
    short = omega (arith, so.short, a.short);
    rest = λ r end p. so.rest r end (on r end p);
  }
    where
      on : (r : ℕ) (end : List ℕ) → Put (lines_text (k + 1) table' (lines_of (drop (e + 1) left))) at' out' end r
          → Put (lines_text k table (lines_of left)) at out end r
      on r end p = rw (lines_next placed more) (put_then (rw (add-one k) at a.text) (rw (a.table, add-one k) at p))

  pub running_end : length left ≡ 0 → Put (lines_text 0 [] (lines_of input)) start out₀ out at
  unfolding lines_text
  running_end over = so.rest at out (rw (lines_none left over) (record { next = omega arith; bytes = refl }))

-- ---- The whole, by the length of the input

pub desk_long : (input : List ℕ) → most < length input → desk_text input ≡ header ++ line_text 0 (code "?") (refused 9)
unfolding desk_text call_text call_says
desk_long input h = rw (lt-ltb most (length input) h)

pub desk_lines : (input : List ℕ) → length input ≤ most → desk_text input ≡ header ++ lines_text 0 [] (lines_of input)
unfolding desk_text
desk_lines input h = rw (le-ltb most (length input) h)
