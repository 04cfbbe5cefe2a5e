-- Document 01's 'Shortcuts that lose a claim': for each one a short history from fresh with the bytes of slice 0 and the answers that
-- document 01 gives. The one theorem that the definitions give them, by computation, stands in proofs/Shortcuts.antt: each shortcut,
-- made in the definitions, is refused there. Assumes nothing.
use Rattle.std.specs.Prelude.{List, [], ◌∷◌, ℕ}
use Rattle.model.specs.Answers.{ordered}
use Rattle.model.specs.History.{update, meet}
use Rattle.model.specs.Worked.{Seen, bytes, said, after, slice_seen, checked, compared}

pub data Shortcut : Type 0 where
  comparing_symbols_as_numbers : Shortcut
  freeing_what_the_principal_row_dropped : Shortcut
  writing_a_before_b_is_read : Shortcut
  taking_the_winners_cached_row : Shortcut
  reading_missing_as_greatest : Shortcut

pub record Case : Type 0 where
  pub shortcut : Shortcut
  pub got : List Seen
  pub wanted : List Seen

-- N = 3: U 0, U 0, M 2 0, U 0, M 1 2, M 2 0, U 0, M 1 0. Symbol 0 is reused and is the greatest.
unfoldable pub reused : List ℕ
reused = after 3 (update 0 ∷ update 0 ∷ meet 2 0 ∷ update 0 ∷ meet 1 2 ∷ meet 2 0 ∷ update 0 ∷ meet 1 0 ∷ [])

-- N = 3: U 0, M 0 2, M 1 0, U 0. The principal row dropped 0, and a cached row still holds it.
unfoldable pub dropped : List ℕ
dropped = after 3 (update 0 ∷ meet 0 2 ∷ meet 1 0 ∷ update 0 ∷ [])

-- N = 2: U 0, M 0 1. Once record 0 is written, neither head is found in the other's principal row.
unfoldable pub both_written : List ℕ
both_written = after 2 (update 0 ∷ meet 0 1 ∷ [])

-- N = 3: U 0, M 0 1, U 0, M 1 2, M 0 1, M 0 1. Record 0 knows a newer row 2 than the winner.
unfoldable pub cached : List ℕ
cached = after 3 (update 0 ∷ meet 0 1 ∷ update 0 ∷ meet 1 2 ∷ meet 0 1 ∷ meet 0 1 ∷ [])

-- N = 3: U 0, M 0 2, M 1 2, M 1 0. Both cached rows of copy 2 have the same head, and each record keeps its own.
unfoldable pub equal_heads : List ℕ
equal_heads = after 3 (update 0 ∷ meet 0 2 ∷ meet 1 2 ∷ meet 1 0 ∷ [])

-- N = 3: U 0, M 2 0, M 0 1, U 0, M 0 2. Record 2's head of row 1 is missing from the winning row.
unfoldable pub missing : List ℕ
missing = after 3 (update 0 ∷ meet 2 0 ∷ meet 0 1 ∷ update 0 ∷ meet 0 2 ∷ [])

unfoldable pub cases : List Case
unfolding checked compared slice_seen reused dropped both_written cached equal_heads missing
cases =
    record {
      shortcut = comparing_symbols_as_numbers;
      got = slice_seen reused 0 0 ∷ slice_seen reused 1 0 ∷ compared reused 0 2 ∷ [];
      wanted =
          bytes (2 ∷ 0 ∷ 1 ∷ 0xFF ∷ 2 ∷ 0 ∷ 1 ∷ 0xFF ∷ 2 ∷ 1 ∷ 2 ∷ 0xFF ∷ [])
          ∷ bytes (2 ∷ 0 ∷ 1 ∷ 0xFF ∷ 2 ∷ 0 ∷ 1 ∷ 0xFF ∷ 2 ∷ 1 ∷ 2 ∷ 0xFF ∷ [])
          ∷ said (ordered 2)
          ∷ [];
    }
    ∷ record {
      shortcut = freeing_what_the_principal_row_dropped;
      got = slice_seen dropped 0 0 ∷ compared dropped 0 2 ∷ [];
      wanted = bytes (2 ∷ 2 ∷ 1 ∷ 0xFF ∷ 1 ∷ 1 ∷ 0xFF ∷ 0xFF ∷ 2 ∷ 1 ∷ 0 ∷ 0xFF ∷ []) ∷ said (ordered 2) ∷ [];
    }
    ∷ record {
      shortcut = writing_a_before_b_is_read;
      got = slice_seen both_written 0 0 ∷ slice_seen both_written 1 0 ∷ compared both_written 0 1 ∷ [];
      wanted = bytes (1 ∷ 1 ∷ 0xFF ∷ 1 ∷ 1 ∷ 0xFF ∷ []) ∷ bytes (1 ∷ 1 ∷ 0xFF ∷ 1 ∷ 1 ∷ 0xFF ∷ []) ∷ said (ordered 0) ∷ [];
    }
    ∷ record {
      shortcut = taking_the_winners_cached_row;
      got = slice_seen cached 0 0 ∷ compared cached 0 2 ∷ slice_seen equal_heads 0 0 ∷ slice_seen equal_heads 1 0 ∷ [];
      wanted =
          bytes (2 ∷ 2 ∷ 1 ∷ 0xFF ∷ 2 ∷ 2 ∷ 1 ∷ 0xFF ∷ 1 ∷ 1 ∷ 0xFF ∷ 0xFF ∷ [])
          ∷ said (ordered 2)
          ∷ bytes (1 ∷ 1 ∷ 0xFF ∷ 0xFF ∷ 1 ∷ 1 ∷ 0xFF ∷ 0xFF ∷ 2 ∷ 1 ∷ 0 ∷ 0xFF ∷ [])
          ∷ bytes (1 ∷ 1 ∷ 0xFF ∷ 0xFF ∷ 1 ∷ 1 ∷ 0xFF ∷ 0xFF ∷ 1 ∷ 1 ∷ 0xFF ∷ 0xFF ∷ [])
          ∷ [];
    }
    ∷ record {
      shortcut = reading_missing_as_greatest;
      got = slice_seen missing 0 0 ∷ slice_seen missing 2 0 ∷ compared missing 0 1 ∷ [];
      wanted =
          bytes (2 ∷ 2 ∷ 1 ∷ 0xFF ∷ 1 ∷ 1 ∷ 0xFF ∷ 0xFF ∷ 2 ∷ 2 ∷ 1 ∷ 0xFF ∷ [])
          ∷ bytes (2 ∷ 2 ∷ 1 ∷ 0xFF ∷ 1 ∷ 1 ∷ 0xFF ∷ 0xFF ∷ 2 ∷ 2 ∷ 1 ∷ 0xFF ∷ [])
          ∷ said (ordered 2)
          ∷ [];
    }
    ∷ []
