-- Document 01's bench sheet: P1 to P12 as one list of cases, each with what the calls' definitions give on bytes and what the sheet
-- wants. The one theorem that they are the same, by computation, stands in proofs/Bench.antt. Assumes nothing.
use Rattle.std.specs.Prelude.{List, [], ◌∷◌, ℕ}
use Rattle.model.specs.Steps.{fresh_rows}
use Rattle.model.specs.Answers.{refused, done, ordered, listed}
use Rattle.model.specs.Bytes.{table_bytes, record_in}
use Rattle.model.specs.Calls.{meet_leaves}
use Rattle.model.specs.History.{update, meet}
use Rattle.model.specs.Worked.{Seen, bytes, rows, said, fresh, after, slice_rows, checked, compared, met, listing, compared_loose, checked_loose, forged}

pub data Name : Type 0 where
  P1 P2 P3 P4 P5 P6 P7 P8 P9 P10 P11 P12 : Name

pub record Case : Type 0 where
  pub name : Name
  pub got : List Seen
  pub wanted : List Seen

-- N = 2 fresh; then update 0; again; again; then 0 meets 1; then update 0.
unfoldable pub updated : List ℕ
updated = after 2 (update 0 ∷ [])

unfoldable pub updated_again : List ℕ
updated_again = after 2 (update 0 ∷ update 0 ∷ [])

unfoldable pub updated_thrice : List ℕ
updated_thrice = after 2 (update 0 ∷ update 0 ∷ update 0 ∷ [])

unfoldable pub then_met : List ℕ
then_met = after 2 (update 0 ∷ update 0 ∷ update 0 ∷ meet 0 1 ∷ [])

unfoldable pub then_updated : List ℕ
then_updated = after 2 (update 0 ∷ update 0 ∷ update 0 ∷ meet 0 1 ∷ update 0 ∷ [])

-- N = 3, the program's calls: U 0, U 2, M 1 2, M 0 1, with its comparisons in between; then 1 meets 2.
unfoldable pub program : List ℕ
program = after 3 (update 0 ∷ update 2 ∷ meet 1 2 ∷ meet 0 1 ∷ [])

unfoldable pub program_then_met : List ℕ
program_then_met = after 3 (update 0 ∷ update 2 ∷ meet 1 2 ∷ meet 0 1 ∷ meet 1 2 ∷ [])

-- N = 2, slice 0 forged to 1 / 1 in record 0 and 2 / 2 in record 1: neither head is found.
unfoldable pub neither_found : List ℕ
neither_found = table_bytes 2 (forged 0 ((1 ∷ []) ∷ (1 ∷ []) ∷ []) (forged 1 ((2 ∷ []) ∷ (2 ∷ []) ∷ []) fresh_rows))

-- Slice 0 of record 0 is 1 2 / 2, of record 1 is 1 / 2 1: both heads are found.
unfoldable pub both_found : List ℕ
both_found = table_bytes 2 (forged 0 ((1 ∷ 2 ∷ []) ∷ (2 ∷ []) ∷ []) (forged 1 ((1 ∷ []) ∷ (2 ∷ 1 ∷ []) ∷ []) fresh_rows))

-- Slice 0 of record 0 is 1 / 0: the head 0 is missing from the principal row.
unfoldable pub head_missing : List ℕ
head_missing = table_bytes 2 (forged 0 ((1 ∷ []) ∷ (0 ∷ []) ∷ []) fresh_rows)

unfoldable pub cases : List Case
unfolding checked compared met listing compared_loose checked_loose slice_rows forged updated updated_again updated_thrice then_met then_updated program program_then_met neither_found both_found head_missing
cases =
    record {
      name = P1;
      got = bytes (record_in 2 (fresh 2) 0) ∷ [];
      wanted =
          bytes (0xB5 ∷ 0x0A ∷ 0x02 ∷ 0x00 ∷ 0x01 ∷ 0x00 ∷ 0xFF ∷ 0x01 ∷ 0x00 ∷ 0xFF ∷ 0x01 ∷ 0x00 ∷ 0xFF ∷ 0x01 ∷ 0x00 ∷ 0xFF ∷ [])
          ∷ [];
    }
    ∷ record { name = P2; got = slice_rows updated 0 0 ∷ []; wanted = rows ((1 ∷ 0 ∷ []) ∷ (0 ∷ []) ∷ []) ∷ [] }
    ∷ record { name = P3; got = slice_rows updated_again 0 0 ∷ []; wanted = rows ((2 ∷ 0 ∷ []) ∷ (0 ∷ []) ∷ []) ∷ [] }
    ∷ record { name = P4; got = slice_rows updated_thrice 0 0 ∷ []; wanted = rows ((1 ∷ 0 ∷ []) ∷ (0 ∷ []) ∷ []) ∷ [] }
    ∷ record {
      name = P5;
      got = slice_rows then_met 0 0 ∷ slice_rows then_met 1 0 ∷ [];
      wanted = rows ((1 ∷ []) ∷ (1 ∷ []) ∷ []) ∷ rows ((1 ∷ []) ∷ (1 ∷ []) ∷ []) ∷ [];
    }
    ∷ record {
      name = P6;
      got = slice_rows then_updated 0 0 ∷ compared then_updated 1 0 ∷ [];
      wanted = rows ((0 ∷ 1 ∷ []) ∷ (1 ∷ []) ∷ []) ∷ said (ordered 1) ∷ [];
    }
    ∷ record {
      name = P7;
      got =
          slice_rows program 0 2
          ∷ slice_rows program 1 2
          ∷ compared (after 3 (update 0 ∷ [])) 0 1
          ∷ compared (after 3 (update 0 ∷ update 2 ∷ [])) 0 2
          ∷ compared (after 3 (update 0 ∷ update 2 ∷ meet 1 2 ∷ [])) 1 2
          ∷ compared program 1 2
          ∷ met program 1 1
          ∷ compared program 0 1
          ∷ [];
      wanted =
          rows ((1 ∷ []) ∷ (1 ∷ []) ∷ (1 ∷ 0 ∷ []) ∷ [])
          ∷ rows ((1 ∷ []) ∷ (1 ∷ []) ∷ (1 ∷ 0 ∷ []) ∷ [])
          ∷ said (ordered 2)
          ∷ said (ordered 3)
          ∷ said (ordered 0)
          ∷ said (ordered 2)
          ∷ said (refused 6)
          ∷ said (ordered 0)
          ∷ [];
    }
    ∷ record {
      name = P8;
      got =
          slice_rows program_then_met 1 0
          ∷ slice_rows program_then_met 2 0
          ∷ slice_rows program_then_met 1 2
          ∷ slice_rows program_then_met 2 2
          ∷ compared program_then_met 0 1
          ∷ compared program_then_met 1 2
          ∷ compared program_then_met 0 2
          ∷ [];
      wanted =
          rows ((1 ∷ 0 ∷ []) ∷ (1 ∷ []) ∷ (1 ∷ []) ∷ [])
          ∷ rows ((1 ∷ 0 ∷ []) ∷ (1 ∷ []) ∷ (1 ∷ []) ∷ [])
          ∷ rows ((1 ∷ []) ∷ (1 ∷ []) ∷ (1 ∷ []) ∷ [])
          ∷ rows ((1 ∷ []) ∷ (1 ∷ []) ∷ (1 ∷ []) ∷ [])
          ∷ said (ordered 0)
          ∷ said (ordered 0)
          ∷ said (ordered 0)
          ∷ [];
    }
    ∷ record {
      name = P9;
      got =
          checked neither_found
          ∷ compared neither_found 0 1
          ∷ met neither_found 0 1
          ∷ bytes (meet_leaves neither_found 0 1)
          ∷ compared_loose neither_found 0 1
          ∷ [];
      wanted = said done ∷ said (refused 7) ∷ said (refused 7) ∷ bytes neither_found ∷ said (refused 7) ∷ [];
    }
    ∷ record {
      name = P10;
      got =
          checked both_found
          ∷ compared both_found 0 1
          ∷ met both_found 0 1
          ∷ bytes (meet_leaves both_found 0 1)
          ∷ compared_loose both_found 0 1
          ∷ [];
      wanted = said done ∷ said (refused 7) ∷ said (refused 7) ∷ bytes both_found ∷ said (refused 7) ∷ [];
    }
    ∷ record {
      name = P11;
      got = checked head_missing ∷ checked_loose head_missing 0 ∷ compared head_missing 0 1 ∷ compared_loose head_missing 1 0 ∷ [];
      wanted = said (refused 4) ∷ said (refused 4) ∷ said (refused 4) ∷ said (refused 4) ∷ [];
    }
    ∷ record { name = P12; got = listing (after 3 (update 0 ∷ [])) ∷ []; wanted = said (listed 6 2) ∷ [] }
    ∷ []
