-- The library meets the promise, so the demands hold of it (specs/Library has the definitions). Assumes nothing.
use Rattle.std.specs.Prelude.{◌≡◌, List, ℕ, ◌≤◌, length}
use Rattle.std.proofs.Common.{◌∙◌}
use contract.Lifetimes.{Lfts}
use Rattle.model.specs.Answers.{done}
use Rattle.model.specs.Bytes.{table_size}
use Rattle.model.specs.History.{Call}
use Rattle.demands.specs.Asked.{Asked, Roomy, own_of, lent_to, numbers_of, rows_of}
use Rattle.demands.specs.Versions.{Version, Meets, Name, Fresh, Check, Update, Meet, Compare, Lend, Superfluous, CheckRecord, CompareRecords, MeetRecords, ReadRows, WriteRows, name_of}
use Rattle.demands.specs.Serves.{Serves, allowed_owed}
use Rattle.demands.specs.CallContracts.{fresh_serves, check_serves, update_serves, meet_serves, compare_serves, lend_number_serves, list_serves, check_record_serves, compare_records_serves, meet_records_serves, read_rows_serves, write_rows_serves}
use Rattle.demands.specs.Demands.{Obeys, demand_1, demand_3}
use Rattle.demands.specs.Empty.{ShutOut}
use Rattle.demands.proofs.Empty.{shut_out}
use Rattle.demands.specs.Lived.{lived_from, from_run}
use Rattle.demands.specs.Library.{service_of, Library, Lives, lives}

pub every_serves : (κs : Lfts 2) (c : Name) → Serves (service_of κs c)
every_serves κs Fresh = fresh_serves (κs.0, tt)
every_serves κs Check = check_serves (κs.0, tt)
every_serves κs Update = update_serves (κs.0, tt)
every_serves κs Meet = meet_serves (κs.0, tt)
every_serves κs Compare = compare_serves (κs.0, tt)
every_serves κs Lend = lend_number_serves (κs.0, tt)
every_serves κs Superfluous = list_serves (κs.0, tt)
every_serves κs CheckRecord = check_record_serves (κs.0, tt)
every_serves κs CompareRecords = compare_records_serves κs
every_serves κs MeetRecords = meet_records_serves κs
every_serves κs ReadRows = read_rows_serves (κs.0, tt)
every_serves κs WriteRows = write_rows_serves (κs.0, tt)

pub library_meets : (v : Version) → Library v → Meets v
library_meets v l k q = let (κs, e) = l k q in allowed_owed (service_of κs (name_of q)) (every_serves κs (name_of q)) e

-- ---- Demand 1, and the empty versions

-- Every call of the library answers or refuses as demand 1 has it.
pub library_obeys : (v : Version) → Library v → (k : ℕ) (q : Asked) → Roomy q
    → Obeys (numbers_of q) (rows_of q) (v k q).said (own_of q) (lent_to q) (v k q).lent
library_obeys v lib k q i = let m = library_meets v lib k q in rw (m.answers, m.bytes) (demand_1.every_call q i)

-- It is none of document 01's empty versions.
pub library_real : (v : Version) → Library v → ShutOut v
library_real v lib = shut_out v (library_meets v lib)

-- From a fresh table of n copies, N from 2 to 8, made by the first call.
pub library_lives : (v : Version) → Library v → (n : ℕ) → 2 ≤ n → n ≤ 8 → (b : List ℕ) → length b ≡ table_size n → (l : List Call)
    → ((v 0 (Asked.fresh b n)).said ≡ done) × Lives v n l (lived_from v n b l)
library_lives v lib n low high b room l =
    let m = library_meets v lib in
    let d = demand_3 n low high b room l in
    ((m 0 (Asked.fresh b n)).answers ∙ d.fresh, rw (from_run v m n b l) (lives v m n b l d))
