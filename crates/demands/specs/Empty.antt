-- Document 01's five empty versions, shut out: what no version that meets the promise does, whatever it remembers. Each is a statement
-- about all versions, proved in proofs/Empty; the calls on which the empty ones fail stand in Witnesses. Assumes nothing.
use Rattle.std.specs.Prelude.{◌≡◌, List, [], ◌∷◌, ℕ, ◌/◌, ◌%◌, ◌^◌, ◌<◌}
use Rattle.std.specs.Int.Count.{ones}
use Rattle.model.specs.Answers.{Said, refused, listed}
use Rattle.laws.specs.WellFormed.{WellTable}
use Rattle.demands.specs.Asked.{Asked, update, meet, compare, superfluous}
use Rattle.demands.specs.Listing.{EqualOrNewer}
use Rattle.demands.specs.Versions.{Version, Name, name_of}

pub record ShutOut (v : Version) : Type 0 where
  -- 'Refusing everything': no call refuses whatever it is asked, after no number of calls,
  pub refusing : (c : Name) (k : ℕ) → ((q : Asked) → name_of q ≡ c → (r : ℕ) × ((v k q).said ≡ refused r)) → ⊥
  -- and no update with a valid number is refused on a well-formed table.
  pub refusing_update : {n : ℕ} {t : List ℕ} → WellTable n t → (p : ℕ) → p < n → (k r : ℕ) → (v k (update t p)).said ≡ refused r → ⊥
  -- 'One constant answer': no call has one, and on well-formed tables no comparison and no list has one.
  pub constant : (c : Name) (k : ℕ) (s : Said) → ((q : Asked) → name_of q ≡ c → (v k q).said ≡ s) → ⊥
  pub constant_comparison : (k : ℕ) (s : Said) → ((n : ℕ) (t : List ℕ) (a b : ℕ) → WellTable n t → a < n → b < n → (v k (compare t a b)).said ≡ s) → ⊥
  pub constant_list : (k : ℕ) (s : Said) → ((n : ℕ) (t : List ℕ) → WellTable n t → (v k (superfluous t)).said ≡ s) → ⊥
  -- 'An update or meeting that writes nothing': an update with a valid number changes every well-formed table, and some meeting writes.
  pub idle_update : {n : ℕ} {t : List ℕ} → WellTable n t → (p : ℕ) → p < n → (k : ℕ) → (v k (update t p)).lent ≡ t ∷ [] → ⊥
  pub idle_meeting : (k : ℕ) → ((t : List ℕ) (a b : ℕ) → (v k (meet t a b)).lent ≡ t ∷ []) → ⊥
  -- 'Real work at the first update or meeting and a show at later ones': after k calls the outcome is what it is at the first.
  pub show_later : (k : ℕ) (q : Asked) → ((v k q).said ≡ (v 0 q).said) × ((v k q).lent ≡ (v 0 q).lent)
  -- 'A made-up count or mask': on a well-formed table no bit is set of a copy that none covers, none is missing of one that is
  -- covered, and no count is another than the number of ones.
  pub made_up_bit : {n : ℕ} {t : List ℕ} → WellTable n t → (k mask c : ℕ) → (v k (superfluous t)).said ≡ listed mask c
      → (i : ℕ) → i < n → mask / 2 ^ i % 2 ≡ 1 → ((j : ℕ) → j < n → (j ≡ i → ⊥) → EqualOrNewer t j i → ⊥) → ⊥
  pub missing_bit : {n : ℕ} {t : List ℕ} → WellTable n t → (k mask c : ℕ) → (v k (superfluous t)).said ≡ listed mask c
      → (i : ℕ) → i < n → (mask / 2 ^ i % 2 ≡ 1 → ⊥) → (j : ℕ) → j < n → (j ≡ i → ⊥) → EqualOrNewer t j i → ⊥
  pub made_up_count : {n : ℕ} {t : List ℕ} → WellTable n t → (k mask c : ℕ) → (v k (superfluous t)).said ≡ listed mask c → (c ≡ ones mask → ⊥) → ⊥
