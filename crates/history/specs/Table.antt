-- All slices: a table of rows beside version vectors. Slices do not touch each other, so the invariant is that of each slice; it holds
-- of fresh rows and is kept by every call (proofs/Table.antt). Assumes N ≥ 2 where an update needs a free symbol.
use Rattle.std.specs.Prelude.{◌≡◌, refl, ◌≢◌, true, not, ◌&&◌, ℕ, suc, ◌≤◌, ◌<◌, eqb, ltb}
use Rattle.std.proofs.Common.{sym, ◌∙◌, add-one, arith, eq-eqb, ne_eqb, ltb-true}
use Rattle.std.proofs.lemmas.Bool.{eqb-false, not-true}
use Rattle.model.specs.Steps.{Table, fresh_rows, new_symbol, updated_table}
use Rattle.model.specs.Vectors.{Vectors, initial_vectors, updated_vectors}
use Rattle.model.specs.History.{meet, is_valid}
use Rattle.facts.specs.Cases.{by_eq, both→}
use Rattle.facts.specs.Members.{In}
use Rattle.laws.specs.Formed.{FormedTable, formed_table_same}
use Rattle.laws.specs.Free.{new_symbol_free}
use Rattle.laws.specs.UpdateKept.{fresh-kept, updated_record-other, updated_table-own, updated_table-other}
use Rattle.history.specs.Inv.{Good}
use Rattle.history.specs.Slice.{good_same, fresh_good}

-- Every slice is explained by a history, and every record is well formed.
pub record Fine (n : ℕ) (t : Table) (v : Vectors) : Type 0 where
  pub slice : (p : ℕ) → p < n → Good n p (λ c k. t c p k) (λ c. v c p)
  pub formed : FormedTable n t

-- Two tables have the same rows, as far as rows count.
abbrev pub SameRows : ℕ → Table → Table → Type 0
SameRows n t t' = (c p k : ℕ) → c < n → p < n → k < n → t c p k ≡ t' c p k

pub fine_same : {n : ℕ} {t t' : Table} {v v' : Vectors} → Fine n t v → SameRows n t' t → ((c p : ℕ) → v' c p ≡ v c p) → Fine n t' v'
fine_same f rows counts =
    record {
      slice = λ p pn. good_same (f.slice p pn) (λ c k cn kn. rows c p k cn pn kn) (λ c cn. counts c p);
      formed = formed_table_same (λ c p k cn pn kn. sym (rows c p k cn pn kn)) f.formed;
    }

-- ---- Fresh

pub fine_fresh : (n : ℕ) → 2 ≤ n → Fine n fresh_rows initial_vectors
unfolding fresh_rows initial_vectors
fine_fresh n two = record { slice = λ p pn. fresh_good n p pn; formed = fresh-kept n (omega arith) }

-- ---- Update of copy p

-- The new symbol stands in no row of slice p in record p.
pub symbol_free : {n : ℕ} {t : Table} → 2 ≤ n → FormedTable n t → (p : ℕ) → p < n → (k : ℕ) → k < n → In (new_symbol n (t p p)) (t p p k) → ⊥
symbol_free {n} {t} two f p pn = new_symbol_free n p (t p p) pn ((f.copy p pn).slice p pn) two

-- Another slice than p keeps its rows and its counters.
pub elsewhere : (n p q : ℕ) (t : Table) → q ≢ p → (c k : ℕ) → updated_table n p t c q k ≡ t c q k
elsewhere n p q t ne c k =
    by_eq c p
    (λ e. rw e (updated_table-own n p t q k ∙ updated_record-other n p (t p) q k ne))
    (λ nc. updated_table-other n p t c q k nc)

pub uncounted : (p : ℕ) (v : Vectors) (c q : ℕ) → (c ≡ p → q ≡ p → ⊥) → updated_vectors p v c q ≡ v c q
unfolding updated_vectors
uncounted p v c q ne =
    by_eq c p
    (λ e. rw (eq-eqb c p e, ne_eqb q p (ne e)))
    (λ nc. rw (ne_eqb c p nc))

pub counted : (p : ℕ) (v : Vectors) → updated_vectors p v p p ≡ suc (v p p)
unfolding updated_vectors
counted p v = rw (eq-eqb p p refl) (add-one (v p p))

-- ---- Every call

-- The numbers of a valid meeting.
pub meet_valid : (n a b : ℕ) → is_valid n (meet a b) ≡ true → (a < n) × (b < n) × (a ≢ b)
unfolding is_valid
meet_valid n a b e =
    let (x, y) = both→ (ltb a n && ltb b n) (not (eqb a b)) e in
    let (z, w) = both→ (ltb a n) (ltb b n) x in
    (ltb-true a n z, ltb-true b n w, eqb-false a b (not-true (eqb a b) y))
