-- A part of a lent buffer that is handed back. Assumes nothing.
use Rattle.std.specs.Prelude.{◌≡◌, List, ℕ}
use Rattle.std.proofs.Common.{sym, ◌∙◌}

-- Those bytes in that place: the buffer the part lies in, where it starts there, and what it holds.
pub record Handed (block start : ℕ) (holds : List ℕ) (ptr : ℕ × ℕ) (now : List ℕ) : Type 0 where
  pub within : ptr.0 ≡ block
  pub at : ptr.1 ≡ start
  pub bytes : now ≡ holds

pub handed_once : {block start : ℕ} {holds : List ℕ} {ptr ptr' : ℕ × ℕ} {now now' : List ℕ}
    → Handed block start holds ptr now → Handed block start holds ptr' now' → (ptr.0 ≡ ptr'.0) × (ptr.1 ≡ ptr'.1) × (now ≡ now')
handed_once x y = (x.within ∙ sym y.within, x.at ∙ sym y.at, x.bytes ∙ sym y.bytes)
