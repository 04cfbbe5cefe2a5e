-- What the mask of the superfluous copies says, as the call's last reason and its answer. Assumes nothing.
use Rattle.std.specs.Prelude.{◌≡◌, List, [], ◌∷◌, ℕ, Ok, Err}
use Rattle.std.proofs.Common.{ap, ◌∙◌}
use Rattle.std.specs.Int.Count.{ones}
use Rattle.model.specs.Tests.{any_pair}
use Rattle.model.specs.Answers.{said, refused, listed, refuse, answer, number_of_refusal}
use Rattle.model.specs.Bytes.{copies_in, table_rows}
use Rattle.model.specs.Calls.{unrelated_copies, copy_order, superfluous_mask_of}
use Rattle.model.specs.declared.Refusal.{Refusal}
use Rattle.pair.specs.Pair.{said_told}
use Rattle.copies.specs.Copies.{apart, order}
use Rattle.superfluous.specs.Mask.{masked}

module _ (t : List ℕ) where
  listing : said (λ m. listed m (ones m)) (masked (copies_in t) (table_rows (copies_in t) t))
      ≡ answer (refuse (any_pair (copies_in t) (unrelated_copies t)) 7 ∷ []) (listed (superfluous_mask_of t) (ones (superfluous_mask_of t)))
  unfolding masked apart order unrelated_copies copy_order superfluous_mask_of
  listing = said_told (λ m. listed m (ones m)) (any_pair (copies_in t) (unrelated_copies t)) (superfluous_mask_of t)

  pub listing_refused : {n : ℕ} → n ≡ copies_in t → (r : Refusal) → Err r ≡ masked n (table_rows n t)
      → refused (number_of_refusal r) ≡ answer (refuse (any_pair (copies_in t) (unrelated_copies t)) 7 ∷ []) (listed (superfluous_mask_of t) (ones (superfluous_mask_of t)))
  listing_refused same r e = ap (said (λ m. listed m (ones m))) (rw same at e) ∙ listing

  pub listing_mask : {n : ℕ} → n ≡ copies_in t → (m : ℕ) → Ok m ≡ masked n (table_rows n t)
      → listed m (ones m) ≡ answer (refuse (any_pair (copies_in t) (unrelated_copies t)) 7 ∷ []) (listed (superfluous_mask_of t) (ones (superfluous_mask_of t)))
  listing_mask same m e = ap (said (λ m. listed m (ones m))) (rw same at e) ∙ listing
