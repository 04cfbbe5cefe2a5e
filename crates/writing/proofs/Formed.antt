-- When the record that would be written is well formed: the own number is below N, and each slice is. Assumes of the rows that they come
-- in their room.
use Rattle.std.specs.Prelude.{◌≡◌, ◌&&◌, ℕ, ◌≤◌, ◌<◌, ltb}
use Rattle.std.proofs.Common.{refl, sym, ap, ◌∙◌, eq-eqb}
use Rattle.parts.specs.Parts.{part, join, join_same, join_whole}
use Rattle.model.specs.Tests.{all}
use Rattle.model.specs.Bytes.{row_size, header_bytes, marked, copies_in, own_in, slice_in, slice_is_formed, header_is_formed, record_is_formed}
use Rattle.model.specs.Calls.{row_passed, record_passed}
use Rattle.model.specs.declared.Rows.{Rows}
use Rattle.facts.specs.Numbers.{all_same}
use Rattle.laws.specs.Layout.{length-slice_in}
use Rattle.laws.specs.Given.{InRoom, passed_size, passed_row}

module _ (x : Rows) (fits : InRoom x) (few : x.n ≤ 8) where
  passed_slice : (p : ℕ) → p < x.n → slice_in x.n (record_passed x) p ≡ join x.n (row_passed x p)
  passed_slice p h =
      sym (join_whole (row_size x.n) x.n (slice_in x.n (record_passed x) p) (length-slice_in x.n (record_passed x) p (passed_size x fits few) h))
      ∙ join_same x.n (λ k. part (row_size x.n) k (slice_in x.n (record_passed x) p)) (row_passed x p) (λ k l. passed_row x fits few p k h l)

  pub passed_is_formed : record_is_formed x.n (record_passed x) ≡ (ltb x.own x.n && all x.n (λ p. slice_is_formed x.n x.own (join x.n (row_passed x p))))
  unfolding record_is_formed header_is_formed record_passed header_bytes marked copies_in own_in
  passed_is_formed =
      rw (eq-eqb x.n x.n refl)
      (ap (λ b. ltb x.own x.n && b)
      (all_same x.n (λ p. slice_is_formed x.n x.own (slice_in x.n (record_passed x) p)) (λ p. slice_is_formed x.n x.own (join x.n (row_passed x p)))
      (λ p h. ap (slice_is_formed x.n x.own) (passed_slice p h))))
