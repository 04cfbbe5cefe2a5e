-- The five empty versions are shut out, as specs/Empty states it. Assumes nothing.
use Rattle.std.specs.Prelude.{◌≡◌, refl, List, [], ◌∷◌, ℕ}
use Rattle.std.proofs.Common.{sym, ap, ◌∙◌, arith}
use Rattle.model.specs.Answers.{ordered, listed}
use Rattle.model.specs.Bench.{updated, then_met, then_updated}
use Rattle.facts.specs.Cases.{clash}
use Rattle.laws.specs.Reasons.{is_own}
use Rattle.demands.specs.Asked.{update, meet, compare, superfluous}
use Rattle.demands.specs.OnTables.{update_done}
use Rattle.demands.specs.Listing.{list_ones}
use Rattle.demands.proofs.Listing.{list_bit}
use Rattle.demands.specs.Versions.{Version, Meets}
use Rattle.demands.specs.Witnesses.{answered, answered-own, refused_call, refused_own, met_well, updated_well, met_compares, updated_compares, met_listed, updated_listed, meet_changes, update_changes}
use Rattle.demands.specs.Empty.{ShutOut}

-- Every version that meets the promise.
pub shut_out : (v : Version) → Meets v → ShutOut v
shut_out v m =
    record {
      refusing = λ c k h.
          let w = answered-own c in
          let r = h (answered c) w.0 in
          clash w.1 (ap is_own (sym (m k (answered c)).answers ∙ r.1));
      refusing_update = λ {n} {t} w p h k r e. clash refl (ap is_own (sym (update_done w p h) ∙ sym (m k (update t p)).answers ∙ e));
      constant = λ c k s h.
          let x = answered-own c in
          let y = refused_own c in
          clash
          (ap is_own (sym (h (answered c) x.0) ∙ (m k (answered c)).answers) ∙ x.1)
          (ap is_own (sym (h (refused_call c) y.0) ∙ (m k (refused_call c)).answers) ∙ y.1);
      constant_comparison = λ k s h.
          let p : ordered 0 ≡ s = sym met_compares ∙ sym (m k (compare then_met 1 0)).answers ∙ h 2 then_met 1 0 met_well (omega arith) (omega arith) in
          let q : ordered 1 ≡ s = sym updated_compares ∙ sym (m k (compare then_updated 1 0)).answers ∙ h 2 then_updated 1 0 updated_well (omega arith) (omega arith) in
          two_orders (p ∙ sym q);
      constant_list = λ k s h.
          let p : listed 3 2 ≡ s = sym met_listed ∙ sym (m k (superfluous then_met)).answers ∙ h 2 then_met met_well in
          let q : listed 2 1 ≡ s = sym updated_listed ∙ sym (m k (superfluous then_updated)).answers ∙ h 2 then_updated updated_well in
          two_lists (p ∙ sym q);
      idle_update = λ {n} {t} w p h k e. update_changes w p h (only (sym (m k (update t p)).bytes ∙ e));
      idle_meeting = λ k h. meet_changes (only (sym (m k (meet updated 0 1)).bytes ∙ h updated 0 1));
      show_later = λ k q. ((m k q).answers ∙ sym (m 0 q).answers, (m k q).bytes ∙ sym (m 0 q).bytes);
      made_up_bit = λ {n} {t} w k mask c e i h b none.
          let (j, hj, ne, x) = (list_bit w mask c (sym (m k (superfluous t)).answers ∙ e) i h).0 b in
          none j hj ne x;
      missing_bit = λ {n} {t} w k mask c e i h b j hj ne x. b ((list_bit w mask c (sym (m k (superfluous t)).answers ∙ e) i h).1 (j, hj, ne, x));
      made_up_count = λ {n} {t} w k mask c e d. d (list_ones w mask c (sym (m k (superfluous t)).answers ∙ e));
    }
  where
    two_orders : ordered 0 ≡ ordered 1 → ⊥
    two_orders e = let b : ◌≡◌ {A = ℕ} 0 1 = cc in omega arith

    two_lists : listed 3 2 ≡ listed 2 1 → ⊥
    two_lists e = let b : ◌≡◌ {A = ℕ} 3 2 = cc in omega arith

    only : {x y : List ℕ} → x ∷ [] ≡ y ∷ [] → x ≡ y
    only e = cc
