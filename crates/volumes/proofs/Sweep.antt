-- The reach and the extent that the code answers.
use Rattle.std.proofs.Common.{◌≡◌, ◌*◌, ◌≤◌, Bool, true, false, cond, [], ◌∷◌, ℤ, pos, ◌*ℤ◌, nat_abs, Ok, Err, Result, sym, refl, ap, ◌∙◌, subst, ap₂, w64, SFits, to_z, of_z}
use Rattle.std.proofs.lemmas.Int.{to_z-of_z}
use Rattle.geometry.specs.Limits.{in_run_limits}
use Rattle.geometry.specs.Light.{run_of}
use Rattle.geometry.proofs.Ranges.{in_run_limits_lem}
use Rattle.geometry.specs.declared.light.Run.{Run}
use Rattle.geometry.specs.declared.refusal.Refusal.{Refusal}
use Rattle.geometry.specs.declared.refusal.Refusal.TheVariants as refusal
use Rattle.volumes.specs.Extent.{reach, extent}
use Rattle.volumes.specs.Machine.{reach_of, list_of, extent_of}
use Rattle.volumes.specs.Near.{Within}
use Rattle.volumes.proofs.Exact.{small}
use Rattle.volumes.proofs.NearFaces.{extent_within}

-- a refusal of the one is a refusal of the other
module _ {X Y : Type 0} (x : X) (y : Y) where
  same_refusal : (t : Bool) (e : Refusal) → ◌≡◌ {A = Result X Refusal} (Err e) (cond t (Ok x) (Err refusal.Run)) → ◌≡◌ {A = Result Y Refusal} (Err e) (cond t (Ok y) (Err refusal.Run))
  same_refusal true e h = cc
  same_refusal false e h = cc

pub refused : (d : Run) (e : Refusal) → Err e ≡ reach_of d → Err e ≡ extent_of d
refused d e h = same_refusal _ _ (in_run_limits (run_of d)) e h

-- what is answered is the reach of a lawful run
answer : (t : Bool) (k l : ℤ) → ◌≡◌ {A = Result ℤ Refusal} (Ok k) (cond t (Ok l) (Err refusal.Run)) → (t ≡ true) × (k ≡ l)
answer true k l h = (refl, cc)
answer false k l h = (cc, cc)

module _ (d : Run) (k : ℤ) (h : Ok k ≡ reach_of d) where
  lawful : in_run_limits (run_of d) ≡ true
  lawful = (answer (in_run_limits (run_of d)) k (pos (reach (run_of d))) h).0

  is_reach : k ≡ pos (reach (run_of d))
  is_reach = (answer (in_run_limits (run_of d)) k (pos (reach (run_of d))) h).1

  pub near : Within (16385 * 1024) (extent (run_of d))
  near = extent_within (run_of d) (in_run_limits_lem (run_of d) lawful)

  -- each part as the code computes it
  module _ (fk : SFits w64 k) where
    part : (x : ℤ) → SFits w64 x → to_z w64 (of_z w64 k) *ℤ to_z w64 (of_z w64 x) ≡ pos (reach (run_of d)) *ℤ x
    part x fx = ap₂ ◌*ℤ◌ (to_z-of_z w64 k fk ∙ is_reach) (to_z-of_z w64 x fx)

    pub part_fits : (x : ℤ) → SFits w64 x → nat_abs (pos (reach (run_of d)) *ℤ x) ≤ 16385 * 1024 → SFits w64 (to_z w64 (of_z w64 k) *ℤ to_z w64 (of_z w64 x))
    part_fits x fx b = subst (SFits w64) (sym (part x fx)) (small (pos (reach (run_of d)) *ℤ x) (16385 * 1024) b tt)

    part_is : (x : ℤ) → SFits w64 x → nat_abs (pos (reach (run_of d)) *ℤ x) ≤ 16385 * 1024
        → to_z w64 (of_z w64 (to_z w64 (of_z w64 k) *ℤ to_z w64 (of_z w64 x))) ≡ pos (reach (run_of d)) *ℤ x
    part_is x fx b = ap (λ z. to_z w64 (of_z w64 z)) (part x fx) ∙ to_z-of_z w64 (pos (reach (run_of d)) *ℤ x) (small (pos (reach (run_of d)) *ℤ x) (16385 * 1024) b tt)

    pub answered : SFits w64 d.dx → SFits w64 d.dy → SFits w64 d.dz
        → Ok (to_z w64 (of_z w64 (to_z w64 (of_z w64 k) *ℤ to_z w64 (of_z w64 d.dx))) ∷ to_z w64 (of_z w64 (to_z w64 (of_z w64 k) *ℤ to_z w64 (of_z w64 d.dy)))
        ∷ to_z w64 (of_z w64 (to_z w64 (of_z w64 k) *ℤ to_z w64 (of_z w64 d.dz))) ∷ []) ≡ extent_of d
    answered fx fy fz =
        (λ i. Ok (part_is d.dx fx near.x i ∷ part_is d.dy fy near.y i ∷ part_is d.dz fz near.z i ∷ []))
        ∙ sym (ap (λ (t : Bool). cond t (Ok (list_of (extent (run_of d)))) (Err refusal.Run)) lawful)
