-- The faces that the code makes, from the vectors that it puts into them.
use Rattle.std.proofs.Common.{◌≡◌, ℕ, ◌^◌, T, ltb, List, [], ◌∷◌, map, ℤ, Some, None, sym, refl, ap, ◌∙◌, subst, ap₂}
use Rattle.geometry.specs.Vectors.{V3, plus, minus, cross}
use Rattle.geometry.specs.Machine.{vector_of, wrapped3}
use Rattle.geometry.specs.Strikes.{normal}
use Rattle.geometry.specs.Limits.{InLimits, LawfulRun}
use Rattle.geometry.proofs.Exact.{Fits3, wrapped3_fits, cross_wrapped_right}
use Rattle.volumes.specs.Faces as faces
use Rattle.volumes.specs.Faces.{near_cap, far_cap, wall}
use Rattle.volumes.specs.Extent.{extent}
use Rattle.volumes.specs.Machine.{face_of}
use Rattle.volumes.specs.Wrapped.{wrapped_face}
use Rattle.volumes.specs.Near.{Within, AllWithin, NearFace}
use Rattle.volumes.proofs.Exact.{small}
use Rattle.volumes.proofs.NearFaces.{near_cap_near, far_cap_near, wall_near, moved_normal}

-- ---- of what is near, 64 bits keep all
kept3 : (b : ℕ) (u : V3) → T (ltb b (2 ^ 63)) → Within b u → wrapped3 u ≡ u
kept3 b u t h = wrapped3_fits u record { x = small u.x b h.x t; y = small u.y b h.y t; z = small u.z b h.z t }

all_kept : (us : List V3) → AllWithin (2 ^ 25) us → map wrapped3 us ≡ us
all_kept [] h = refl
all_kept (u ∷ us) h = ap₂ (λ (v : V3) (vs : List V3). v ∷ vs) (kept3 (2 ^ 25) u tt h.0) (all_kept us h.1)

pub face_kept : (f : faces.Face) → NearFace f → wrapped_face f ≡ f
face_kept f near =
    let p = kept3 (2 ^ 25) f.first tt near.first_near in
    let q = all_kept f.others near.others_near in
    let r = kept3 (2 ^ 40) f.normal tt near.normal_near in
    λ i. record { first = p i; others = q i; normal = r i }

-- ---- a corner of the code that is put in as it is
as_it_is : (u v : V3) → u ≡ v → Fits3 v → u ≡ wrapped3 v
as_it_is u v e f = e ∙ sym (wrapped3_fits v f)

module _ (a b c : V3) (A B C N : List ℤ) (fa : Fits3 a) (fb : Fits3 b) (fc : Fits3 c) where
  pub near_made : vector_of A ≡ a → vector_of B ≡ b → vector_of C ≡ c → vector_of N ≡ wrapped3 (normal a b c)
      → face_of record { first = A; second = B; third = C; fourth = None; normal = N } ≡ wrapped_face (near_cap a b c)
  near_made p q r n =
      let p' = as_it_is (vector_of A) a p fa in
      let q' = as_it_is (vector_of B) b q fb in
      let r' = as_it_is (vector_of C) c r fc in
      λ i. record { first = p' i; others = q' i ∷ r' i ∷ []; normal = n i }

module _ (a b c e : V3) (A B C N : List ℤ) where
  pub far_made : vector_of C ≡ wrapped3 (plus c e) → vector_of B ≡ wrapped3 (plus b e) → vector_of A ≡ wrapped3 (plus a e) → vector_of N ≡ wrapped3 (normal c b a)
      → face_of record { first = C; second = B; third = A; fourth = None; normal = N } ≡ wrapped_face (far_cap a b c e)
  far_made p q r n =
      let n' = n ∙ ap wrapped3 (sym (moved_normal c b a e)) in
      λ i. record { first = p i; others = q i ∷ r i ∷ []; normal = n' i }

module _ (u v e : V3) (U M W V N D : List ℤ) (fu : Fits3 u) (fv : Fits3 v) where
  pub wall_made : vector_of U ≡ u → vector_of M ≡ wrapped3 (plus u e) → vector_of W ≡ wrapped3 (plus v e) → vector_of V ≡ v
      → vector_of D ≡ wrapped3 (minus v u) → vector_of N ≡ wrapped3 (cross e (vector_of D))
      → face_of record { first = U; second = M; third = W; fourth = Some V; normal = N } ≡ wrapped_face (wall u v e)
  wall_made p q r s d n =
      let p' = as_it_is (vector_of U) u p fu in
      let s' = as_it_is (vector_of V) v s fv in
      let n' : vector_of N ≡ wrapped3 (cross e (minus v u))
      = n ∙ ap (λ x. wrapped3 (cross e x)) d ∙ cross_wrapped_right e (minus v u) in
      λ i. record { first = p' i; others = q i ∷ r i ∷ s' i ∷ []; normal = n' i }

-- ---- and where the corners and the run are lawful
pub near_exact : (a b c : V3) → InLimits a → InLimits b → InLimits c → wrapped_face (near_cap a b c) ≡ near_cap a b c
near_exact a b c h k l = face_kept (near_cap a b c) (near_cap_near a b c h k l)

pub far_exact : (a b c e d : V3) → LawfulRun d → e ≡ extent d → InLimits a → InLimits b → InLimits c → wrapped_face (far_cap a b c e) ≡ far_cap a b c e
far_exact a b c e d r is h k l = face_kept (far_cap a b c e) (subst (λ (v : V3). NearFace (far_cap a b c v)) (sym is) (far_cap_near a b c d h k l r))

pub wall_exact : (u v e d : V3) → LawfulRun d → e ≡ extent d → InLimits u → InLimits v → wrapped_face (wall u v e) ≡ wall u v e
wall_exact u v e d r is h k = face_kept (wall u v e) (subst (λ (x : V3). NearFace (wall u v x)) (sym is) (wall_near u v d h k r))
