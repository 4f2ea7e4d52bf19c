-- What the tests before a call say, and what the law of a solid says of the corners of its triangles.
use Rattle.std.proofs.Common.{◌≡◌, ℕ, ◌<◌, Bool, true, false, ltb, ℤ, pos, neg_ℤ, is_some, Some, Option, sym, refl, subst, arith, MatchOption}
use Rattle.std.proofs.lemmas.Int.{ints}
use Rattle.std.proofs.lemmas.Bool.{lt-ltb, both_ways, some_since}
use Rattle.std.proofs.lemmas.Option.{MatchOption-at_some}
use Rattle.geometry.specs.Vectors.{V3}
use Rattle.geometry.specs.Limits.{InLimits}
use Rattle.geometry.proofs.Ranges.{between_low, between_high}
use Rattle.geometry.specs.declared.refusal.Refusal.{Refusal}
use Rattle.solids.specs.Solids.{SolidModel, Corners, Lawful, pick, corners_of}
use Rattle.solids.specs.declared.solid.Triangle.{Triangle}
use Rattle.volumes.specs.Volumes.{corner_of}
use Rattle.planes.specs.Planes.{is_height}
use Rattle.survey.specs.Refusals.{is_ground, unless}

-- a test that holds leaves it to those after it, and one that fails decides
pub passes : (b : Bool) (why : Refusal) (rest r : Option Refusal) → b ≡ true → r ≡ rest → r ≡ unless b why rest
passes true why rest r h e = e
passes false why rest r h e = absurd (both_ways false refl h)

pub fails : (b : Bool) (why : Refusal) (rest : Option Refusal) → b ≡ false → Some why ≡ unless b why rest
fails true why rest h = absurd (both_ways true h refl)
fails false why rest h = refl

-- the ground can be a height
pub ground_is_height : (g : ℤ) → is_ground g ≡ true → is_height g ≡ true
ground_is_height g h =
    let a = between_low (neg_ℤ (pos 8192)) (pos 8192) g h in
    let b = between_high (neg_ℤ (pos 8192)) (pos 8192) g h in
    grind (arith, ints)

-- ---- triangles and their corners
-- each corner of a triangle is within its limits
pub corner_in_limits : (S : SolidModel) → Lawful S → (k s : ℕ) → k < S.triangles → s < 3 → InLimits (corner_of S k s)
corner_in_limits S law k s h t = law.corners_in_limits (pick (S.triangle k) s) (law.numbers_in_range k s h t)

pub point_in_limits : (S : SolidModel) → Lawful S → (k s : ℕ) → k < S.triangles → s < 3 → (u : V3) → u ≡ corner_of S k s → InLimits u
point_in_limits S law k s h t u e = subst InLimits (sym e) (corner_in_limits S law k s h t)

-- and so are its corners
pub corner_there : {X : Type 0} (S : SolidModel) (k s : ℕ) (t : Triangle) (ot : Option Triangle) (o : Option X) (Q : X → Type 0) → Lawful S → k < S.triangles → s < 3
    → MatchOption ot (ltb k S.triangles ≡ false) (λ t. (ltb k S.triangles ≡ true) × (corners_of t ≡ S.triangle k)) → ot ≡ Some t
    → MatchOption o (ltb (pick (corners_of t) s) S.corners ≡ false) Q → is_some o ≡ true
corner_there S k s t ot o Q law h l is at there =
    let e : corners_of t ≡ S.triangle k = (MatchOption-at_some (ltb k S.triangles ≡ false) (λ t. (ltb k S.triangles ≡ true) × (corners_of t ≡ S.triangle k)) t at is).1 in
    let below : pick (corners_of t) s < S.corners = subst (λ (w : Corners). pick w s < S.corners) (sym e) (law.numbers_in_range k s h l) in
    some_since o (ltb (pick (corners_of t) s) S.corners ≡ false) Q there (λ f. both_ways (ltb (pick (corners_of t) s) S.corners) f (lt-ltb (pick (corners_of t) s) S.corners below))
