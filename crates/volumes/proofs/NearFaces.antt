-- The faces of lawful triangles under lawful runs are near, and so are the samples of pixels.
use Rattle.std.proofs.Common.{◌≡◌, ℕ, ◌+◌, ◌*◌, ◌/◌, ◌^◌, ◌<◌, ◌≤◌, T, leb, [], ◌∷◌, ℤ, pos, neg_ℤ, nat_abs, ◌≤ℤ◌, sym, refl, subst, le_trans, div-le_self, arith, leb→le}
use borrow.Author.Differences.{ints}
use Rattle.algebra.proofs.Ring.{at, ring}
use Rattle.algebra.proofs.Bounds.{Caps, cap, bound, abs-of_range, abs-mul_le, abs-add_le, abs-within}
use Rattle.geometry.specs.Vectors.{V3, plus, minus, cross}
use Rattle.geometry.specs.Strikes.{normal}
use Rattle.geometry.specs.Limits.{InLimits, LawfulRun}
use Rattle.geometry.proofs.Expressions.{e3, space, eplus, eminus, ecross, enormal}
use Rattle.volumes.specs.Faces.{pixel_sample, near_cap, far_cap, wall}
use Rattle.volumes.specs.Extent.{reach, extent}
use Rattle.volumes.specs.Theorems.{FacesAreNear}
use Rattle.volumes.specs.Near.{Within, by_parts, NearFace, NearSample}

-- ---- vectors
-- a wider bound, and the bounds of products and sums
wider : (a b : ℕ) (u : V3) → T (leb a b) → Within a u → Within b u
wider a b u t h = let l : a ≤ b = leb→le a b t in record { x = le_trans h.x l; y = le_trans h.y l; z = le_trans h.z l }

by_parts_within : (a b : ℕ) (u v : V3) → Within a u → Within b v → Within (a * b) (by_parts u v)
by_parts_within a b u v h k = record { x = abs-mul_le u.x v.x h.x k.x; y = abs-mul_le u.y v.y h.y k.y; z = abs-mul_le u.z v.z h.z k.z }

plus_within : (a b : ℕ) (u v : V3) → Within a u → Within b v → Within (a + b) (plus u v)
plus_within a b u v h k = record { x = abs-add_le u.x v.x h.x k.x; y = abs-add_le u.y v.y h.y k.y; z = abs-add_le u.z v.z h.z k.z }

-- ---- corners, runs and how far they reach
corner_within : (u : V3) → InLimits u → Within 8192 u
corner_within u h = record {
  x = abs-of_range u.x 8192 h.x_low h.x_high;
  y = abs-of_range u.y 8192 h.y_low h.y_high;
  z = abs-of_range u.z 8192 h.z_low h.z_high;
}

run_within : (d : V3) → LawfulRun d → Within 1024 d
run_within d h = record {
  x = abs-of_range d.x 1024 h.x_low h.x_high;
  y = abs-of_range d.y 1024 h.y_low h.y_high;
  z = abs-of_range d.z 1024 h.z_low (low d.z h.z_high);
}
  where
    low : (z : ℤ) → z ≤ℤ neg_ℤ (pos 1) → z ≤ℤ pos 1024
    low z k = omega (arith, ints)

-- no run has more than 16385 steps
reach_near : (d : V3) → reach d ≤ 16385
reach_near d = let h : 16384 / nat_abs d.z ≤ 16384 = div-le_self 16384 (nat_abs d.z) in omega arith

pub extent_within : (d : V3) → LawfulRun d → Within (16385 * 1024) (extent d)
extent_within d h =
    let w = run_within d h in
    let k = reach_near d in
    record { x = abs-mul_le (pos (reach d)) d.x k w.x; y = abs-mul_le (pos (reach d)) d.y k w.y; z = abs-mul_le (pos (reach d)) d.z k w.z }

-- ---- normals
normal_within : (a b c : V3) → Within 8192 a → Within 8192 b → Within 8192 c → Within (2 ^ 29) (normal a b c)
normal_within a b c h k l =
    let corners = space (a ∷ b ∷ c ∷ []) in
    let limits = 8192 ∷ 8192 ∷ 8192 ∷ 8192 ∷ 8192 ∷ 8192 ∷ 8192 ∷ 8192 ∷ 8192 ∷ [] in
    let all : Caps corners limits = (h.x, (h.y, (h.z, (k.x, (k.y, (k.z, (l.x, (l.y, (l.z, tt))))))))) in
    let n = enormal (e3 0) (e3 3) (e3 6) in
    record { x = abs-within corners limits all n.x; y = abs-within corners limits all n.y; z = abs-within corners limits all n.z }

-- to move a triangle does not turn it
pub moved_normal : (a b c e : V3) → normal (plus a e) (plus b e) (plus c e) ≡ normal a b c
moved_normal a b c e =
    let A = e3 0 in let B = e3 3 in let C = e3 6 in let E = e3 9 in
    let ρ = at (space (a ∷ b ∷ c ∷ e ∷ [])) in
    let m = enormal (eplus A E) (eplus B E) (eplus C E) in
    let n = enormal A B C in
    λ i. record { x = ring ρ m.x n.x refl i; y = ring ρ m.y n.y refl i; z = ring ρ m.z n.z refl i }

wall_normal_within : (u v e : V3) → Within 8192 u → Within 8192 v → Within (16385 * 1024) e → Within (2 ^ 40) (cross e (minus v u))
wall_normal_within u v e h k l =
    let corners = space (u ∷ v ∷ e ∷ []) in
    let limits = 8192 ∷ 8192 ∷ 8192 ∷ 8192 ∷ 8192 ∷ 8192 ∷ 16778240 ∷ 16778240 ∷ 16778240 ∷ [] in
    let all : Caps corners limits = (h.x, (h.y, (h.z, (k.x, (k.y, (k.z, (l.x, (l.y, (l.z, tt))))))))) in
    let n = ecross (e3 6) (eminus (e3 3) (e3 0)) in
    wider (bound (cap limits) n.x) (2 ^ 40) (cross e (minus v u)) tt
    record { x = abs-within corners limits all n.x; y = abs-within corners limits all n.y; z = abs-within corners limits all n.z }

-- ---- faces
pub near_cap_near : (a b c : V3) → InLimits a → InLimits b → InLimits c → NearFace (near_cap a b c)
near_cap_near a b c h k l =
    let wa = corner_within a h in
    let wb = corner_within b k in
    let wc = corner_within c l in
    let n = normal_within a b c wa wb wc in
    record {
      first_near = wider 8192 (2 ^ 25) a tt wa;
      others_near = (wider 8192 (2 ^ 25) b tt wb, (wider 8192 (2 ^ 25) c tt wc, tt));
      normal_near = wider (2 ^ 29) (2 ^ 40) (normal a b c) tt n;
      product_near = wider (2 ^ 29 * 8192) (2 ^ 54) (by_parts (normal a b c) a) tt (by_parts_within (2 ^ 29) 8192 (normal a b c) a n wa);
    }

swept_within : (u d : V3) → InLimits u → LawfulRun d → Within (2 ^ 25) (plus u (extent d))
swept_within u d h r = wider (8192 + 16385 * 1024) (2 ^ 25) (plus u (extent d)) tt (plus_within 8192 (16385 * 1024) u (extent d) (corner_within u h) (extent_within d r))

pub far_cap_near : (a b c d : V3) → InLimits a → InLimits b → InLimits c → LawfulRun d → NearFace (far_cap a b c (extent d))
far_cap_near a b c d h k l r =
    let far = normal (plus c (extent d)) (plus b (extent d)) (plus a (extent d)) in
    let n : Within (2 ^ 29) far = subst (Within (2 ^ 29)) (sym (moved_normal c b a (extent d))) (normal_within c b a (corner_within c l) (corner_within b k) (corner_within a h)) in
    let first = swept_within c d l r in
    record {
      first_near = first;
      others_near = (swept_within b d k r, (swept_within a d h r, tt));
      normal_near = wider (2 ^ 29) (2 ^ 40) far tt n;
      product_near = by_parts_within (2 ^ 29) (2 ^ 25) far (plus c (extent d)) n first;
    }

pub wall_near : (u v d : V3) → InLimits u → InLimits v → LawfulRun d → NearFace (wall u v (extent d))
wall_near u v d h k r =
    let wu = corner_within u h in
    let wv = corner_within v k in
    let n = wall_normal_within u v (extent d) wu wv (extent_within d r) in
    record {
      first_near = wider 8192 (2 ^ 25) u tt wu;
      others_near = (swept_within u d h r, (swept_within v d k r, (wider 8192 (2 ^ 25) v tt wv, tt)));
      normal_near = n;
      product_near = wider (2 ^ 40 * 8192) (2 ^ 54) (by_parts (cross (extent d) (minus v u)) u) tt (by_parts_within (2 ^ 40) 8192 (cross (extent d) (minus v u)) u n wu);
    }

-- ---- samples, of planes of at most 256 columns and rows
pub pixel_near : (k l : ℕ) → k < 256 → l < 256 → NearSample (pixel_sample k l)
pixel_near k l h i = record { x = omega arith; y = omega arith }

pub faces_are_near : FacesAreNear
faces_are_near = record { near_caps = near_cap_near; far_caps = far_cap_near; walls = wall_near; samples = pixel_near }
