-- No number of the strike test leaves 64 bits, from the limits of coordinates and runs.
use Rattle.std.proofs.Common.{◌≡◌, ◌≤◌, List, [], ◌∷◌, ℤ, pos, neg_ℤ, nat_abs, ◌≤ℤ◌, ◌∙◌, ap₂, arith, w64, SFits}
use borrow.Author.Differences.{ints}
use lib.Signed.{le_z_yes}
use Rattle.algebra.proofs.Bounds.{AllUnder, fits_under}
use Rattle.geometry.specs.Vectors.{V3, minus, dot, cross}
use Rattle.geometry.specs.Strikes.{normal}
use Rattle.geometry.specs.Limits.{InLimits, InReceiverLimits, LawfulRun}
use Rattle.geometry.proofs.Expressions.{e3, space, eminus, edot, ecross, enormal}
use Rattle.geometry.specs.Machine.{vector_of, wrapped3}
use Rattle.geometry.proofs.Exact.{Fits3, wrapped3_fits, cross_wrapped_right}

-- each part of the vector is at most 8193 from 0: a bound for all that the test starts from
pub record Near (u : V3) : Type 0 where
  pub x : nat_abs u.x ≤ 8193
  pub y : nat_abs u.y ≤ 8193
  pub z : nat_abs u.z ≤ 8193

-- a number within limits that are no wider is that near to 0
near : (low high : ℤ) (a : ℤ) → neg_ℤ (pos 8193) ≤ℤ low → high ≤ℤ pos 8193 → low ≤ℤ a → a ≤ℤ high → nat_abs a ≤ 8193
near low high a p q h k = omega (arith, ints)

module _ {u : V3} where
  pub near_corner : InLimits u → Near u
  near_corner h =
      let n : (a : ℤ) → neg_ℤ (pos 8192) ≤ℤ a → a ≤ℤ pos 8192 → nat_abs a ≤ 8193 = λ a. near (neg_ℤ (pos 8192)) (pos 8192) a (le_z_yes tt) (le_z_yes tt) in
      record { x = n u.x h.x_low h.x_high; y = n u.y h.y_low h.y_high; z = n u.z h.z_low h.z_high }

  pub near_receiver : InReceiverLimits u → Near u
  near_receiver h =
      let n : (a : ℤ) → neg_ℤ (pos 8192) ≤ℤ a → a ≤ℤ pos 8192 → nat_abs a ≤ 8193 = λ a. near (neg_ℤ (pos 8192)) (pos 8192) a (le_z_yes tt) (le_z_yes tt) in
      record {
        x = n u.x h.x_low h.x_high;
        y = n u.y h.y_low h.y_high;
        z = near (neg_ℤ (pos 8192)) (pos 8193) u.z (le_z_yes tt) (le_z_yes tt) h.z_low h.z_high;
      }

  pub near_run : LawfulRun u → Near u
  near_run h =
      let n : (a : ℤ) → neg_ℤ (pos 1024) ≤ℤ a → a ≤ℤ pos 1024 → nat_abs a ≤ 8193 = λ a. near (neg_ℤ (pos 1024)) (pos 1024) a (le_z_yes tt) (le_z_yes tt) in
      record {
        x = n u.x h.x_low h.x_high;
        y = n u.y h.y_low h.y_high;
        z = near (neg_ℤ (pos 1024)) (neg_ℤ (pos 1)) u.z (le_z_yes tt) (le_z_yes tt) h.z_low h.z_high;
      }

-- the normal, its product with the light, and the side of a point behind the triangle
module _ (a b c d : V3) (p : Near a) (q : Near b) (r : Near c) (s : Near d) where
  all : AllUnder 8193 (space (a ∷ b ∷ c ∷ d ∷ []))
  all = (p.x, (p.y, (p.z, (q.x, (q.y, (q.z, (r.x, (r.y, (r.z, (s.x, (s.y, (s.z, tt))))))))))))

  pub fits_normal : Fits3 (normal a b c)
  fits_normal = record {
    x = fits_under w64 8193 (space (a ∷ b ∷ c ∷ d ∷ [])) all (enormal (e3 0) (e3 3) (e3 6)).x tt;
    y = fits_under w64 8193 (space (a ∷ b ∷ c ∷ d ∷ [])) all (enormal (e3 0) (e3 3) (e3 6)).y tt;
    z = fits_under w64 8193 (space (a ∷ b ∷ c ∷ d ∷ [])) all (enormal (e3 0) (e3 3) (e3 6)).z tt;
  }

  pub fits_light : SFits w64 (dot (normal a b c) d)
  fits_light = fits_under w64 8193 (space (a ∷ b ∷ c ∷ d ∷ [])) all (edot (enormal (e3 0) (e3 3) (e3 6)) (e3 9)) tt

  pub fits_behind : SFits w64 (dot (normal a b c) (minus d a))
  fits_behind = fits_under w64 8193 (space (a ∷ b ∷ c ∷ d ∷ [])) all (edot (enormal (e3 0) (e3 3) (e3 6)) (eminus (e3 9) (e3 0))) tt

-- the plane through the side from u to v along d, and the side of p there
module _ (d u v p : V3) (s : Near d) (q : Near u) (r : Near v) (t : Near p) where
  all_side : AllUnder 8193 (space (d ∷ u ∷ v ∷ p ∷ []))
  all_side = (s.x, (s.y, (s.z, (q.x, (q.y, (q.z, (r.x, (r.y, (r.z, (t.x, (t.y, (t.z, tt))))))))))))

  pub fits_along : Fits3 (cross d (minus v u))
  fits_along = record {
    x = fits_under w64 8193 (space (d ∷ u ∷ v ∷ p ∷ [])) all_side (ecross (e3 0) (eminus (e3 6) (e3 3))).x tt;
    y = fits_under w64 8193 (space (d ∷ u ∷ v ∷ p ∷ [])) all_side (ecross (e3 0) (eminus (e3 6) (e3 3))).y tt;
    z = fits_under w64 8193 (space (d ∷ u ∷ v ∷ p ∷ [])) all_side (ecross (e3 0) (eminus (e3 6) (e3 3))).z tt;
  }

  pub fits_within : SFits w64 (dot (cross d (minus v u)) (minus p u))
  fits_within = fits_under w64 8193 (space (d ∷ u ∷ v ∷ p ∷ [])) all_side (edot (ecross (e3 0) (eminus (e3 6) (e3 3))) (eminus (e3 9) (e3 3))) tt

-- ---- so what the code computes is exact
pub exact_normal : (n : List ℤ) (a b c : V3) → InLimits a → InLimits b → InLimits c → vector_of n ≡ wrapped3 (normal a b c) → vector_of n ≡ normal a b c
exact_normal n a b c ha hb hc e = e ∙ wrapped3_fits (normal a b c) (fits_normal a b c a (near_corner ha) (near_corner hb) (near_corner hc) (near_corner ha))

-- the normal n of the plane through the side s from u to v along d
pub exact_along : (d u v s n : List ℤ) (D U V : V3) → LawfulRun D → InLimits U → InLimits V → vector_of d ≡ D → vector_of u ≡ U → vector_of v ≡ V
    → vector_of s ≡ wrapped3 (minus (vector_of v) (vector_of u)) → vector_of n ≡ wrapped3 (cross (vector_of d) (vector_of s)) → vector_of n ≡ cross D (minus V U)
exact_along d u v s n D U V hd hu hv ed eu ev es en =
    let side : vector_of s ≡ wrapped3 (minus V U) = es ∙ ap₂ (λ (x y : V3). wrapped3 (minus x y)) ev eu in
    en ∙ ap₂ (λ (x y : V3). wrapped3 (cross x y)) ed side ∙ cross_wrapped_right D (minus V U)
    ∙ wrapped3_fits (cross D (minus V U)) (fits_along D U V U (near_run hd) (near_corner hu) (near_corner hv) (near_corner hu))
