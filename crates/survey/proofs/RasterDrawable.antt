-- The faces of the shadow volumes of corners within their limits, under a lawful run, can be drawn: near cap, far cap and walls.
use Rattle.std.proofs.Common.{◌≡◌, ℕ, ◌^◌, ◌≤◌, Bool, true, ◌&&◌, List, [], ◌∷◌, ℤ, pos, neg_ℤ, nat_abs, ◌≤ℤ◌, ◌<ℤ◌, sym, refl, ap, ◌∙◌, subst, le_trans, div-le_self, arith, lit≤}
use lib.Signed.{lt_z}
use Rattle.std.proofs.lemmas.Int.{ints}
use Rattle.algebra.proofs.Ring.{Expr, var, num, ◌⊖◌, at, eval, norm, con, ring}
use Rattle.algebra.proofs.Bounds.{Caps, cap, bound, abs-within, abs-of_range}
use Rattle.geometry.specs.Vectors.{V3, vector, plus, minus, times, dot, cross}
use Rattle.geometry.specs.Limits.{InLimits, LawfulRun}
use Rattle.geometry.specs.Strikes.{normal}
use Rattle.std.proofs.lemmas.Bool.{and_parts}
use Rattle.geometry.specs.Signs.{is_positive, is_negative}
use Rattle.geometry.specs.Perturbed.{Perturbed, whole, ◌+P◌, positive, negative, sign_p}
use Rattle.geometry.proofs.Perturbed.{positive_is, negative_is, positive_add, negative_add}
use Rattle.geometry.proofs.Expressions.{E3, e3, space, eplus, eminus, etimes, edot, ecross, enormal}
use Rattle.volumes.specs.Faces.{Sample, receiver, triangle, near_cap, far_cap, wall, covers_up, covers_down, all_positive, all_negative}
use Rattle.volumes.specs.Extent.{reach, extent}
use Rattle.volumes.proofs.Identities.{side, near_sum, wall_sum}
use Rattle.volumes.proofs.FaceLines.{three_plus, three_minus}
use Rattle.survey.specs.Raster.{Near, origin, Drawable}

-- the parts of a conjunction
and_l : (a b : Bool) → (a && b) ≡ true → a ≡ true
and_l a b h = (and_parts a b h).0

and_r : (a b : Bool) → (a && b) ≡ true → b ≡ true
and_r a b h = (and_parts a b h).1

-- ---- limits as bounds
pub corner_near : (u : V3) → InLimits u → Near 8192 u
corner_near u l = record {
  x = abs-of_range u.x 8192 l.x_low l.x_high;
  y = abs-of_range u.y 8192 l.y_low l.y_high;
  z = abs-of_range u.z 8192 l.z_low l.z_high;
}

run_near : (d : V3) → LawfulRun d → Near 1024 d
run_near d l = record {
  x = abs-of_range d.x 1024 l.x_low l.x_high;
  y = abs-of_range d.y 1024 l.y_low l.y_high;
  z = falling d.z l.z_low l.z_high;
}
  where
    falling : (z : ℤ) → neg_ℤ (pos 1024) ≤ℤ z → z ≤ℤ neg_ℤ (pos 1) → nat_abs z ≤ 1024
    falling z h k = omega (arith, ints)

reach_near : (d : V3) → reach d ≤ 16385
reach_near d = let h = div-le_self 16384 (nat_abs d.z) in omega arith

wider : (A B : ℕ) (u : V3) → A ≤ B → Near A u → Near B u
wider A B u h n = record { x = le_trans n.x h; y = le_trans n.y h; z = le_trans n.z h }

-- ---- bounds of expressions in the factor k, the run d and the corners a, b, c
abbrev limits : List ℕ
limits = 16385 ∷ 1024 ∷ 1024 ∷ 1024 ∷ 8192 ∷ 8192 ∷ 8192 ∷ 8192 ∷ 8192 ∷ 8192 ∷ 8192 ∷ 8192 ∷ 8192 ∷ []

abbrev D : E3
D = e3 1

abbrev A : E3
A = e3 4

abbrev B : E3
B = e3 7

abbrev C : E3
C = e3 10

abbrev E : E3
E = etimes (var 0) D

abbrev O : E3
O = record { x = num 8; y = num 8; z = num 0 }

module _ (k : ℕ) (d a b c : V3) (hk : k ≤ 16385) (hd : Near 1024 d) (ha : Near 8192 a) (hb : Near 8192 b) (hc : Near 8192 c) where
  abbrev env : List ℤ
  env = pos k ∷ space (d ∷ a ∷ b ∷ c ∷ [])

  caps : Caps env limits
  caps = (hk, (hd.x, (hd.y, (hd.z, (ha.x, (ha.y, (ha.z, (hb.x, (hb.y, (hb.z, (hc.x, (hc.y, (hc.z, tt)))))))))))))

  under : (M : ℕ) (e : Expr) → bound (cap limits) e ≤ M → nat_abs (eval (at env) e) ≤ M
  under M e h = le_trans (abs-within env limits caps e) h

  -- the same of a number that is another expression's value
  under_by : (M : ℕ) (e e' : Expr) → norm (e ⊖ e') ≡ con (pos 0) → bound (cap limits) e' ≤ M → nat_abs (eval (at env) e) ≤ M
  under_by M e e' q h = subst (λ (z : ℤ). nat_abs z ≤ M) (sym (ring (at env) e e' q)) (under M e' h)

  -- ---- the near cap
  normal_is : Near (2 ^ 29) (normal a b c)
  normal_is = record {
    x = under (2 ^ 29) (enormal A B C).x (lit≤ tt);
    y = under (2 ^ 29) (enormal A B C).y (lit≤ tt);
    z = under (2 ^ 29) (enormal A B C).z (lit≤ tt);
  }

  near_offset : nat_abs (dot (normal a b c) (minus origin a)) ≤ 2 ^ 58
  near_offset = under (2 ^ 58) (edot (enormal A B C) (eminus O A)) (lit≤ tt)

  -- ---- the far cap
  swept : Near (2 ^ 25) (plus a (times (pos k) d))
  swept = record {
    x = under (2 ^ 25) (eplus A E).x (lit≤ tt);
    y = under (2 ^ 25) (eplus A E).y (lit≤ tt);
    z = under (2 ^ 25) (eplus A E).z (lit≤ tt);
  }

  far_normal : Near (2 ^ 40) (normal (plus c (times (pos k) d)) (plus b (times (pos k) d)) (plus a (times (pos k) d)))
  far_normal = record {
    x = under_by (2 ^ 40) (enormal (eplus C E) (eplus B E) (eplus A E)).x (enormal C B A).x refl (lit≤ tt);
    y = under_by (2 ^ 40) (enormal (eplus C E) (eplus B E) (eplus A E)).y (enormal C B A).y refl (lit≤ tt);
    z = under_by (2 ^ 40) (enormal (eplus C E) (eplus B E) (eplus A E)).z (enormal C B A).z refl (lit≤ tt);
  }

  far_offset : nat_abs (dot (normal (plus c (times (pos k) d)) (plus b (times (pos k) d)) (plus a (times (pos k) d))) (minus origin (plus c (times (pos k) d)))) ≤ 2 ^ 58
  far_offset =
      under_by (2 ^ 58) (edot (enormal (eplus C E) (eplus B E) (eplus A E)) (eminus O (eplus C E))) (edot (enormal C B A) (eminus O (eplus C E))) refl (lit≤ tt)

  -- ---- a wall
  wall_normal : Near (2 ^ 40) (cross (times (pos k) d) (minus b a))
  wall_normal = record {
    x = under (2 ^ 40) (ecross E (eminus B A)).x (lit≤ tt);
    y = under (2 ^ 40) (ecross E (eminus B A)).y (lit≤ tt);
    z = under (2 ^ 40) (ecross E (eminus B A)).z (lit≤ tt);
  }

  wall_offset : nat_abs (dot (cross (times (pos k) d) (minus b a)) (minus origin a)) ≤ 2 ^ 58
  wall_offset = under (2 ^ 58) (edot (ecross E (eminus B A)) (eminus O A)) (lit≤ tt)

-- ---- which way a face looks
above : (z : ℤ) → lt_z (pos 0) z ≡ true → pos 0 <ℤ z
above z h = omega (arith, ints)

beneath : (z : ℤ) → lt_z z (pos 0) ≡ true → z <ℤ pos 0
beneath z h = omega (arith, ints)

whole_plus : (z : ℤ) → positive (whole z) ≡ lt_z (pos 0) z
whole_plus z = grind (arith, ints)

whole_minus : (z : ℤ) → negative (whole z) ≡ lt_z z (pos 0)
whole_minus z = grind (arith, ints)

triangle_up : (a b c : V3) (q : Sample) → covers_up (triangle a b c) q ≡ true → pos 0 <ℤ (normal a b c).z
triangle_up a b c q e =
    let P : V3 = receiver q (pos 0) in above (normal a b c).z (three_plus (normal a b c).z (side a b P) (side b c P) (side c a P) (near_sum a b c P P) e)

triangle_down : (a b c : V3) (q : Sample) → covers_down (triangle a b c) q ≡ true → (normal a b c).z <ℤ pos 0
triangle_down a b c q e =
    let P : V3 = receiver q (pos 0) in beneath (normal a b c).z (three_minus (normal a b c).z (side a b P) (side b c P) (side c a P) (near_sum a b c P P) e)

-- of the four sides of a wall, the first and the third
two_plus : (z : ℤ) (h₁ h₂ h₃ h₄ : Perturbed) → h₁ +P h₃ ≡ whole z → all_positive (sign_p h₁ ∷ sign_p h₂ ∷ sign_p h₃ ∷ sign_p h₄ ∷ []) ≡ true → lt_z (pos 0) z ≡ true
two_plus z h₁ h₂ h₃ h₄ e t =
    let t₁ : positive h₁ ≡ true = sym (positive_is h₁) ∙ and_l _ _ t in
    let t₃ : positive h₃ ≡ true = sym (positive_is h₃) ∙ and_l _ _ (and_r (is_positive (sign_p h₂)) _ (and_r (is_positive (sign_p h₁)) _ t)) in
    sym (whole_plus z) ∙ ap positive (sym e) ∙ positive_add h₁ h₃ t₁ t₃

two_minus : (z : ℤ) (h₁ h₂ h₃ h₄ : Perturbed) → h₁ +P h₃ ≡ whole z → all_negative (sign_p h₁ ∷ sign_p h₂ ∷ sign_p h₃ ∷ sign_p h₄ ∷ []) ≡ true → lt_z z (pos 0) ≡ true
two_minus z h₁ h₂ h₃ h₄ e t =
    let t₁ : negative h₁ ≡ true = sym (negative_is h₁) ∙ and_l _ _ t in
    let t₃ : negative h₃ ≡ true = sym (negative_is h₃) ∙ and_l _ _ (and_r (is_negative (sign_p h₂)) _ (and_r (is_negative (sign_p h₁)) _ t)) in
    sym (whole_minus z) ∙ ap negative (sym e) ∙ negative_add h₁ h₃ t₁ t₃

wall_up : (u v e : V3) (q : Sample) → covers_up (wall u v e) q ≡ true → pos 0 <ℤ (cross e (minus v u)).z
wall_up u v e q t =
    let P : V3 = receiver q (pos 0) in
    above (cross e (minus v u)).z (two_plus (cross e (minus v u)).z (side u (plus u e) P) (side (plus u e) (plus v e) P) (side (plus v e) v P) (side v u P) (wall_sum u v u e P) t)

wall_down : (u v e : V3) (q : Sample) → covers_down (wall u v e) q ≡ true → (cross e (minus v u)).z <ℤ pos 0
wall_down u v e q t =
    let P : V3 = receiver q (pos 0) in
    beneath (cross e (minus v u)).z (two_minus (cross e (minus v u)).z (side u (plus u e) P) (side (plus u e) (plus v e) P) (side (plus v e) v P) (side v u P) (wall_sum u v u e P) t)

-- ---- the three kinds of faces
still : Near 1024 (vector (pos 0) (pos 0) (pos 0))
still = record { x = lit≤ tt; y = lit≤ tt; z = lit≤ tt }

at_ease : (u : V3) → InLimits u → Near (2 ^ 25) u
at_ease u l = wider 8192 (2 ^ 25) u (lit≤ tt) (corner_near u l)

pub near_cap_drawable : (a b c : V3) → InLimits a → InLimits b → InLimits c → Drawable (near_cap a b c)
near_cap_drawable a b c la lb lc =
    let z : V3 = vector (pos 0) (pos 0) (pos 0) in
    record {
      corners = (at_ease a la, (at_ease b lb, (at_ease c lc, tt)));
      normal = wider (2 ^ 29) (2 ^ 40) (normal a b c) (lit≤ tt) (normal_is 0 z a b c (lit≤ tt) still (corner_near a la) (corner_near b lb) (corner_near c lc));
      offset = near_offset 0 z a b c (lit≤ tt) still (corner_near a la) (corner_near b lb) (corner_near c lc);
      up = triangle_up a b c;
      down = triangle_down a b c;
    }

pub far_cap_drawable : (a b c d : V3) → InLimits a → InLimits b → InLimits c → LawfulRun d → Drawable (far_cap a b c (extent d))
far_cap_drawable a b c d la lb lc ld =
    let e : V3 = extent d in
    let k : ℕ = reach d in
    let na = corner_near a la in
    let nb = corner_near b lb in
    let nc = corner_near c lc in
    let nd = run_near d ld in
    let nk = reach_near d in
    record {
      corners = (swept k d c b a nk nd nc nb na, (swept k d b a c nk nd nb na nc, (swept k d a b c nk nd na nb nc, tt)));
      normal = far_normal k d a b c nk nd na nb nc;
      offset = far_offset k d a b c nk nd na nb nc;
      up = triangle_up (plus c e) (plus b e) (plus a e);
      down = triangle_down (plus c e) (plus b e) (plus a e);
    }

pub wall_drawable : (u v d : V3) → InLimits u → InLimits v → LawfulRun d → Drawable (wall u v (extent d))
wall_drawable u v d lu lv ld =
    let e : V3 = extent d in
    let k : ℕ = reach d in
    let nu = corner_near u lu in
    let nv = corner_near v lv in
    let nd = run_near d ld in
    let nk = reach_near d in
    record {
      corners = (at_ease u lu, (swept k d u v v nk nd nu nv nv, (swept k d v u u nk nd nv nu nu, (at_ease v lv, tt))));
      normal = wall_normal k d u v v nk nd nu nv nv;
      offset = wall_offset k d u v v nk nd nu nv nv;
      up = wall_up u v e;
      down = wall_down u v e;
    }

-- ---- the triangle as the code makes it, by wrapping arithmetic
