-- The plane of a face as a function of column, row and height: its numbers, and the whole number above it.
use Rattle.std.proofs.Common.{◌≡◌, ℕ, zero, suc, ◌+◌, ◌-◌, ◌/◌, ◌^◌, ◌<◌, ◌≤◌, [], ◌∷◌, ℤ, pos, negsuc, ◌+ℤ◌, ◌-ℤ◌, ◌*ℤ◌, neg_ℤ, nat_abs, ◌≤ℤ◌, ◌<ℤ◌, refl, ap, ◌∙◌, ap₂, le_of_eq, lt_of_le_of_lt, div-le_self, arith, lit<, lit≤, w64, SFits, to_z}
use native.Mathlib.Nat as nat
use Rattle.std.specs.Int.{int_wrap}
use Rattle.std.proofs.lemmas.Int.{ints, int_wrap_fits, to_z-of_z}
use Rattle.algebra.proofs.Ring.{ring, num, var, ◌⊕◌, ◌⊖◌, ◌⊗◌, ⊝◌, at, v0, v1, v2, v3, v4, v5, v6, v7}
use Rattle.algebra.proofs.Bounds.{abs_neg, abs-sub_le, fits_of_abs}
use Rattle.geometry.specs.Vectors.{V3, vector, minus, dot}
use Rattle.geometry.specs.Machine.{wrapped3}
use Rattle.volumes.specs.Faces.{receiver}
use Rattle.volumes.specs.Heights.{floor_ratio}
use Rattle.survey.specs.Drawing.{sample_of}
use Rattle.survey.specs.Raster.{Near, origin}
use Rattle.algebra.proofs.Machine.{back}
use Rattle.survey.specs.Tilts.{value_at}

-- ---- wrapping arithmetic is exact where the result is small
pub small : (z : ℤ) (B : ℕ) → nat_abs z ≤ B → B < 2 ^ 63 → SFits w64 z
small z B h k = fits_of_abs w64 z (lt_of_le_of_lt h k)

pub exact : (z : ℤ) (B : ℕ) → nat_abs z ≤ B → B < 2 ^ 63 → int_wrap w64 z ≡ z
exact z B h k = int_wrap_fits w64 z (small z B h k)

-- what the code reads of a small number is the number
pub read : (z : ℤ) (B : ℕ) → nat_abs z ≤ B → B < 2 ^ 63 → back w64 z ≡ z
read z B h k = to_z-of_z w64 z (small z B h k)

-- a difference of two vectors that are near
pub difference_exact : (u v d : V3) (A B : ℕ) → Near A u → Near B v → A + B < 2 ^ 63 → d ≡ wrapped3 (minus u v) → d ≡ minus u v
difference_exact u v d A B a b k e =
    e
    ∙ ap (λ (x : ℤ). vector x (int_wrap w64 (u.y -ℤ v.y)) (int_wrap w64 (u.z -ℤ v.z))) (exact (u.x -ℤ v.x) (A + B) (abs-sub_le u.x v.x a.x b.x) k)
    ∙ ap₂ (λ (y z : ℤ). vector (u.x -ℤ v.x) y z)
    (exact (u.y -ℤ v.y) (A + B) (abs-sub_le u.y v.y a.y b.y) k)
    (exact (u.z -ℤ v.z) (A + B) (abs-sub_le u.z v.z a.z b.z) k)

origin_near : Near 8 origin
origin_near = record { x = lit≤ tt; y = lit≤ tt; z = lit≤ tt }

pub base_is : (n u d : V3) (r : ℤ) → Near (2 ^ 25) u → nat_abs (dot n (minus origin u)) ≤ 2 ^ 58 → d ≡ wrapped3 (minus origin u) → r ≡ int_wrap w64 (dot n d)
    → r ≡ dot n (minus origin u)
base_is n u d r c o e f =
    f ∙ ap (λ (x : V3). int_wrap w64 (dot n x)) (difference_exact origin u d 8 (2 ^ 25) origin_near c (lit< tt) e) ∙ exact (dot n (minus origin u)) (2 ^ 58) o (lit< tt)

-- ---- the function is the plane's, n · (P − u)
pub plane_at : (n u : V3) (i j : ℕ) (h : ℤ)
    → value_at (dot n (minus origin u)) (pos 16 *ℤ n.x) (pos 16 *ℤ n.y) n.z i j h ≡ dot n (minus (receiver (sample_of i j) h) u)
plane_at n u i j h =
    ring (at (n.x ∷ n.y ∷ n.z ∷ u.x ∷ u.y ∷ u.z ∷ pos i ∷ pos j ∷ h ∷ []))
    (((v0 ⊗ (num 8 ⊖ v3) ⊕ v1 ⊗ (num 8 ⊖ v4) ⊕ v2 ⊗ (num 0 ⊖ v5)) ⊕ (num 16 ⊗ v1) ⊗ v7 ⊕ (num 16 ⊗ v0) ⊗ v6) ⊕ v2 ⊗ var 8)
    (v0 ⊗ ((num 16 ⊗ v6 ⊕ num 8) ⊖ v3) ⊕ v1 ⊗ ((num 16 ⊗ v7 ⊕ num 8) ⊖ v4) ⊕ v2 ⊗ (var 8 ⊖ v5))
    refl

-- ---- the plane turned over
zero_near : Near 0 (vector (pos 0) (pos 0) (pos 0))
zero_near = record { x = lit≤ tt; y = lit≤ tt; z = lit≤ tt }

abbrev pub opposite : V3 → V3
opposite n = minus (vector (pos 0) (pos 0) (pos 0)) n

pub opposite_exact : (n d : V3) → Near (2 ^ 40) n → d ≡ wrapped3 (opposite n) → d ≡ opposite n
opposite_exact n d h e = difference_exact (vector (pos 0) (pos 0) (pos 0)) n d 0 (2 ^ 40) zero_near h (lit< tt) e

pub opposite_near : (n : V3) → Near (2 ^ 40) n → Near (2 ^ 40) (opposite n)
opposite_near n h = record {
  x = abs-sub_le (pos 0) n.x zero_near.x h.x;
  y = abs-sub_le (pos 0) n.y zero_near.y h.y;
  z = abs-sub_le (pos 0) n.z zero_near.z h.z;
}

pub opposite_dot : (n u : V3) → dot (opposite n) u ≡ neg_ℤ (dot n u)
opposite_dot n u =
    ring (at (n.x ∷ n.y ∷ n.z ∷ u.x ∷ u.y ∷ u.z ∷ []))
    ((num 0 ⊖ v0) ⊗ v3 ⊕ (num 0 ⊖ v1) ⊗ v4 ⊕ (num 0 ⊖ v2) ⊗ v5) (⊝ (v0 ⊗ v3 ⊕ v1 ⊗ v4 ⊕ v2 ⊗ v5)) refl

pub opposite_offset : (n u : V3) → nat_abs (dot n u) ≤ 2 ^ 58 → nat_abs (dot (opposite n) u) ≤ 2 ^ 58
opposite_offset n u h = nat.le_trans (le_of_eq (ap nat_abs (opposite_dot n u) ∙ abs_neg (dot n u))) h

pub opposite_rises : (z : ℤ) → pos 0 <ℤ neg_ℤ z → pos 0 <ℤ (pos 0 -ℤ z)
opposite_rises z h = omega (arith, ints)

pub opposite_height : (z : ℤ) → pos 0 -ℤ z ≡ neg_ℤ z
opposite_height z = omega (arith, ints)

-- ---- the least whole height above: G is the function at the height 0, and H how much it rises with the height
quotient_small : (n m : ℕ) → n ≤ 2 ^ 62 → n / m ≤ 2 ^ 62
quotient_small n m h = nat.le_trans (div-le_self n m) h

down_steps : (q : ℕ) → q ≤ 2 ^ 62 → back w64 (pos 0 -ℤ to_z w64 q) ≡ negsuc q +ℤ pos 1
down_steps q h = omega (arith, ints)

up_steps : (q : ℕ) → q ≤ 2 ^ 62 → back w64 (to_z w64 q +ℤ pos 1) ≡ pos q +ℤ pos 1
up_steps q h = omega (arith, ints)

pub least_above : (G H : ℤ) (g r : ℕ) → nat_abs G ≤ 2 ^ 62 → pos 0 <ℤ G → pos 0 <ℤ H → g ≡ nat_abs G → r ≡ nat_abs H
    → back w64 (pos 0 -ℤ to_z w64 ((g - 1) / r)) ≡ floor_ratio (neg_ℤ G) H +ℤ pos 1
least_above (pos (suc n)) (pos (suc m)) g r s h k e f =
    let e' : g - 1 ≡ n = omega arith in
    let s' : n ≤ 2 ^ 62 = omega arith in
    ap₂ (λ (a b : ℕ). back w64 (pos 0 -ℤ to_z w64 (a / b))) e' f ∙ down_steps (n / suc m) (quotient_small n (suc m) s')
least_above (pos zero) H g r s h k e f = absurd (omega (arith, ints))
least_above (negsuc n) H g r s h k e f = absurd (omega (arith, ints))
least_above (pos (suc n)) (pos zero) g r s h k e f = absurd (omega (arith, ints))
least_above (pos (suc n)) (negsuc m) g r s h k e f = absurd (omega (arith, ints))

pub least_under : (G H : ℤ) (g r : ℕ) → nat_abs G ≤ 2 ^ 62 → G ≤ℤ pos 0 → pos 0 <ℤ H → g ≡ nat_abs G → r ≡ nat_abs H
    → back w64 (to_z w64 (g / r) +ℤ pos 1) ≡ floor_ratio (neg_ℤ G) H +ℤ pos 1
least_under (pos zero) (pos (suc m)) g r s h k e f =
    ap₂ (λ (a b : ℕ). back w64 (to_z w64 (a / b) +ℤ pos 1)) e f ∙ up_steps (0 / suc m) (quotient_small 0 (suc m) (omega arith))
least_under (negsuc n) (pos (suc m)) g r s h k e f =
    ap₂ (λ (a b : ℕ). back w64 (to_z w64 (a / b) +ℤ pos 1)) e f ∙ up_steps (suc n / suc m) (quotient_small (suc n) (suc m) s)
least_under (pos (suc n)) H g r s h k e f = absurd (omega (arith, ints))
least_under (pos zero) (pos zero) g r s h k e f = absurd (omega (arith, ints))
least_under (pos zero) (negsuc m) g r s h k e f = absurd (omega (arith, ints))
least_under (negsuc n) (pos zero) g r s h k e f = absurd (omega (arith, ints))
least_under (negsuc n) (negsuc m) g r s h k e f = absurd (omega (arith, ints))
