-- The extent reaches past all that can be shaded, so the far cap never hides a strike: the faces of a sunward triangle count 1 where it strikes, else 0.
use Rattle.std.proofs.Common.{◌≡◌, ℕ, zero, suc, ◌+◌, ◌/◌, ◌<◌, Bool, true, false, ◌&&◌, ℤ, pos, negsuc, ◌+ℤ◌, ◌-ℤ◌, ◌*ℤ◌, neg_ℤ, nat_abs, ◌≤ℤ◌, ◌<ℤ◌, sym, refl, ap, ◌∙◌, subst, mod-lt, div-add-mod', add-one, arith}
use borrow.Author.Differences.{ints}
use lib.Signed.{lt_z}
use Rattle.algebra.specs.Sums.{bracket_z}
use Rattle.algebra.proofs.Order.{mul_pos_pos}
use Rattle.geometry.specs.Vectors.{V3, minus, times, dot, cross}
use Rattle.geometry.specs.Signs.{is_negative}
use Rattle.geometry.specs.Strikes.{normal, sunward, plane_side, strikes}
use Rattle.geometry.specs.Perturbed.{Perturbed, whole, ◌+P◌, ◌-P◌, ◌•◌, negative, positive, against}
use Rattle.geometry.proofs.Perturbed.{negative_is, negative_neg, positive_scale, positive_value, positive_less, multiple_not_positive}
use Rattle.geometry.proofs.Strikes.{sunward_along, side_along}
use Rattle.volumes.specs.Faces.{Sample, receiver, near_cap, far_cap, wall, contribution}
use Rattle.volumes.specs.Extent.{extent}
use Rattle.volumes.proofs.Identities.{line_of, depth, far_start, height_law}
use Rattle.volumes.proofs.Prism.{prism_counts}

-- ---- how far the extent goes down
far_down : (dz : ℤ) → dz ≤ℤ neg_ℤ (pos 1) → pos 16385 ≤ℤ neg_ℤ (pos (16384 / nat_abs dz + 1) *ℤ dz)
far_down (pos n) h = absurd (omega (arith, ints))
far_down (negsuc m) h =
    let e = div-add-mod' 16384 (suc m) in
    let p : 0 < suc m = omega arith in
    let l = mod-lt 16384 p in
    omega (arith, ints)

-- ---- the far cap
positive_multiple : (k : ℤ) (a : Perturbed) → pos 0 <ℤ k → positive (k • a) ≡ positive a
positive_multiple (pos zero) a h = absurd h.lt
positive_multiple (pos (suc n)) a h = positive_scale n a
positive_multiple (negsuc n) a h = absurd h.lt

stays_positive : (t x y z : Perturbed) → positive t ≡ true → positive x ≡ false → positive y ≡ false → positive z ≡ false → positive (t -P x -P y -P z) ≡ true
stays_positive t x y z ht hx hy hz = positive_less (t -P x -P y) z (positive_less (t -P x) y (positive_less t x ht hx) hy) hz

-- a point behind the near cap and inside the walls has not passed the far cap, if no corner is higher than 8192, the point is not lower than −8192, and e goes down by 16385 at least
far_not_passed : (a b c e P : V3) → pos 0 <ℤ depth a b c e → a.z ≤ℤ pos 8192 → b.z ≤ℤ pos 8192 → c.z ≤ℤ pos 8192 → neg_ℤ (pos 8192) ≤ℤ P.z → pos 16385 ≤ℤ neg_ℤ e.z
    → negative (line_of P (wall a b e)).start ≡ true → negative (line_of P (wall b c e)).start ≡ true → negative (line_of P (wall c a e)).start ≡ true
    → negative (line_of P (far_cap a b c e)).start ≡ true
far_not_passed a b c e P hd ha hb hc hP he hab hbc hca =
    let near : Perturbed = (line_of P (near_cap a b c)).start +P whole (depth a b c e) in
    let ab : Perturbed = (line_of P (wall a b e)).start in
    let bc : Perturbed = (line_of P (wall b c e)).start in
    let ca : Perturbed = (line_of P (wall c a e)).start in
    let height : Perturbed = record { value = P.z -ℤ e.z -ℤ pos 8192; lower = negsuc 0; right = pos 0; down = pos 0 } in
    ap negative (far_start a b c e P)
    ∙ negative_neg near
    ∙ sym (positive_multiple (neg_ℤ e.z) near (falling e.z he))
    ∙ ap positive (height_law a b c e P)
    ∙ stays_positive (depth a b c e • height) ((pos 8192 -ℤ a.z) • bc) ((pos 8192 -ℤ b.z) • ca) ((pos 8192 -ℤ c.z) • ab)
    (positive_value (depth a b c e • height) (mul_pos_pos hd (above P.z e.z hP he)))
    (multiple_not_positive (pos 8192 -ℤ a.z) bc (room a.z ha) hbc)
    (multiple_not_positive (pos 8192 -ℤ b.z) ca (room b.z hb) hca)
    (multiple_not_positive (pos 8192 -ℤ c.z) ab (room c.z hc) hab)
  where
    falling : (x : ℤ) → pos 16385 ≤ℤ neg_ℤ x → pos 0 <ℤ neg_ℤ x
    falling x h = omega (arith, ints)

    above : (x y : ℤ) → neg_ℤ (pos 8192) ≤ℤ x → pos 16385 ≤ℤ neg_ℤ y → pos 0 <ℤ (x -ℤ y -ℤ pos 8192)
    above x y h k = omega (arith, ints)

    room : (x : ℤ) → x ≤ℤ pos 8192 → pos 0 ≤ℤ (pos 8192 -ℤ x)
    room x h = omega (arith, ints)

-- ---- one triangle
by_depth : (x : ℤ) → lt_z x (pos 0) ≡ true → (δ : ℕ) × (neg_ℤ x ≡ pos (suc δ))
by_depth (pos n) h = absurd (omega (arith, ints))
by_depth (negsuc n) h = (n, refl)

without_far : (s n f x y z n' x' y' z' : Bool) → s ≡ true → n ≡ n' → x ≡ x' → y ≡ y' → z ≡ z' → (x ≡ true → y ≡ true → z ≡ true → f ≡ true)
    → n && (f && (x && (y && (z && true)))) ≡ s && n' && x' && y' && z'
without_far s n f x y z n' x' y' z' hs en ex ey ez far = grind arith

swept : (m : ℕ) (d a b c : V3) (p : Sample) (z : ℤ) → sunward d a b c ≡ true → a.z ≤ℤ pos 8192 → b.z ≤ℤ pos 8192 → c.z ≤ℤ pos 8192
    → neg_ℤ (pos 8192) ≤ℤ z → (e : V3) → e ≡ times (pos (suc m)) d → pos 16385 ≤ℤ neg_ℤ e.z
    → contribution (near_cap a b c) p z +ℤ contribution (far_cap a b c e) p z +ℤ contribution (wall a b e) p z +ℤ contribution (wall b c e) p z +ℤ contribution (wall c a e) p z
    ≡ bracket_z (strikes d a b c (receiver p z))
swept m d a b c p z sun ha hb hc hz e is he =
    let P : V3 = receiver p z in
    let q = by_depth (dot (normal a b c) e) (ap (λ (u : V3). sunward u a b c) is ∙ sunward_along m d a b c ∙ sun) in
    prism_counts a b c e p z q.0 q.1
    ∙ ap bracket_z (without_far
    (sunward d a b c)
    (negative (line_of P (near_cap a b c)).start) (negative (line_of P (far_cap a b c e)).start)
    (negative (line_of P (wall a b e)).start) (negative (line_of P (wall b c e)).start) (negative (line_of P (wall c a e)).start)
    (is_negative (plane_side (normal a b c) a P))
    (is_negative (plane_side (cross d (minus b a)) a P)) (is_negative (plane_side (cross d (minus c b)) b P)) (is_negative (plane_side (cross d (minus a c)) c P))
    sun
    (sym (negative_is (against (normal a b c) a P)))
    (at_wall (minus b a) a) (at_wall (minus c b) b) (at_wall (minus a c) c)
    (far_not_passed a b c e P (deep q.0 q.1) ha hb hc hz he))
  where
    deep : (δ : ℕ) → depth a b c e ≡ pos (suc δ) → pos 0 <ℤ depth a b c e
    deep δ h = subst (λ (x : ℤ). pos 0 <ℤ x) (sym h) (omega (arith, ints))

    at_wall : (w u : V3) → negative (against (cross e w) u (receiver p z)) ≡ is_negative (plane_side (cross d w) u (receiver p z))
    at_wall w u =
        sym (negative_is (against (cross e w) u (receiver p z)))
        ∙ ap (λ (v : V3). is_negative (plane_side (cross v w) u (receiver p z))) is
        ∙ side_along m d w u (receiver p z)

-- THE FACES OF ONE SUNWARD TRIANGLE count 1 where it strikes, else 0
pub triangle_counts : (d a b c : V3) (p : Sample) (z : ℤ) → sunward d a b c ≡ true → d.z ≤ℤ neg_ℤ (pos 1) → a.z ≤ℤ pos 8192 → b.z ≤ℤ pos 8192 → c.z ≤ℤ pos 8192
    → neg_ℤ (pos 8192) ≤ℤ z
    → contribution (near_cap a b c) p z +ℤ contribution (far_cap a b c (extent d)) p z
    +ℤ contribution (wall a b (extent d)) p z +ℤ contribution (wall b c (extent d)) p z +ℤ contribution (wall c a (extent d)) p z
    ≡ bracket_z (strikes d a b c (receiver p z))
triangle_counts d a b c p z sun hd ha hb hc hz =
    swept (16384 / nat_abs d.z) d a b c p z sun ha hb hc hz (extent d) (ap (λ (k : ℕ). times (pos k) d) (add-one (16384 / nat_abs d.z))) (far_down d.z hd)
