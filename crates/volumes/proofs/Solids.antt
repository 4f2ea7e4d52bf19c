-- The count is right: what the faces of a solid's shadow volume count is how often the solid's triangles strike.
use Rattle.std.proofs.Common.{◌≡◌, ℕ, ◌+◌, ◌*◌, ◌/◌, ◌%◌, ◌<◌, ◌≤◌, Bool, true, false, cond, ◌&&◌, ℤ, pos, ◌+ℤ◌, neg_ℤ, ◌≤ℤ◌, sym, refl, ap, ◌∙◌, ap₂, arith}
use borrow.Author.Differences.{ints}
use Rattle.algebra.specs.Sums.{sum_z, bracket, bracket_z, Pairing}
use Rattle.algebra.proofs.Sums.{sum_z-cong, sum_z-add, sum_z-pos, sum_n-le}
use Rattle.geometry.specs.Vectors.{V3}
use Rattle.geometry.specs.Strikes.{strikes}
use Rattle.volumes.specs.Faces.{Sample, Face, receiver, near_cap, far_cap, wall, contribution}
use Rattle.volumes.specs.Extent.{extent}
use Rattle.geometry.specs.Limits.{LawfulRun}
use Rattle.solids.specs.Solids.{SolidModel, Lawful, pick, places, start_of, end_of}
use Rattle.volumes.specs.Volumes.{corner_of, sunward_at, wall_at, caps, depth_fail, struck}
use Rattle.volumes.specs.Theorems.{CountIsRight, StrikesAreFew}
use Rattle.volumes.proofs.Walls.{walls_turn}
use Rattle.volumes.proofs.Silhouette.{silhouette_walls}
use Rattle.volumes.proofs.FarCap.{triangle_counts}

-- ---- the sides of a triangle
start_at : (S : SolidModel) (k s : ℕ) → s < 3 → start_of S (3 * k + s) ≡ pick (S.triangle k) s
start_at S k s h =
    let q : (3 * k + s) / 3 ≡ k = omega arith in
    let r : (3 * k + s) % 3 ≡ s = omega arith in
    ap₂ (λ (t i : ℕ). pick (S.triangle t) i) q r

end_at : (S : SolidModel) (k s : ℕ) → s < 3 → end_of S (3 * k + s) ≡ pick (S.triangle k) ((s + 1) % 3)
end_at S k s h =
    let q : (3 * k + s) / 3 ≡ k = omega arith in
    let r : (3 * k + s) % 3 ≡ s = omega arith in
    ap₂ (λ (t i : ℕ). pick (S.triangle t) ((i + 1) % 3)) q r

wall_at_lem : (S : SolidModel) (d : V3) (k s : ℕ) → s < 3 → wall_at S d (3 * k + s) ≡ wall (corner_of S k s) (corner_of S k ((s + 1) % 3)) (extent d)
wall_at_lem S d k s h = ap₂ (λ (i j : ℕ). wall (S.corner i) (S.corner j) (extent d)) (start_at S k s h) (end_at S k s h)

-- ---- sums
split_cond : (t : Bool) (x y : ℤ) → cond t (x +ℤ y) (pos 0) ≡ cond t x (pos 0) +ℤ cond t y (pos 0)
split_cond true x y = refl
split_cond false x y = refl

sum_z-split_cond : (n : ℕ) (b : ℕ → Bool) (f g : ℕ → ℤ) → sum_z n (λ k. cond (b k) (f k +ℤ g k) (pos 0)) ≡ sum_z n (λ k. cond (b k) (f k) (pos 0)) +ℤ sum_z n (λ k. cond (b k) (g k) (pos 0))
sum_z-split_cond n b f g =
    sum_z-cong n (λ k. cond (b k) (f k +ℤ g k) (pos 0)) (λ k. cond (b k) (f k) (pos 0) +ℤ cond (b k) (g k) (pos 0)) (λ k _. split_cond (b k) (f k) (g k))
    ∙ sum_z-add n (λ k. cond (b k) (f k) (pos 0)) (λ k. cond (b k) (g k) (pos 0))

regroup : (n f x y z x' y' z' : ℤ) → x ≡ x' → y ≡ y' → z ≡ z' → (n +ℤ f) +ℤ (pos 0 +ℤ x +ℤ y +ℤ z) ≡ n +ℤ f +ℤ x' +ℤ y' +ℤ z'
regroup n f x y z x' y' z' e₁ e₂ e₃ = omega (arith, ints)

-- ---- one triangle
not_struck : (s x y z w : Bool) → s ≡ false → s && x && y && z && w ≡ false
not_struck s x y z w e = rw e refl

module _ (S : SolidModel) (d : V3) (p : Sample) (z : ℤ) (law : Lawful S) (run : LawfulRun d) (high : neg_ℤ (pos 8192) ≤ℤ z) where
  abbrev faces : ℕ → ℤ
  faces q = contribution (wall_at S d q) p z

  low : (k s : ℕ) → k < S.triangles → s < 3 → (corner_of S k s).z ≤ℤ pos 8192
  low k s h i = (law.corners_in_limits (pick (S.triangle k) s) (law.numbers_in_range k s h i)).z_high

  each : (k : ℕ) → k < S.triangles → (t : Bool) → sunward_at S d k ≡ t
      → cond t (caps S d p z k +ℤ sum_z 3 (λ s. faces (3 * k + s))) (pos 0) ≡ bracket_z (strikes d (corner_of S k 0) (corner_of S k 1) (corner_of S k 2) (receiver p z))
  each k h true sun =
      let a : V3 = corner_of S k 0 in
      let b : V3 = corner_of S k 1 in
      let c : V3 = corner_of S k 2 in
      regroup (contribution (near_cap a b c) p z) (contribution (far_cap a b c (extent d)) p z) _ _ _ _ _ _
      (ap (λ (f : Face). contribution f p z) (wall_at_lem S d k 0 (omega arith)))
      (ap (λ (f : Face). contribution f p z) (wall_at_lem S d k 1 (omega arith)))
      (ap (λ (f : Face). contribution f p z) (wall_at_lem S d k 2 (omega arith)))
      ∙ triangle_counts d a b c p z sun run.z_high
      (low k 0 h (omega arith)) (low k 1 h (omega arith)) (low k 2 h (omega arith)) high
  each k h false sun = sym (ap bracket_z (not_struck (sunward_at S d k) _ _ _ _ sun))

  -- ---- partners
  pairing : Pairing (places S) S.partner
  pairing = record { below = law.partner_in_range; back = law.partner_back }

  turned : (q : ℕ) → q < places S → faces (S.partner q) ≡ neg_ℤ (faces q)
  turned q h =
      ap₂ (λ (i j : ℕ). contribution (wall (S.corner i) (S.corner j) (extent d)) p z) (law.partner_starts q h) (law.partner_ends q h)
      ∙ walls_turn (S.corner (start_of S q)) (S.corner (end_of S q)) (extent d) p z

  -- ---- all triangles
  pub counted_right : depth_fail S d p z ≡ pos (struck S d (receiver p z))
  counted_right =
      sum_z-split_cond S.triangles (sunward_at S d) (caps S d p z) (λ k. sum_z 3 (λ s. cond (sunward_at S d (S.partner (3 * k + s) / 3)) (pos 0) (faces (3 * k + s))))
      ∙ ap (λ (x : ℤ). sum_z S.triangles (λ k. cond (sunward_at S d k) (caps S d p z k) (pos 0)) +ℤ x) (silhouette_walls S.triangles (sunward_at S d) S.partner faces pairing turned)
      ∙ sym (sum_z-split_cond S.triangles (sunward_at S d) (caps S d p z) (λ k. sum_z 3 (λ s. faces (3 * k + s))))
      ∙ sum_z-cong S.triangles (λ k. cond (sunward_at S d k) (caps S d p z k +ℤ sum_z 3 (λ s. faces (3 * k + s))) (pos 0))
      (λ k. pos (bracket (strikes d (corner_of S k 0) (corner_of S k 1) (corner_of S k 2) (receiver p z)))) (λ k h. each k h (sunward_at S d k) refl)
      ∙ sum_z-pos S.triangles (λ k. bracket (strikes d (corner_of S k 0) (corner_of S k 1) (corner_of S k 2) (receiver p z)))

pub count_is_right : CountIsRight
count_is_right S d p z law run high = counted_right S d p z law run high

-- ---- no more strikes than sunward triangles
at_most : (s x y z w : Bool) → bracket (s && x && y && z && w) ≤ bracket s
at_most true x y z w = one (x && y && z && w)
  where
    one : (t : Bool) → bracket t ≤ 1
    one true = omega arith
    one false = omega arith
at_most false x y z w = omega arith

pub strikes_are_few : StrikesAreFew
strikes_are_few S d P =
    sum_n-le S.triangles (λ k. bracket (strikes d (corner_of S k 0) (corner_of S k 1) (corner_of S k 2) P)) (λ k. bracket (sunward_at S d k))
    (λ k _. at_most (sunward_at S d k) _ _ _ _)
