-- The faces of a solid's shadow volume, drawn one after another, count what depth-fail counts, and so the strikes.
use Rattle.std.proofs.Common.{◌≡◌, ℕ, ◌+◌, ◌*◌, ◌/◌, ◌%◌, ◌<◌, Bool, true, false, cond, ltb, ℤ, pos, ◌+ℤ◌, Some, None, Option, sym, ap, ◌∙◌, subst, ap₂, add-zero, add-one, arith}
use Rattle.std.proofs.lemmas.Int.{ints}
use Rattle.std.proofs.lemmas.Bool.{cond-true, cond-false, lt-ltb}
use Rattle.algebra.specs.Sums.{sum_z, bracket}
use Rattle.algebra.specs.Counts.{mod_z}
use Rattle.algebra.proofs.Sums.{sum_z-more}
use Rattle.geometry.specs.Vectors.{V3}
use Rattle.geometry.specs.Limits.{InLimits, LawfulRun}
use Rattle.geometry.specs.Strikes.{sunward}
use Rattle.solids.specs.Solids.{SolidModel, Lawful, places, start_of, end_of}
use Rattle.volumes.specs.Faces.{Face, near_cap, far_cap, wall, contribution}
use Rattle.volumes.specs.Extent.{extent}
use Rattle.volumes.specs.Volumes.{corner_of, sunward_at, wall_at, depth_fail}
use Rattle.volumes.proofs.Solids.{count_is_right}
use Rattle.planes.specs.Planes.{PlaneModel, Sound, in_window}
use Rattle.survey.specs.Drawing.{sample_of, Drawn}
use Rattle.survey.specs.Raster.{Drawable}
use Rattle.survey.specs.Changes.{Tallied, Shadowed, caps_of, wall_on, walls_of, faces_of, faces_below, sunward_below}
use Rattle.survey.proofs.RasterDrawable.{near_cap_drawable, far_cap_drawable, wall_drawable}
use Rattle.survey.proofs.Limits.{corner_in_limits, point_in_limits}
use Rattle.survey.proofs.Steps.{tallied_none, tallied_one, tallied_more, tallied_same}

-- ---- triangle k of a solid, by its corners a b c
pub sunward_at_lem : (S : SolidModel) → Lawful S → (d : V3) → LawfulRun d → (k : ℕ) → k < S.triangles → (a b c : V3) → a ≡ corner_of S k 0 → b ≡ corner_of S k 1 → c ≡ corner_of S k 2
    → (r : Bool) → (InLimits a → InLimits b → InLimits c → LawfulRun d → r ≡ sunward d a b c) → r ≡ sunward_at S d k
sunward_at_lem S law d run k h a b c p q s r exact =
    let e = exact (point_in_limits S law k 0 h (omega arith) a p) (point_in_limits S law k 1 h (omega arith) b q) (point_in_limits S law k 2 h (omega arith) c s) run in
    subst (λ (w : V3). r ≡ sunward d (corner_of S k 0) (corner_of S k 1) w) s
    (subst (λ (w : V3). r ≡ sunward d (corner_of S k 0) w c) q (subst (λ (w : V3). r ≡ sunward d w b c) p e))

pub near_is : (S : SolidModel) → Lawful S → (k : ℕ) → k < S.triangles → (a b c : V3) → a ≡ corner_of S k 0 → b ≡ corner_of S k 1 → c ≡ corner_of S k 2
    → (f : Face) → (InLimits a → InLimits b → InLimits c → f ≡ near_cap a b c) → f ≡ near_cap (corner_of S k 0) (corner_of S k 1) (corner_of S k 2)
near_is S law k h a b c p q s f exact =
    let e = exact (point_in_limits S law k 0 h (omega arith) a p) (point_in_limits S law k 1 h (omega arith) b q) (point_in_limits S law k 2 h (omega arith) c s) in
    subst (λ (w : V3). f ≡ near_cap (corner_of S k 0) (corner_of S k 1) w) s
    (subst (λ (w : V3). f ≡ near_cap (corner_of S k 0) w c) q (subst (λ (w : V3). f ≡ near_cap w b c) p e))

pub far_is : (S : SolidModel) → Lawful S → (d : V3) → LawfulRun d → (k : ℕ) → k < S.triangles → (a b c e : V3) → a ≡ corner_of S k 0 → b ≡ corner_of S k 1 → c ≡ corner_of S k 2 → e ≡ extent d
    → (f : Face) → ((d : V3) → LawfulRun d → e ≡ extent d → InLimits a → InLimits b → InLimits c → f ≡ far_cap a b c e) → f ≡ far_cap (corner_of S k 0) (corner_of S k 1) (corner_of S k 2) (extent d)
far_is S law d run k h a b c e p q s x f exact =
    let y = exact d run x (point_in_limits S law k 0 h (omega arith) a p) (point_in_limits S law k 1 h (omega arith) b q) (point_in_limits S law k 2 h (omega arith) c s) in
    subst (λ (w : V3). f ≡ far_cap (corner_of S k 0) (corner_of S k 1) (corner_of S k 2) w) x
    (subst (λ (w : V3). f ≡ far_cap (corner_of S k 0) (corner_of S k 1) w e) s
    (subst (λ (w : V3). f ≡ far_cap (corner_of S k 0) w c e) q (subst (λ (w : V3). f ≡ far_cap w b c e) p y)))

pub near_drawable : (S : SolidModel) → Lawful S → (k : ℕ) → k < S.triangles → (f : Face) → f ≡ near_cap (corner_of S k 0) (corner_of S k 1) (corner_of S k 2) → Drawable f
near_drawable S law k h f e =
    subst Drawable (sym e) (near_cap_drawable (corner_of S k 0) (corner_of S k 1) (corner_of S k 2) (corner_in_limits S law k 0 h (omega arith)) (corner_in_limits S law k 1 h (omega arith)) (corner_in_limits S law k 2 h (omega arith)))

pub far_drawable : (S : SolidModel) → Lawful S → (d : V3) → LawfulRun d → (k : ℕ) → k < S.triangles → (f : Face) → f ≡ far_cap (corner_of S k 0) (corner_of S k 1) (corner_of S k 2) (extent d) → Drawable f
far_drawable S law d run k h f e =
    subst Drawable (sym e) (far_cap_drawable (corner_of S k 0) (corner_of S k 1) (corner_of S k 2) d (corner_in_limits S law k 0 h (omega arith)) (corner_in_limits S law k 1 h (omega arith)) (corner_in_limits S law k 2 h (omega arith)) run)

-- both caps
pub caps_tallied : (m n o : PlaneModel) (S : SolidModel) (d : V3) (k : ℕ) (f g : Face) → Sound m
    → f ≡ near_cap (corner_of S k 0) (corner_of S k 1) (corner_of S k 2) → g ≡ far_cap (corner_of S k 0) (corner_of S k 1) (corner_of S k 2) (extent d)
    → Drawn m f n → Drawn n g o → Tallied m (caps_of S d k) o
caps_tallied m n o S d k f g sound p q x y =
    let low = sound.modulus_low in
    tallied_more m n o (contribution (near_cap (corner_of S k 0) (corner_of S k 1) (corner_of S k 2))) (contribution (far_cap (corner_of S k 0) (corner_of S k 1) (corner_of S k 2) (extent d))) (omega arith)
    (tallied_one m n _ (subst (λ (w : Face). Drawn m w n) p x)) (tallied_one n o _ (subst (λ (w : Face). Drawn n w o) q y))

-- ---- the side at the place q
pub place_triangle : (S : SolidModel) (q : ℕ) → q < places S → q / 3 < S.triangles
place_triangle S q h = omega arith

pub start_in_limits : (S : SolidModel) → Lawful S → (q : ℕ) → q < places S → InLimits (S.corner (start_of S q))
start_in_limits S law q h = corner_in_limits S law (q / 3) (q % 3) (place_triangle S q h) (omega arith)

pub end_in_limits : (S : SolidModel) → Lawful S → (q : ℕ) → q < places S → InLimits (S.corner (end_of S q))
end_in_limits S law q h = corner_in_limits S law (q / 3) ((q % 3 + 1) % 3) (place_triangle S q h) (omega arith)

pub wall_is : (S : SolidModel) → Lawful S → (d : V3) → LawfulRun d → (q : ℕ) → q < places S → (u v e : V3) → u ≡ S.corner (start_of S q) → v ≡ S.corner (end_of S q) → e ≡ extent d
    → (f : Face) → ((d : V3) → LawfulRun d → e ≡ extent d → InLimits u → InLimits v → f ≡ wall u v e) → f ≡ wall_at S d q
wall_is S law d run q h u v e x y z f exact =
    let w = exact d run z (subst InLimits (sym x) (start_in_limits S law q h)) (subst InLimits (sym y) (end_in_limits S law q h)) in
    subst (λ (t : V3). f ≡ wall (S.corner (start_of S q)) (S.corner (end_of S q)) t) z
    (subst (λ (t : V3). f ≡ wall (S.corner (start_of S q)) t e) y (subst (λ (t : V3). f ≡ wall t v e) x w))

pub wall_at_drawable : (S : SolidModel) → Lawful S → (d : V3) → LawfulRun d → (q : ℕ) → q < places S → (f : Face) → f ≡ wall_at S d q → Drawable f
wall_at_drawable S law d run q h f e =
    subst Drawable (sym e) (wall_drawable (S.corner (start_of S q)) (S.corner (end_of S q)) d (start_in_limits S law q h) (end_in_limits S law q h) run)

-- the partner that is answered
pub partner_is : (S : SolidModel) (q : ℕ) (o : Option ℕ) (r : ℕ) → q < places S → o ≡ cond (ltb q (places S)) (Some (S.partner q)) None → o ≡ Some r → r ≡ S.partner q
partner_is S q o r h e f =
    let g : o ≡ Some (S.partner q) = e ∙ cond-true (ltb q (places S)) (Some (S.partner q)) None (lt-ltb q (places S) h) in
    cc

-- a wall on the silhouette, and none elsewhere
pub wall_drawn : (m n : PlaneModel) (S : SolidModel) (d : V3) (q r : ℕ) (f : Face) (b : Bool) → r ≡ S.partner q → b ≡ sunward_at S d (r / 3) → b ≡ false → f ≡ wall_at S d q → Drawn m f n → Tallied m (wall_on S d q) n
wall_drawn m n S d q r f b e s fails w drawn =
    let out : sunward_at S d (S.partner q / 3) ≡ false = ap (λ (t : ℕ). sunward_at S d (t / 3)) (sym e) ∙ sym s ∙ fails in
    tallied_same m n (contribution (wall_at S d q)) (wall_on S d q)
    (λ p z. sym (cond-false (sunward_at S d (S.partner q / 3)) (pos 0) (contribution (wall_at S d q) p z) out))
    (tallied_one m n (wall_at S d q) (subst (λ (t : Face). Drawn m t n) w drawn))

pub wall_left_out : (m : PlaneModel) (S : SolidModel) (d : V3) (q r : ℕ) (b : Bool) → Sound m → r ≡ S.partner q → b ≡ sunward_at S d (r / 3) → b ≡ true → Tallied m (wall_on S d q) m
wall_left_out m S d q r b sound e s is =
    let inner : sunward_at S d (S.partner q / 3) ≡ true = ap (λ (t : ℕ). sunward_at S d (t / 3)) (sym e) ∙ sym s ∙ is in
    tallied_same m m (λ _ _. pos 0) (wall_on S d q) (λ p z. sym (cond-true (sunward_at S d (S.partner q / 3)) (pos 0) (contribution (wall_at S d q) p z) inner)) (tallied_none m sound)

-- ---- the three sides of triangle k
pub walls_tallied : (m n o r : PlaneModel) (S : SolidModel) (d : V3) (k : ℕ) → Sound m
    → Tallied m (wall_on S d (3 * k)) n → Tallied n (wall_on S d (3 * k + 1)) o → Tallied o (wall_on S d (3 * k + 2)) r → Tallied m (walls_of S d k) r
walls_tallied m n o r S d k sound a b c =
    let low = sound.modulus_low in
    let two = tallied_more m n o (wall_on S d (3 * k)) (wall_on S d (3 * k + 1)) (omega arith) a b in
    let three = tallied_more m o r (λ p z. wall_on S d (3 * k) p z +ℤ wall_on S d (3 * k + 1) p z) (wall_on S d (3 * k + 2)) (omega arith) two c in
    tallied_same m r (λ p z. wall_on S d (3 * k) p z +ℤ wall_on S d (3 * k + 1) p z +ℤ wall_on S d (3 * k + 2) p z) (walls_of S d k) (λ p z. three_of (λ q. wall_on S d q p z) k) three
  where
    three_of : (f : ℕ → ℤ) (k : ℕ) → f (3 * k) +ℤ f (3 * k + 1) +ℤ f (3 * k + 2) ≡ sum_z 3 (λ s. f (3 * k + s))
    three_of f k =
        let e : f (3 * k + 0) ≡ f (3 * k) = ap f (add-zero (3 * k)) in
        omega (arith, ints)

-- ---- all faces of triangle k
pub faces_drawn : (m n o : PlaneModel) (S : SolidModel) (d : V3) (k : ℕ) (b : Bool) → Sound m → b ≡ sunward_at S d k → b ≡ true → Tallied m (caps_of S d k) n → Tallied n (walls_of S d k) o → Tallied m (faces_of S d k) o
faces_drawn m n o S d k b sound s is x y =
    let low = sound.modulus_low in
    tallied_same m o (λ p z. caps_of S d k p z +ℤ walls_of S d k p z) (faces_of S d k)
    (λ p z. sym (cond-true (sunward_at S d k) (caps_of S d k p z +ℤ walls_of S d k p z) (pos 0) (sym s ∙ is)))
    (tallied_more m n o (caps_of S d k) (walls_of S d k) (omega arith) x y)

pub faces_left_out : (m : PlaneModel) (S : SolidModel) (d : V3) (k : ℕ) (b : Bool) → Sound m → b ≡ sunward_at S d k → b ≡ false → Tallied m (faces_of S d k) m
faces_left_out m S d k b sound s fails =
    tallied_same m m (λ _ _. pos 0) (faces_of S d k)
    (λ p z. sym (cond-false (sunward_at S d k) (caps_of S d k p z +ℤ walls_of S d k p z) (pos 0) (sym s ∙ fails))) (tallied_none m sound)

-- ---- one triangle more
pub faces_more : (m n o : PlaneModel) (S : SolidModel) (d : V3) (k : ℕ) → Sound m → Tallied m (faces_below S d k) n → Tallied n (faces_of S d k) o → Tallied m (faces_below S d (k + 1)) o
faces_more m n o S d k sound x y =
    let low = sound.modulus_low in
    tallied_same m o (λ p z. faces_below S d k p z +ℤ faces_of S d k p z) (faces_below S d (k + 1))
    (λ p z. sym (sum_z-more k (λ j. faces_of S d j p z)))
    (tallied_more m n o (faces_below S d k) (faces_of S d k) (omega arith) x y)

pub sunward_more : (S : SolidModel) (d : V3) (k n : ℕ) (b : Bool) → b ≡ sunward_at S d k → n ≡ sunward_below S d k → n + bracket b ≡ sunward_below S d (k + 1)
sunward_more S d k n b s e =
    let f : sunward_below S d (k + 1) ≡ sunward_below S d k + bracket (sunward_at S d k) = ap (sunward_below S d) (add-one k) in
    ap₂ (λ (i : ℕ) (c : Bool). i + bracket c) e s ∙ sym f

-- ---- THE COUNT IS RIGHT, on a plane
pub shadowed : (m n : PlaneModel) (S : SolidModel) (d : V3) → Sound m → Lawful S → LawfulRun d → Tallied m (depth_fail S d) n → Shadowed m S d n
shadowed m n S d sound law run t = record {
  faces = t;
  strikes = λ k l w.
      t.counts k l
      ∙ cond-true (in_window m k l) (mod_z (pos (m.count k l) +ℤ depth_fail S d (sample_of k l) (m.height k l)) m.modulus) (m.count k l) w
      ∙ ap (λ (z : ℤ). mod_z (pos (m.count k l) +ℤ z) m.modulus) (count_is_right S d (sample_of k l) (m.height k l) law run (sound.heights_low k l));
}
