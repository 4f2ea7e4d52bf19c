-- What each call does to a survey's plane, pixel by pixel.
use Rattle.std.specs.Prelude.{◌≡◌, ℕ, zero, suc, ◌+◌, ◌*◌, ◌%◌, true, cond, List, [], ◌∷◌, ◌++◌, ℤ, pos, ◌+ℤ◌, Option}
use Rattle.algebra.specs.Sums.{sum_z, count}
use Rattle.algebra.specs.Counts.{mod_z}
use Rattle.algebra.specs.Maxima.{maximum_over_some}
use Rattle.geometry.specs.Vectors.{V3}
use Rattle.solids.specs.Solids.{SolidModel}
use Rattle.volumes.specs.Faces.{Sample, receiver}
use Rattle.volumes.specs.Volumes.{corner_of, sunward_at, caps, silhouette_wall, depth_fail, struck}
use Rattle.planes.specs.Planes.{PlaneModel, SameShape, in_window, Wiped}
use Rattle.survey.specs.Drawing.{sample_of, laid_at}
use Rattle.survey.specs.Survey.{SurveyModel, shape_of}

-- the receiver of the pixel in column k and row l: its sample, at its height
abbrev pub receiver_at : PlaneModel → ℕ → ℕ → V3
receiver_at m k l = receiver (sample_of k l) (m.height k l)

-- ---- laying
-- what triangle k of a solid lays on a sample
abbrev pub lay_at : SolidModel → ℕ → Sample → Option ℤ
lay_at S k p = laid_at (corner_of S k 0) (corner_of S k 1) (corner_of S k 2) p

-- what the triangles below n lay, and what all do
abbrev pub lays_below : SolidModel → ℕ → Sample → List (Option ℤ)
lays_below S zero p = []
lays_below S (suc n) p = lays_below S n p ++ (lay_at S n p ∷ [])

abbrev pub lays_of : SolidModel → Sample → List (Option ℤ)
lays_of S p = lays_below S S.triangles p

-- each pixel of the window gets the greatest of its height and of what is laid on its sample; all else is kept
pub record Heightened (m : PlaneModel) (laid : Sample → List (Option ℤ)) (n : PlaneModel) : Type 0 where
  pub shape : SameShape m n
  pub heights : (k l : ℕ) → n.height k l ≡ cond (in_window m k l) (maximum_over_some (m.height k l) (laid (sample_of k l))) (m.height k l)
  pub counts : (k l : ℕ) → n.count k l ≡ m.count k l

abbrev pub Laid : PlaneModel → SolidModel → PlaneModel → Type 0
Laid m S n = Heightened m (lays_of S) n

-- ---- casting
-- each pixel of the window counts what `by` gives at its receiver, modulo the modulus; all else is kept
pub record Tallied (m : PlaneModel) (by : Sample → ℤ → ℤ) (n : PlaneModel) : Type 0 where
  pub shape : SameShape m n
  pub heights : (k l : ℕ) → n.height k l ≡ m.height k l
  pub counts : (k l : ℕ) → n.count k l ≡ cond (in_window m k l) (mod_z (pos (m.count k l) +ℤ by (sample_of k l) (m.height k l)) m.modulus) (m.count k l)

-- ---- the shadow volume of the solid S under the run d, part by part
-- what the two caps of triangle k count
abbrev pub caps_of : SolidModel → V3 → ℕ → Sample → ℤ → ℤ
caps_of S d k p z = caps S d p z k

-- what the wall at the place q counts, if the side there is on the silhouette
abbrev pub wall_on : SolidModel → V3 → ℕ → Sample → ℤ → ℤ
wall_on S d q p z = silhouette_wall S d p z q

-- what the walls of triangle k count
abbrev pub walls_of : SolidModel → V3 → ℕ → Sample → ℤ → ℤ
walls_of S d k p z = sum_z 3 (λ s. silhouette_wall S d p z (3 * k + s))

-- what the faces of triangle k count, if it is sunward
abbrev pub faces_of : SolidModel → V3 → ℕ → Sample → ℤ → ℤ
faces_of S d k p z = cond (sunward_at S d k) (caps_of S d k p z +ℤ walls_of S d k p z) (pos 0)

-- what the faces of the triangles below n count
abbrev pub faces_below : SolidModel → V3 → ℕ → Sample → ℤ → ℤ
faces_below S d n p z = sum_z n (λ k. faces_of S d k p z)

-- how many triangles below n are sunward
abbrev pub sunward_below : SolidModel → V3 → ℕ → ℕ
sunward_below S d n = count n (λ k. sunward_at S d k)

-- The faces of the shadow volume of the solid S under the run d are counted; and that comes to as many more as there are strikes.
pub record Shadowed (m : PlaneModel) (S : SolidModel) (d : V3) (n : PlaneModel) : Type 0 where
  pub faces : Tallied m (depth_fail S d) n
  pub strikes : (k l : ℕ) → in_window m k l ≡ true → n.count k l ≡ (m.count k l + struck S d (receiver_at m k l)) % m.modulus

-- ---- beginning
-- the plane m is wiped to the ground g, and is the plane of the survey s, which has cast nothing
pub record Begun (m : PlaneModel) (g : ℤ) (s : SurveyModel) (n : PlaneModel) : Type 0 where
  pub wiped : Wiped m g n
  pub shape : s.shape ≡ shape_of m
  pub total : s.total ≡ 0
