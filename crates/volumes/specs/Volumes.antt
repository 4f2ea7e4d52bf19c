-- Two ways to count: how often a solid's triangles strike a point, and what the faces of its shadow volume count there ("depth-fail").
use Rattle.std.specs.Prelude.{ℕ, ◌+◌, ◌*◌, ◌/◌, Bool, cond, ℤ, pos, ◌+ℤ◌}
use Rattle.algebra.specs.Sums.{sum_z, count}
use Rattle.geometry.specs.Vectors.{V3}
use Rattle.geometry.specs.Strikes.{sunward, strikes}
use Rattle.volumes.specs.Faces.{Sample, Face, near_cap, far_cap, wall, contribution}
use Rattle.volumes.specs.Extent.{extent}
use Rattle.solids.specs.Solids.{SolidModel, pick, start_of, end_of}

-- corner s of triangle k
abbrev pub corner_of : SolidModel → ℕ → ℕ → V3
corner_of S k s = S.corner (pick (S.triangle k) s)

-- triangle k is sunward under the run d
abbrev pub sunward_at : SolidModel → V3 → ℕ → Bool
sunward_at S d k = sunward d (corner_of S k 0) (corner_of S k 1) (corner_of S k 2)

-- ---- strikes
-- how many triangles are sunward
abbrev pub sunward_total : SolidModel → V3 → ℕ
sunward_total S d = count S.triangles (λ k. sunward_at S d k)

-- how many triangles strike the point P
abbrev pub struck : SolidModel → V3 → V3 → ℕ
struck S d P = count S.triangles (λ k. strikes d (corner_of S k 0) (corner_of S k 1) (corner_of S k 2) P)

-- ---- faces
-- the wall on the side at the place q
abbrev pub wall_at : SolidModel → V3 → ℕ → Face
wall_at S d q = wall (S.corner (start_of S q)) (S.corner (end_of S q)) (extent d)

-- what the two caps of triangle k count at the receiver of the height z
abbrev pub caps : SolidModel → V3 → Sample → ℤ → ℕ → ℤ
caps S d p z k =
    contribution (near_cap (corner_of S k 0) (corner_of S k 1) (corner_of S k 2)) p z
    +ℤ contribution (far_cap (corner_of S k 0) (corner_of S k 1) (corner_of S k 2) (extent d)) p z

-- what the wall at the place q counts, which stands only if the partner's triangle is not sunward: on the silhouette
abbrev pub silhouette_wall : SolidModel → V3 → Sample → ℤ → ℕ → ℤ
silhouette_wall S d p z q = cond (sunward_at S d (S.partner q / 3)) (pos 0) (contribution (wall_at S d q) p z)

-- what the faces of all sunward triangles count
abbrev pub depth_fail : SolidModel → V3 → Sample → ℤ → ℤ
depth_fail S d p z =
    sum_z S.triangles (λ k. cond (sunward_at S d k) (caps S d p z k +ℤ sum_z 3 (λ s. silhouette_wall S d p z (3 * k + s))) (pos 0))
