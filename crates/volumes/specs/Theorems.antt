-- The theorems that functions of the crate promise.
use Rattle.std.specs.Prelude.{◌≡◌, ℕ, ◌<◌, ◌≤◌, true, false, ◌⊎◌, ℤ, pos, neg_ℤ, ◌≤ℤ◌, ◌≢◌}
use Rattle.geometry.specs.Vectors.{V3}
use Rattle.geometry.specs.Limits.{InLimits, LawfulRun}
use Rattle.solids.specs.Solids.{SolidModel, Lawful}
use Rattle.volumes.specs.Faces.{Sample, Face, receiver, pixel_sample, triangle, near_cap, far_cap, wall, covers_up, covers_down, below, contribution}
use Rattle.volumes.specs.Extent.{extent}
use Rattle.volumes.specs.Volumes.{depth_fail, struck, sunward_total}
use Rattle.volumes.specs.Heights.{IsFloor, floor_height, raised_to}
use Rattle.volumes.specs.Near.{NearFace, NearSample}

-- THE COUNT IS RIGHT: what the faces of a solid's shadow volume count at a receiver is how often the solid's triangles strike it.
-- The receiver may lie anywhere in the plan, and at any height from −8192 on.
abbrev pub CountIsRight : Type 0
CountIsRight =
    (S : SolidModel) (d : V3) (p : Sample) (z : ℤ) → Lawful S → LawfulRun d → neg_ℤ (pos 8192) ≤ℤ z
    → depth_fail S d p z ≡ pos (struck S d (receiver p z))

-- A point is struck no more often than there are sunward triangles.
abbrev pub StrikesAreFew : Type 0
StrikesAreFew = (S : SolidModel) (d P : V3) → struck S d P ≤ sunward_total S d

-- What a face counts: a face that is below takes 1 if it covers upwards and adds 1 if it covers downwards, which it never does both, and nothing else counts.
pub record FaceCounts (f : Face) (p : Sample) (z : ℤ) : Type 0 where
  pub never_both : covers_up f p ≡ true → covers_down f p ≢ true
  pub takes : below f p z ≡ true → covers_up f p ≡ true → contribution f p z ≡ neg_ℤ (pos 1)
  pub adds : below f p z ≡ true → covers_down f p ≡ true → contribution f p z ≡ pos 1
  pub none_above : below f p z ≡ false → contribution f p z ≡ pos 0
  pub none_beside : covers_up f p ≡ false → covers_down f p ≡ false → contribution f p z ≡ pos 0

abbrev pub FacesCount : Type 0
FacesCount = (f : Face) (p : Sample) (z : ℤ) → FaceCounts f p z

-- A wall between two sunward triangles would stand twice, once for each of them, and count nothing: turned round it counts the opposite.
abbrev pub WallsTurn : Type 0
WallsTurn = (u v e : V3) (p : Sample) (z : ℤ) → contribution (wall v u e) p z ≡ neg_ℤ (contribution (wall u v e) p z)

-- A triangle that covers a sample has a height there, whose floor is the one computed. A pixel is raised to the least whole number that the height is below.
-- The height lies between those of the corners, and so does its floor.
pub record HeightKnown (a b c : V3) (p : Sample) : Type 0 where
  pub is_floor : IsFloor (triangle a b c) p (floor_height (triangle a b c) p)
  pub only_floor : (r : ℤ) → IsFloor (triangle a b c) p r → r ≡ floor_height (triangle a b c) p
  pub raised_above : below (triangle a b c) p (raised_to (triangle a b c) p) ≡ true
  pub raised_least : (z : ℤ) → below (triangle a b c) p z ≡ true → raised_to (triangle a b c) p ≤ℤ z
  pub from_low : (low : ℤ) → low ≤ℤ a.z → low ≤ℤ b.z → low ≤ℤ c.z → low ≤ℤ floor_height (triangle a b c) p
  pub to_high : (high : ℤ) → a.z ≤ℤ high → b.z ≤ℤ high → c.z ≤ℤ high → floor_height (triangle a b c) p ≤ℤ high

abbrev pub Covers : V3 → V3 → V3 → Sample → Type 0
Covers a b c p = (covers_up (triangle a b c) p ≡ true) ⊎ (covers_down (triangle a b c) p ≡ true)

abbrev pub HeightsAreKnown : Type 0
HeightsAreKnown = (a b c : V3) (p : Sample) → Covers a b c p → HeightKnown a b c p

-- So a pixel is raised to a number from −8191 to 8193 only.
abbrev pub HeightsAreInRange : Type 0
HeightsAreInRange =
    (a b c : V3) (p : Sample) → InLimits a → InLimits b → InLimits c → Covers a b c p
    → (neg_ℤ (pos 8191) ≤ℤ raised_to (triangle a b c) p) × (raised_to (triangle a b c) p ≤ℤ pos 8193)

-- The faces of lawful triangles under lawful runs are near, and so are the samples of planes of at most 256 columns and rows: what the code computes of them is exact.
pub record FacesAreNear : Type 0 where
  pub near_caps : (a b c : V3) → InLimits a → InLimits b → InLimits c → NearFace (near_cap a b c)
  pub far_caps : (a b c d : V3) → InLimits a → InLimits b → InLimits c → LawfulRun d → NearFace (far_cap a b c (extent d))
  pub walls : (u v d : V3) → InLimits u → InLimits v → LawfulRun d → NearFace (wall u v (extent d))
  pub samples : (k l : ℕ) → k < 256 → l < 256 → NearSample (pixel_sample k l)
