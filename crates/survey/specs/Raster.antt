-- What rasterising does to a plane, and the faces that it can draw.
use Rattle.std.specs.Prelude.{◌≡◌, ℕ, ◌^◌, ◌≤◌, Bool, true, cond, ◌&&◌, List, [], ◌∷◌, ℤ, pos, ◌+ℤ◌, ◌<ℤ◌, Option, unsigned_abs}
use Rattle.algebra.specs.Counts.{mod_z}
use Rattle.algebra.specs.Maxima.{raised_by}
use Rattle.geometry.specs.Vectors.{V3, vector, minus, dot}
use Rattle.volumes.specs.Faces.{Sample, Face, covers_up, covers_down}
use Rattle.planes.specs.Planes.{PlaneModel, SameShape, in_window}

-- each pixel of the window that p picks is raised by what `lays` lays there, and counts what `adds` adds there at its height; all else is kept
pub record Painted (m : PlaneModel) (p : ℕ → ℕ → Bool) (lays : ℕ → ℕ → Option ℤ) (adds : ℕ → ℕ → ℤ → ℤ) (n : PlaneModel) : Type 0 where
  pub shape : SameShape m n
  pub heights : (k l : ℕ) → n.height k l ≡ cond (in_window m k l && p k l) (raised_by (m.height k l) (lays k l)) (m.height k l)
  pub counts : (k l : ℕ) → n.count k l ≡ cond (in_window m k l && p k l) (mod_z (pos (m.count k l) +ℤ adds k l (m.height k l)) m.modulus) (m.count k l)

-- ---- bounds under which no machine number overflows
-- each part of u is within b
pub record Near (b : ℕ) (u : V3) : Type 0 where
  pub x : unsigned_abs u.x ≤ b
  pub y : unsigned_abs u.y ≤ b
  pub z : unsigned_abs u.z ≤ b

abbrev pub AllNear : ℕ → List V3 → Type 0
AllNear b [] = Unit {0}
AllNear b (u ∷ us) = Near b u × AllNear b us

-- the middle of the first pixel, at the height 0
abbrev pub origin : V3
origin = vector (pos 8) (pos 8) (pos 0)

-- the numbers of a plane through u with the normal n are within bounds, and its normal, seen from the side to which it looks, rises
pub record Inclined (rise : ℤ) (n u : V3) : Type 0 where
  pub rises : pos 0 <ℤ rise
  pub normal : Near (2 ^ 40) n
  pub corner : Near (2 ^ 25) u
  pub offset : unsigned_abs (dot n (minus origin u)) ≤ 2 ^ 58

-- a face whose numbers are within bounds, and whose normal tells which way it faces
pub record Drawable (f : Face) : Type 0 where
  pub corners : AllNear (2 ^ 25) (f.first ∷ f.others)
  pub normal : Near (2 ^ 40) f.normal
  pub offset : unsigned_abs (dot f.normal (minus origin f.first)) ≤ 2 ^ 58
  pub up : (p : Sample) → covers_up f p ≡ true → pos 0 <ℤ f.normal.z
  pub down : (p : Sample) → covers_down f p ≡ true → f.normal.z <ℤ pos 0
