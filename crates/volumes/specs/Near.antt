-- How far from 0 the numbers of a face may lie so that nothing that is computed of it at a pixel leaves 64 bits. The faces of all lawful solids
-- under all lawful runs are near, and so are the samples of all planes.
use Rattle.std.specs.Prelude.{ℕ, ◌^◌, ◌≤◌, List, [], ◌∷◌, ◌*ℤ◌, unsigned_abs}
use Rattle.geometry.specs.Vectors.{V3}
use Rattle.volumes.specs.Faces.{Sample, Face}

-- each part is at most b away from 0
pub record Within (b : ℕ) (u : V3) : Type 0 where
  pub x : unsigned_abs u.x ≤ b
  pub y : unsigned_abs u.y ≤ b
  pub z : unsigned_abs u.z ≤ b

abbrev pub AllWithin : ℕ → List V3 → Type 0
AllWithin b [] = Unit {0}
AllWithin b (u ∷ us) = Within b u × AllWithin b us

-- each part of one vector times that of the other
abbrev pub by_parts : V3 → V3 → V3
by_parts u v = record { x = u.x *ℤ v.x; y = u.y *ℤ v.y; z = u.z *ℤ v.z }

-- A wall has a great normal and a near first corner, a far cap a small normal and a far first corner: what counts is their product.
pub record NearFace (f : Face) : Type 0 where
  pub first_near : Within (2 ^ 25) f.first
  pub others_near : AllWithin (2 ^ 25) f.others
  pub normal_near : Within (2 ^ 40) f.normal
  pub product_near : Within (2 ^ 54) (by_parts f.normal f.first)

pub record NearSample (p : Sample) : Type 0 where
  pub x : unsigned_abs p.x ≤ 2 ^ 12
  pub y : unsigned_abs p.y ≤ 2 ^ 12
