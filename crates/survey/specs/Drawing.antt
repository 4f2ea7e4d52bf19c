-- What drawing one face, or laying one triangle, does to a plane.
use Rattle.std.specs.Prelude.{◌≡◌, ℕ, cond, ◌||◌, ℤ, pos, ◌+ℤ◌, Some, None, Option}
use Rattle.algebra.specs.Counts.{mod_z}
use Rattle.algebra.specs.Maxima.{raised_by}
use Rattle.geometry.specs.Vectors.{V3}
use Rattle.volumes.specs.Faces.{Sample, pixel_sample, Face, triangle, covers_up, covers_down, contribution}
use Rattle.volumes.specs.Heights.{raised_to}
use Rattle.planes.specs.Planes.{PlaneModel, SameShape, in_window}

-- the sample of the pixel in column k and row l
abbrev pub sample_of : ℕ → ℕ → Sample
sample_of k l = pixel_sample k l

-- each pixel of the window counts what the face contributes at its receiver, modulo the modulus; all else is kept
pub record Drawn (m : PlaneModel) (f : Face) (n : PlaneModel) : Type 0 where
  pub shape : SameShape m n
  pub heights : (k l : ℕ) → n.height k l ≡ m.height k l
  pub counts : (k l : ℕ) → n.count k l ≡ cond (in_window m k l) (mod_z (pos (m.count k l) +ℤ contribution f (sample_of k l) (m.height k l)) m.modulus) (m.count k l)

-- what a triangle lays on a sample: the whole number above its height where it covers the sample, either way
abbrev pub laid_at : V3 → V3 → V3 → Sample → Option ℤ
laid_at a b c p = cond (covers_up (triangle a b c) p || covers_down (triangle a b c) p) (Some (raised_to (triangle a b c) p)) None

-- each pixel of the window is at least as high as what the triangle lays there; all else is kept
pub record LaidOn (m : PlaneModel) (a b c : V3) (n : PlaneModel) : Type 0 where
  pub shape : SameShape m n
  pub heights : (k l : ℕ) → n.height k l ≡ cond (in_window m k l) (raised_by (m.height k l) (laid_at a b c (sample_of k l))) (m.height k l)
  pub counts : (k l : ℕ) → n.count k l ≡ m.count k l
