-- The sample rule, by which pixel numbers become lengths, and points of the code as vectors.
use Rattle.std.specs.Prelude.{ℕ, ◌+◌, ◌*◌, ℤ, pos}
use Rattle.geometry.specs.Vectors.{V3, vector}
use Rattle.geometry.specs.declared.units.Point.{Point}

-- the coordinate of the sample in column or row i, in steps: the middle of the pixel
abbrev pub sample_at : ℕ → ℤ
sample_at i = pos (16 * i + 8)

abbrev pub point_of : Point → V3
point_of p = vector p.x.0 p.y.0 p.z.0
