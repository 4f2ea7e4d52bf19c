-- Faces seen from above, as the code holds them.
use Rattle.std.specs.Prelude.{◌≡◌, ℕ, ℤ, Some}
use Rattle.geometry.specs.Vectors.{minus, dot}
use Rattle.volumes.specs.Faces.{Face, receiver}
use Rattle.survey.specs.Drawing.{sample_of}
use Rattle.survey.specs.RasterOutlines.{covers}
use Rattle.survey.specs.Tilts.{turned_by, facing_of, covers_by}
use Rattle.survey.specs.RasterTilts.{value_on}
use Rattle.survey.specs.declared.raster.projections.Projection.{Projection}

-- the projection is the face's: it looks the same way, covers the same samples, and its plane is the same
pub record Projects (f : Face) (p : Projection) : Type 0 where
  pub facing : Some p.facing ≡ facing_of f.normal.z
  pub outline : (i j : ℕ) → covers p.outline i j ≡ covers_by p.facing f (sample_of i j)
  pub height : p.tilt.height ≡ turned_by p.facing f.normal.z
  pub values : (i j : ℕ) (h : ℤ) → value_on p.tilt i j h ≡ turned_by p.facing (dot f.normal (minus (receiver (sample_of i j) h) f.first))
