-- Outlines: which pixels one covers.
use Rattle.std.specs.Prelude.{ℕ, Bool}
use Rattle.survey.specs.RasterFrames.{enclosed}
use Rattle.survey.specs.declared.raster.outlines.Outline.{Outline}

-- the pixel in column i and row j is on the inner side of all four sides
abbrev pub covers : Outline → ℕ → ℕ → Bool
covers o i j = enclosed o.first o.second o.third o.fourth i j
