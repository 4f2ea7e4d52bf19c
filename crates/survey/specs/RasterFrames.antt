-- Four sides, and the rows between which all lies that is on the inner side of each.
use Rattle.std.specs.Prelude.{◌≡◌, ℕ, Bool, false, ◌&&◌, ℤ, ◌<ℤ◌}
use Rattle.geometry.specs.Units.{sample_at}
use Rattle.survey.specs.Sides.{inner}
use Rattle.survey.specs.declared.raster.sides.Side.{Side}

abbrev pub inner_of : Side → ℕ → ℕ → Bool
inner_of s i j = inner s.column s.row s.constant i j

-- the pixel in column i and row j is on the inner side of all four sides
abbrev pub enclosed : Side → Side → Side → Side → ℕ → ℕ → Bool
enclosed a b c d i j = inner_of a i j && (inner_of b i j && (inner_of c i j && inner_of d i j))

-- no such pixel is above the row of one y or below that of the other
pub record Framed (a b c d : Side) (top bottom : ℤ) : Type 0 where
  pub over_top : (i j : ℕ) → sample_at j <ℤ top → enclosed a b c d i j ≡ false
  pub under_bottom : (i j : ℕ) → bottom <ℤ sample_at j → enclosed a b c d i j ≡ false
