-- The function of a face's plane, as the code holds it.
use Rattle.std.specs.Prelude.{ℕ, ℤ}
use Rattle.survey.specs.Tilts.{value_at, ground_at, least_over}
use Rattle.survey.specs.declared.raster.tilts.Tilt.{Tilt}

-- its value in column i and row j at the height 0, and at the height h
abbrev pub ground_on : Tilt → ℕ → ℕ → ℤ
ground_on t i j = ground_at t.base t.column t.row i j

abbrev pub value_on : Tilt → ℕ → ℕ → ℤ → ℤ
value_on t i j h = value_at t.base t.column t.row t.height i j h

-- the whole number above the height at which it is 0
abbrev pub least_on : Tilt → ℕ → ℕ → ℤ
least_on t i j = least_over t.base t.column t.row t.height i j
