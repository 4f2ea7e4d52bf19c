-- The sides of a face as functions of column and row.
use Rattle.std.specs.Prelude.{ℕ, Bool, true, false, cond, List, ℤ, pos, ◌+ℤ◌, ◌*ℤ◌, int_lt}
use Rattle.geometry.specs.Vectors.{V3, vector}
use Rattle.volumes.specs.Faces.{Sample, side_sign, sides_from, all_positive, all_negative}
use Rattle.survey.specs.Spans.{positive}
use Rattle.survey.specs.declared.raster.corners.Corner.{Corner}

-- a corner seen from above; its height does not matter
abbrev pub seen : Corner → V3
seen c = vector c.x c.y (pos 0)

-- the function of a side is positive at the pixel in column i and row j
abbrev pub inner : ℤ → ℤ → ℤ → ℕ → ℕ → Bool
inner column row constant i j = positive column (row *ℤ pos j +ℤ constant) i

-- the first of two numbers that is not 0 is positive
abbrev pub leans : ℤ → ℤ → Bool
leans a b = cond (int_lt (pos 0) a) true (cond (int_lt a (pos 0)) false (int_lt (pos 0) b))

-- a sample is on the positive side, or on the negative side, of every side of the polygon from u over the corners vs
abbrev pub left_of : V3 → List V3 → Sample → Bool
left_of u vs p = all_positive (sides_from side_sign u u vs p)

abbrev pub right_of : V3 → List V3 → Sample → Bool
right_of u vs p = all_negative (sides_from side_sign u u vs p)
