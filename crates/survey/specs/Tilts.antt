-- The plane of a face as a function of column, row and height, and what a brush does by it.
use Rattle.std.specs.Prelude.{ℕ, zero, suc, Bool, ℤ, pos, negsuc, ◌+ℤ◌, ◌*ℤ◌, neg_ℤ, Some, None, Option}
use Rattle.volumes.specs.Faces.{Sample, Face, covers_up, covers_down}
use Rattle.volumes.specs.Heights.{floor_ratio}
use Rattle.survey.specs.declared.raster.facing.Facing.{Facing}
use Rattle.survey.specs.declared.raster.facing.Facing.TheVariants.{Up, Down}

-- the function at a column and a row, at the height 0
abbrev pub ground_at : ℤ → ℤ → ℤ → ℕ → ℕ → ℤ
ground_at base column row i j = (base +ℤ row *ℤ pos j) +ℤ column *ℤ pos i

-- and at the height h
abbrev pub value_at : ℤ → ℤ → ℤ → ℤ → ℕ → ℕ → ℤ → ℤ
value_at base column row height i j h = ground_at base column row i j +ℤ height *ℤ h

-- the whole number above the height at which the function is 0
abbrev pub least_over : ℤ → ℤ → ℤ → ℤ → ℕ → ℕ → ℤ
least_over base column row height i j = floor_ratio (neg_ℤ (ground_at base column row i j)) height +ℤ pos 1

-- what a face that is below a receiver counts: upwards it takes 1, downwards it adds 1
abbrev pub turn_of : Facing → ℤ
turn_of Up = neg_ℤ (pos 1)
turn_of Down = pos 1

-- a number seen from the side to which a face looks
abbrev pub turned_by : Facing → ℤ → ℤ
turned_by Up z = z
turned_by Down z = neg_ℤ z

-- which way a face with this z of its normal looks, if any
abbrev pub facing_of : ℤ → Option Facing
facing_of (pos zero) = None
facing_of (pos (suc n)) = Some Up
facing_of (negsuc n) = Some Down

-- whether a face covers a sample, looking this way
abbrev pub covers_by : Facing → Face → Sample → Bool
covers_by Up f p = covers_up f p
covers_by Down f p = covers_down f p
