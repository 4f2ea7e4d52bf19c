-- How far a triangle is swept along the light to make its shadow volume: past all that can be shaded.
use Rattle.std.specs.Prelude.{ℕ, ◌+◌, ◌/◌, pos, unsigned_abs}
use Rattle.geometry.specs.Vectors.{V3, times}

-- k = floor (16384 / −dz) + 1
abbrev pub reach : V3 → ℕ
reach d = 16384 / unsigned_abs d.z + 1

-- E = k times the run
abbrev pub extent : V3 → V3
extent d = times (pos (reach d)) d
