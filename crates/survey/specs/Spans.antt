-- Spans of columns or of rows, and half-lines.
use Rattle.std.specs.Prelude.{ℕ, Bool, ◌&&◌, ℤ, pos, ◌+ℤ◌, ◌*ℤ◌, int_lt, nat_le, nat_lt}

-- i is one of lo, lo + 1, .. hi − 1
abbrev pub within : ℕ → ℕ → ℕ → Bool
within lo hi i = nat_le lo i && nat_lt i hi

-- slope · i + start is positive
abbrev pub positive : ℤ → ℤ → ℕ → Bool
positive slope start i = int_lt (pos 0) (slope *ℤ pos i +ℤ start)
