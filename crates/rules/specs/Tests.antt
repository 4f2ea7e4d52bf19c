-- The tests of a line that says something, in the order of their numbers. The tests of a plane's size and its room come at the plan line,
-- those of a lay or a cast are the survey's own.
use Rattle.std.specs.Prelude.{ℕ, ◌+◌, ◌*◌, Bool, ◌&&◌, List, [], length, ℤ, pos, negsuc, None, Option, nat_le, nat_lt}
use Rattle.geometry.specs.Vectors.{vector}
use Rattle.geometry.specs.Limits.{between, in_run_limits}
use Rattle.geometry.specs.declared.refusal.Refusal.{Refusal}
use Rattle.geometry.specs.declared.refusal.Refusal.TheVariants as refusal
use Rattle.survey.specs.Refusals.{unless, is_ground, has_triangles, stays_small}
use Rattle.text.specs.Entries.{Entry}
use Rattle.text.specs.declared.head.Statement.TheVariants as entry
use Rattle.text.specs.declared.entry.PlaneKind.{PlaneKind}
use Rattle.text.specs.declared.entry.PlaneKind.TheVariants.{Line, Pack}
use Rattle.rules.specs.declared.room.Room.{Room}
use Rattle.rules.specs.Contents.{points_of, triangles_of, solid_of, total_of}

-- a width or a number of rows: from 1 to 256
abbrev pub is_size : ℤ → Bool
is_size z = between (pos 1) (pos 256) z

-- the same as a natural number
abbrev pub size_of : ℤ → ℕ
size_of (pos n) = n
size_of (negsuc n) = 0

-- the lists of a plane of this kind have n places
abbrev pub holds_pixels : Room → PlaneKind → ℕ → Bool
holds_pixels room Line n = nat_le n room.heights && nat_le n room.counts
holds_pixels room Pack n = nat_le n room.packed

-- there is a place for one corner more, or for one face more and its three partners
abbrev pub holds_corner : Room → ℕ → Bool
holds_corner room n = nat_lt n room.corners

abbrev pub holds_face : Room → ℕ → Bool
holds_face room n = nat_lt n room.triangles && nat_le (3 * (n + 1)) room.partners

-- what the line that says e is refused for after the lines `before`
abbrev pub line_refusal : Room → List Entry → Entry → Option Refusal
line_refusal room before (entry.Plan w r k) =
    unless (is_size w && is_size r) refusal.Plane (unless (holds_pixels room k (size_of w * size_of r)) refusal.Room None)
line_refusal room before (entry.Ground g) = unless (is_ground g) refusal.Ground None
line_refusal room before (entry.Frame c0 r0 c1 r1) = None
line_refusal room before (entry.Corner x y z) = unless (holds_corner room (length (points_of before))) refusal.Room None
line_refusal room before (entry.Face a b c) = unless (holds_face room (length (triangles_of before))) refusal.Room None
line_refusal room before (entry.Lay w) = unless (has_triangles (solid_of [] before)) refusal.Empty None
line_refusal room before (entry.Cast w dx dy dz) =
    unless (has_triangles (solid_of [] before)) refusal.Empty
    (unless (in_run_limits (vector dx dy dz)) refusal.Run
    (unless (stays_small (total_of before) (solid_of [] before) (vector dx dy dz)) refusal.Total
    None))
