-- What some lines of a job say together: the set-up of the plane, the tables of the solid, the lays and the casts.
use Rattle.std.specs.Prelude.{ℕ, List, [], ◌∷◌, ℤ, pos, negsuc, Some, None}
use Rattle.std.specs.List.{flat_map}
use Rattle.geometry.specs.Vectors.{vector}
use Rattle.geometry.specs.declared.units.Point.{Point}
use Rattle.solids.specs.Solids.{SolidModel}
use Rattle.solids.specs.Tables.{tabled}
use Rattle.solids.specs.declared.solid.Triangle.{Triangle}
use Rattle.survey.specs.Account.{Shadow, Account, account, all_sunward}
use Rattle.text.specs.Entries.{Entry}
use Rattle.text.specs.declared.head.Statement.TheVariants as entry
use Rattle.text.specs.declared.entry.PlaneKind.TheVariants.{Line}
use Rattle.rules.specs.declared.setup.Setup.{Setup}

-- ---- the tables of the solid
abbrev pub point : ℤ → ℤ → ℤ → Point
point x y z = record { x = record { 0 = x }; y = record { 0 = y }; z = record { 0 = z } }

abbrev pub corner_in : Entry → List Point
corner_in (entry.Plan w r k) = []
corner_in (entry.Ground g) = []
corner_in (entry.Frame c0 r0 c1 r1) = []
corner_in (entry.Corner x y z) = point x y z ∷ []
corner_in (entry.Face a b c) = []
corner_in (entry.Lay w) = []
corner_in (entry.Cast w dx dy dz) = []

-- A triangle's record holds natural numbers. A negative number is that of no corner, and so is the greatest one that a record can hold.
abbrev pub corner_number : ℤ → ℕ
corner_number (pos n) = n
corner_number (negsuc n) = 4294967295

abbrev pub triangle : ℤ → ℤ → ℤ → Triangle
triangle a b c = record { a = corner_number a; b = corner_number b; c = corner_number c }

abbrev pub face_in : Entry → List Triangle
face_in (entry.Plan w r k) = []
face_in (entry.Ground g) = []
face_in (entry.Frame c0 r0 c1 r1) = []
face_in (entry.Corner x y z) = []
face_in (entry.Face a b c) = triangle a b c ∷ []
face_in (entry.Lay w) = []
face_in (entry.Cast w dx dy dz) = []

abbrev pub points_of : List Entry → List Point
points_of es = flat_map corner_in es

abbrev pub triangles_of : List Entry → List Triangle
triangles_of es = flat_map face_in es

-- the solid of the corners and faces, with the partner list ps. (No strike, height or sunward total depends on partners.)
abbrev pub solid_of : List ℕ → List Entry → SolidModel
solid_of ps es = tabled (points_of es) (triangles_of es) ps

-- ---- lays and casts, of the solid S
abbrev pub lay_in : SolidModel → Entry → List SolidModel
lay_in S (entry.Plan w r k) = []
lay_in S (entry.Ground g) = []
lay_in S (entry.Frame c0 r0 c1 r1) = []
lay_in S (entry.Corner x y z) = []
lay_in S (entry.Face a b c) = []
lay_in S (entry.Lay w) = S ∷ []
lay_in S (entry.Cast w dx dy dz) = []

abbrev pub cast_in : SolidModel → Entry → List Shadow
cast_in S (entry.Plan w r k) = []
cast_in S (entry.Ground g) = []
cast_in S (entry.Frame c0 r0 c1 r1) = []
cast_in S (entry.Corner x y z) = []
cast_in S (entry.Face a b c) = []
cast_in S (entry.Lay w) = []
cast_in S (entry.Cast w dx dy dz) = record { solid = S; run = vector dx dy dz } ∷ []

-- how many sunward triangles the casts bring
abbrev pub total_of : List Entry → ℕ
total_of es = all_sunward (flat_map (cast_in (solid_of [] es)) es)

-- ---- the set-up: what the last such line says. A job has one plan and one ground, and one frame at most
abbrev pub blank : Setup
blank = record { width = pos 0; rows = pos 0; kind = Line; ground_height = pos 0; cutout = None }

abbrev pub set_by : Setup → Entry → Setup
set_by s (entry.Plan w r k) = record { width = w; rows = r; kind = k; ground_height = s.ground_height; cutout = s.cutout }
set_by s (entry.Ground g) = record { width = s.width; rows = s.rows; kind = s.kind; ground_height = g; cutout = s.cutout }
set_by s (entry.Frame c0 r0 c1 r1) =
    record { width = s.width; rows = s.rows; kind = s.kind; ground_height = s.ground_height; cutout = Some (record { c0 = c0; r0 = r0; c1 = c1; r1 = r1 }) }
set_by s (entry.Corner x y z) = s
set_by s (entry.Face a b c) = s
set_by s (entry.Lay w) = s
set_by s (entry.Cast w dx dy dz) = s

abbrev pub set_after : Setup → List Entry → Setup
set_after s [] = s
set_after s (e ∷ es) = set_after (set_by s e) es

abbrev pub setup_of : List Entry → Setup
setup_of es = set_after blank es

-- ---- the account of a survey that does what the lines say, with the solid S
abbrev pub account_of : SolidModel → List Entry → Account
account_of S es = account (setup_of es).ground_height (flat_map (lay_in S) es) (flat_map (cast_in S) es)
