-- A job by its parts: its only text, the rules that it obeys, and the room that it needs.
use Rattle.std.specs.Prelude.{◌≡◌, ℕ, ◌+◌, ◌*◌, ◌<◌, ◌≤◌, true, List, [], ◌∷◌, ◌++◌, map, length, ℤ, Some, None, Option}
use Rattle.std.specs.List.{AllByRecursion}
use Rattle.geometry.specs.Vectors.{vector}
use Rattle.geometry.specs.Limits.{in_run_limits}
use Rattle.planes.specs.declared.frame.Cutout.{Cutout}
use Rattle.survey.specs.Refusals.{is_ground}
use Rattle.text.specs.declared.head.Statement.TheVariants as entry
use Rattle.text.specs.declared.entry.PlaneKind.{PlaneKind}
use Rattle.text.specs.declared.entry.What.{What}
use Rattle.text.specs.Entries.{Entry, Few}
use Rattle.text.specs.Spelling.{written}
use Rattle.rules.specs.declared.room.Room.{Room}
use Rattle.rules.specs.declared.setup.Setup.{Setup}
use Rattle.rules.specs.Contents.{total_of}
use Rattle.rules.specs.Tests.{is_size, size_of, holds_pixels}
use Rattle.rules.specs.Verdict.{Matching, picture_size}

-- a corner by its coordinates, a face by its corner numbers, a cast by what is cast and the run of the light, all as they are written
pub record Corner : Type 0 where
  pub x : ℤ
  pub y : ℤ
  pub z : ℤ

pub record Face : Type 0 where
  pub a : ℤ
  pub b : ℤ
  pub c : ℤ

pub record Cast : Type 0 where
  pub what : What
  pub dx : ℤ
  pub dy : ℤ
  pub dz : ℤ

pub record Job : Type 0 where
  pub width : ℤ
  pub rows : ℤ
  pub kind : PlaneKind
  pub ground : ℤ
  pub frame : Option Cutout
  pub corners : List Corner
  pub faces : List Face
  pub lays : List What
  pub casts : List Cast

-- ---- its text
abbrev pub corner_line : Corner → Entry
corner_line p = entry.Corner p.x p.y p.z

abbrev pub face_line : Face → Entry
face_line f = entry.Face f.a f.b f.c

abbrev pub lay_line : What → Entry
lay_line w = entry.Lay w

abbrev pub cast_line : Cast → Entry
cast_line s = entry.Cast s.what s.dx s.dy s.dz

abbrev pub frame_lines : Option Cutout → List Entry
frame_lines None = []
frame_lines (Some w) = entry.Frame w.c0 w.r0 w.c1 w.r1 ∷ []

-- its lines, in order
abbrev pub lines_of : Job → List Entry
lines_of j =
    entry.Plan j.width j.rows j.kind ∷ entry.Ground j.ground ∷ (frame_lines j.frame ++ (map corner_line j.corners
    ++ (map face_line j.faces ++ (map lay_line j.lays ++ map cast_line j.casts))))

abbrev pub spelling : Job → List ℕ
spelling j = written (lines_of j)

abbrev pub setup : Job → Setup
setup j = record { width = j.width; rows = j.rows; kind = j.kind; ground_height = j.ground; cutout = j.frame }

-- ---- what is asked of it
-- each number has at most six digits
abbrev pub AllFew : List Entry → Type 0
AllFew es = AllByRecursion Few es

abbrev pub AllFall : List Cast → Type 0
AllFall ss = AllByRecursion (λ s. in_run_limits (vector s.dx s.dy s.dz) ≡ true) ss

-- the rules: a plane of 1 to 256 columns and rows, a ground within its limits; the faces, if any, make a solid with the corners, which
-- are not looked at otherwise; what is laid or cast has faces; each run falls, and the casts bring 1,000,000 sunward triangles at most
pub record Obeys (j : Job) : Type 0 where
  pub numbers : AllFew (lines_of j)
  pub columns : is_size j.width ≡ true
  pub lines : is_size j.rows ≡ true
  pub ground : is_ground j.ground ≡ true
  pub solid : 0 < length j.faces → Matching (lines_of j)
  pub faces : 0 < length j.lays + length j.casts → 0 < length j.faces
  pub runs : AllFall j.casts
  pub total : total_of (lines_of j) ≤ 1000000

-- the lists and the buffer have a place for each pixel, corner, face, partner and byte
pub record Fits (room : Room) (j : Job) : Type 0 where
  pub pixels : holds_pixels room j.kind (size_of j.width * size_of j.rows) ≡ true
  pub corners : length j.corners ≤ room.corners
  pub triangles : length j.faces ≤ room.triangles
  pub partners : 3 * length j.faces ≤ room.partners
  pub picture : picture_size (setup j) ≤ room.picture
