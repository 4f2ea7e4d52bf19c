-- Which texts are accepted, and where and why another text is refused: at its first line that fails a test, for the first test that it fails.
use Rattle.std.specs.Prelude.{◌≡◌, ℕ, zero, suc, ◌+◌, ◌*◌, ◌/◌, ◌<◌, ◌≤◌, Bool, true, false, cond, List, [], ◌∷◌, ◌++◌, length, Some, None, Option, ◌≢◌}
use Rattle.geometry.specs.declared.refusal.Refusal.{Refusal}
use Rattle.geometry.specs.declared.refusal.Refusal.TheVariants as refusal
use Rattle.solids.specs.Tables.{sides, Partnered, Unmatched}
use Rattle.solids.specs.declared.misfit.Misfit.{Misfit}
use Rattle.solids.specs.declared.misfit.Site.{Site}
use Rattle.solids.specs.declared.misfit.Site.TheVariants as site
use Rattle.survey.specs.Picture.{header_of}
use Rattle.text.specs.declared.head.Head.{Head}
use Rattle.text.specs.declared.head.Head.TheVariants as head
use Rattle.text.specs.Heads.{head_of}
use Rattle.text.specs.declared.head.Statement.TheVariants as entry
use Rattle.text.specs.declared.fault.Fault.{Fault}
use Rattle.text.specs.Text.{FirstLine}
use Rattle.text.specs.Entries.{Entry, Few}
use Rattle.text.specs.Order.{MayFollow}
use Rattle.text.specs.Lines.{Parted, Reads, Unreadable}
use Rattle.text.specs.Spelling.{written}
use Rattle.text.specs.Faults.{fault_at}
use Rattle.rules.specs.declared.room.Room.{Room}
use Rattle.rules.specs.declared.setup.Setup.{Setup}
use Rattle.rules.specs.Contents.{points_of, triangles_of, setup_of}
use Rattle.rules.specs.Tests.{line_refusal, size_of}

-- the head of the last line; none where there is no line
abbrev pub last_after : Option Head → List Entry → Option Head
last_after o [] = o
last_after o (e ∷ es) = last_after (Some (head_of e)) es

abbrev pub last_of : List Entry → Option Head
last_of es = last_after None es

-- ---- the match of the faces
-- the sides of the faces pair up, with the partner list ps
abbrev pub Pairing : List Entry → List ℕ → Type 0
Pairing es ps = Partnered (points_of es) (triangles_of es) ps

abbrev pub Matching : List Entry → Type 0
Matching es = (ps : List ℕ) × Pairing es ps

-- they do not, or make no tables of a solid, for this reason
abbrev pub Mismatch : List Entry → Misfit → Type 0
Mismatch es why = Unmatched (points_of es) (triangles_of es) (sides (triangles_of es)) why

-- the number, from 1, of the line that stands i-th, from 0, among those that pass a test
abbrev pub nth_line : (Entry → Bool) → List Entry → ℕ → ℕ
nth_line f [] i = 0
nth_line f (e ∷ es) zero = cond (f e) 1 (suc (nth_line f es zero))
nth_line f (e ∷ es) (suc i) = suc (cond (f e) (nth_line f es i) (nth_line f es (suc i)))

abbrev pub is_corner : Entry → Bool
is_corner (entry.Plan w r k) = false
is_corner (entry.Ground g) = false
is_corner (entry.Frame c0 r0 c1 r1) = false
is_corner (entry.Corner x y z) = true
is_corner (entry.Face a b c) = false
is_corner (entry.Lay w) = false
is_corner (entry.Cast w dx dy dz) = false

abbrev pub is_face : Entry → Bool
is_face (entry.Plan w r k) = false
is_face (entry.Ground g) = false
is_face (entry.Frame c0 r0 c1 r1) = false
is_face (entry.Corner x y z) = false
is_face (entry.Face a b c) = true
is_face (entry.Lay w) = false
is_face (entry.Cast w dx dy dz) = false

-- the line of the corner or the face that a misfit is about: a side's is that of its face. (A job's tables are never about the other two)
abbrev pub site_line : List Entry → Site → ℕ
site_line es site.Nowhere = 0
site_line es (site.Corner i) = nth_line is_corner es i
site_line es (site.Triangle k) = nth_line is_face es k
site_line es (site.Place q) = nth_line is_face es (q / 3)
site_line es (site.Partners m) = 0

-- the text begins with a line whose head is `face`, be it ended or not
pub record FaceNext (rest : List ℕ) : Type 0 where
  pub line : List ℕ
  pub end : Bool
  pub to : List ℕ
  pub fields : List (List ℕ)
  pub cut : FirstLine rest line end to
  pub parts : Parted line head.Face fields

-- the faces are matched once the lines `before` are read: the last of them is a face, and the next line, if any, is none
pub record Due (before : List Entry) (rest : List ℕ) : Type 0 where
  pub faces : last_of before ≡ Some head.Face
  pub other : FaceNext rest → ⊥

abbrev pub Settled : List Entry → List ℕ → Type 0
Settled before rest = Due before rest → Matching before

-- ---- lines that pass
-- e may stand after the lines `before`
pub record Passes (room : Room) (before : List Entry) (e : Entry) : Type 0 where
  pub placed : MayFollow (last_of before) (head_of e)
  pub few : Few e
  pub settled : last_of before ≡ Some head.Face → (head_of e ≢ head.Face) → Matching before
  pub kept : line_refusal room before e ≡ None

-- each of the lines es may stand after those before it
abbrev pub AllPass : Room → List Entry → List Entry → Type 0
AllPass room before [] = Unit {0}
AllPass room before (e ∷ es) = Passes room before e × AllPass room (before ++ e ∷ []) es

-- how many bytes the picture has
abbrev pub picture_size : Setup → ℕ
picture_size s = length (header_of (size_of s.width) (size_of s.rows)) + size_of s.width * size_of s.rows

-- ---- refused texts
-- after the lines `before`, which all pass, the text `rest` is refused: for the faces before it, at its first line, or because it is at its end
pub data Stops (room : Room) (before : List Entry) (rest : List ℕ) : Fault → Type 0 where
  unmatched : (why : Misfit) → Due before rest → Mismatch before why → Stops room before rest (fault_at why.refusal (site_line before why.site) 0)
  unreadable : (l : List ℕ) (end : Bool) (to : List ℕ) (f : Fault) → Settled before rest → FirstLine rest l end to → Unreadable (last_of before) l end (length before + 1) f → Stops room before rest f
  broken : (l to : List ℕ) (e : Entry) (why : Refusal) → Settled before rest → FirstLine rest l true to → Reads (last_of before) l true e → line_refusal room before e ≡ Some why → Stops room before rest (fault_at why (length before + 1) 0)
  early : Settled before rest → rest ≡ [] → length before < 2 → Stops room before rest (fault_at refusal.Head (length before + 1) 0)
  unpictured : Settled before rest → rest ≡ [] → 2 ≤ length before → room.picture < picture_size (setup_of before) → Stops room before rest (fault_at refusal.Picture (length before + 1) 0)

-- the text is refused with f: its first lines pass, and what follows them is refused
pub record Refused (room : Room) (text : List ℕ) (f : Fault) : Type 0 where
  pub before : List Entry
  pub rest : List ℕ
  pub whole : text ≡ written before ++ rest
  pub pass : AllPass room [] before
  pub stops : Stops room before rest f

-- ---- accepted texts
-- the text says these lines, each may stand where it stands, and there is room for the picture
pub record Accepted (room : Room) (text : List ℕ) (es : List Entry) : Type 0 where
  pub whole : text ≡ written es
  pub pass : AllPass room [] es
  pub settled : last_of es ≡ Some head.Face → Matching es
  pub enough : 2 ≤ length es
  pub pictured : picture_size (setup_of es) ≤ room.picture
