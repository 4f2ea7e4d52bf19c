-- What a job comes to: its tables, its plane pixel by pixel, and its picture.
use Rattle.std.specs.Prelude.{◌≡◌, ℕ, ◌-◌, ◌*◌, ◌%◌, ◌<◌, true, cond, List, [], ◌++◌, length, drop, replicate, ℤ, pos, Some, None, Option}
use Rattle.geometry.specs.declared.units.Point.{Point}
use Rattle.solids.specs.Tables.{blank_point, blank_triangle}
use Rattle.solids.specs.declared.solid.Triangle.{Triangle}
use Rattle.planes.specs.Planes.{PlaneModel, inside, in_window}
use Rattle.planes.specs.Rowwise.{rowwise}
use Rattle.planes.specs.Linear.{linear}
use Rattle.planes.specs.Packed.{packed}
use Rattle.planes.specs.Frames.{framed}
use Rattle.planes.specs.declared.frame.Cutout.{Cutout}
use Rattle.survey.specs.Survey.{mark_of}
use Rattle.survey.specs.Account.{Account, receiver_height, strikes_at, Told}
use Rattle.survey.specs.Account.{total_of as account_total}
use Rattle.survey.specs.Picture.{picture}
use Rattle.text.specs.declared.entry.PlaneKind.{PlaneKind}
use Rattle.text.specs.declared.entry.PlaneKind.TheVariants.{Line, Pack}
use Rattle.text.specs.declared.fault.Fault.{Fault}
use Rattle.rules.specs.declared.room.Room.{Room}
use Rattle.rules.specs.declared.setup.Setup.{Setup}
use Rattle.rules.specs.Contents.{points_of, triangles_of, solid_of, account_of}
use Rattle.rules.specs.Tests.{size_of}
use Rattle.rules.specs.Verdict.{Pairing, Refused}
use Rattle.rules.specs.Job.{Job, lines_of, spelling, setup, Obeys, Fits}

-- ---- the plane
abbrev pub modulus_of : PlaneKind → ℕ
modulus_of Line = 65536
modulus_of Pack = 131072

-- seen through the frame, if there is one
abbrev pub through : Option Cutout → PlaneModel → PlaneModel
through None m = m
through (Some cut) m = framed m cut

-- as the survey begins: the ground everywhere, and nothing counted
abbrev pub begun : Setup → PlaneModel
begun s = through s.cutout (rowwise (modulus_of s.kind) (size_of s.width) (size_of s.rows) (λ at. s.ground_height) (λ at. 0))

-- As the survey of an account ends: in the window each pixel has the height of its receiver, which is the greatest of the ground and all
-- that is laid there, and counts how often that receiver is struck, modulo the plane's modulus. Outside it is as it was begun.
abbrev pub surveyed : Setup → Account → PlaneModel
surveyed s a = record {
  width = (begun s).width;
  rows = (begun s).rows;
  modulus = (begun s).modulus;
  c0 = (begun s).c0;
  r0 = (begun s).r0;
  c1 = (begun s).c1;
  r1 = (begun s).r1;
  height = λ k l. cond (in_window (begun s) k l) (receiver_height a k l) ((begun s).height k l);
  count = λ k l. cond (in_window (begun s) k l) (strikes_at a k l % modulus_of s.kind) ((begun s).count k l);
}

-- m has the height and the count of n at each pixel of n
pub record SamePixels (m n : PlaneModel) : Type 0 where
  pub heights : (k l : ℕ) → inside n k l ≡ true → m.height k l ≡ n.height k l
  pub counts : (k l : ℕ) → inside n k l ≡ true → m.count k l ≡ n.count k l

-- each mark of the window tells the truth about the strikes at its pixel
abbrev pub AllTold : Setup → Account → Type 0
AllTold s a =
    (k l : ℕ) → in_window (begun s) k l ≡ true
    → Told a (modulus_of s.kind) k l (mark_of (modulus_of s.kind) (strikes_at a k l % modulus_of s.kind) (account_total a)) (strikes_at a k l % modulus_of s.kind) (account_total a)

-- ---- the lists
-- what the lists and the buffer hold
pub record Held : Type 0 where
  pub corners : List Point
  pub triangles : List Triangle
  pub partners : List ℕ
  pub heights : List ℤ
  pub counts : List ℕ
  pub packed : List ℕ
  pub picture : List ℕ

abbrev pub room_of : Held → Room
room_of h = record {
  corners = length h.corners;
  triangles = length h.triangles;
  partners = length h.partners;
  heights = length h.heights;
  counts = length h.counts;
  packed = length h.packed;
  picture = length h.picture;
}

-- the list l holds xs from its start, and z at each place behind
abbrev pub Holds : {A : Type 0} → A → List A → List A → Type 0
Holds z xs l = l ≡ xs ++ replicate (length l - length xs) z

-- the list l holds z at each place
abbrev pub Cleared : {A : Type 0} → A → List A → Type 0
Cleared z l = l ≡ replicate (length l) z

-- the lists of the plane's kind hold, from their start, a plane with the pixels of m, and 0 behind; the other kind's hold 0
pub record OnLine (s : Setup) (m : PlaneModel) (h : Held) : Type 0 where
  pub heights : List ℤ
  pub counts : List ℕ
  pub heights_long : length heights ≡ size_of s.width * size_of s.rows
  pub counts_long : length counts ≡ size_of s.width * size_of s.rows
  pub heights_held : Holds (pos 0) heights h.heights
  pub counts_held : Holds 0 counts h.counts
  pub pixels : SamePixels (linear (size_of s.width) (size_of s.rows) heights counts) m
  pub packed_clear : Cleared 0 h.packed

pub record OnPack (s : Setup) (m : PlaneModel) (h : Held) : Type 0 where
  pub pixels : List ℕ
  pub long : length pixels ≡ size_of s.width * size_of s.rows
  pub held : Holds 0 pixels h.packed
  pub same : SamePixels (packed (size_of s.width) (size_of s.rows) pixels) m
  pub heights_clear : Cleared (pos 0) h.heights
  pub counts_clear : Cleared 0 h.counts

abbrev pub OnLists : PlaneKind → Setup → PlaneModel → Held → Type 0
OnLists Line s m h = OnLine s m h
OnLists Pack s m h = OnPack s m h

-- ---- what run leaves and answers
-- The text is that of a job which obeys the rules and fits the lists; they hold its tables and its plane from their start and 0 behind; and
-- the buffer begins with its picture, of n bytes, and is behind it as it was.
pub record Done (text : List ℕ) (old new : Held) (n : ℕ) : Type 0 where
  pub job : Job
  pub text_is : text ≡ spelling job
  pub obeys : Obeys job
  pub fits : Fits (room_of old) job
  pub partners : List ℕ
  pub paired : 0 < length job.faces → Pairing (lines_of job) partners
  pub unpaired : length job.faces ≡ 0 → partners ≡ []
  pub corners_held : Holds blank_point (points_of (lines_of job)) new.corners
  pub triangles_held : Holds blank_triangle (triangles_of (lines_of job)) new.triangles
  pub partners_held : Holds 0 partners new.partners
  pub plane_held : OnLists job.kind (setup job) (surveyed (setup job) (account_of (solid_of partners (lines_of job)) (lines_of job))) new
  pub told : AllTold (setup job) (account_of (solid_of partners (lines_of job)) (lines_of job))
  pub picture_is : new.picture ≡ picture (surveyed (setup job) (account_of (solid_of partners (lines_of job)) (lines_of job))) (account_total (account_of (solid_of partners (lines_of job)) (lines_of job))) ++ drop n old.picture
  pub long : n ≡ length (picture (surveyed (setup job) (account_of (solid_of partners (lines_of job)) (lines_of job))) (account_total (account_of (solid_of partners (lines_of job)) (lines_of job))))

-- The text is refused with f; the lists hold 0 and the buffer is as it was.
pub record TurnedAway (text : List ℕ) (old new : Held) (f : Fault) : Type 0 where
  pub refused : Refused (room_of old) text f
  pub corners : new.corners ≡ replicate (length old.corners) blank_point
  pub triangles : new.triangles ≡ replicate (length old.triangles) blank_triangle
  pub partners : new.partners ≡ replicate (length old.partners) 0
  pub heights : new.heights ≡ replicate (length old.heights) (pos 0)
  pub counts : new.counts ≡ replicate (length old.counts) 0
  pub packed : new.packed ≡ replicate (length old.packed) 0
  pub picture : new.picture ≡ old.picture
