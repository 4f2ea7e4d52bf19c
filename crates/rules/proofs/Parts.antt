-- The parts of a job, recovered from its lines.
use Rattle.std.proofs.Common.{◌≡◌, List, [], ◌∷◌, ◌++◌, map, length, ℤ, Some, None, Option, sym, refl, ap, ◌∙◌, append-nil}
use Rattle.std.specs.List.{flat_map}
use Rattle.std.proofs.lemmas.List.{length-map, map-id}
use Rattle.std.proofs.lemmas.List.Concat.{flat_map-append, flat_map_single}
use Rattle.std.proofs.lemmas.List.Folds.{flat_map-map}
use Rattle.planes.specs.declared.frame.Cutout.{Cutout}
use Rattle.text.specs.Entries.{Entry}
use Rattle.text.specs.declared.head.Statement.TheVariants as entry
use Rattle.text.specs.declared.entry.PlaneKind.{PlaneKind}
use Rattle.text.specs.declared.entry.What.{What}
use Rattle.rules.specs.declared.setup.Setup.{Setup}
use Rattle.rules.specs.Contents.{point, triangle, corner_in, face_in, points_of, triangles_of, set_by, set_after, setup_of}
use Rattle.rules.specs.Job.{Corner, Face, Cast, Job, corner_line, face_line, lay_line, cast_line, frame_lines, lines_of, setup}
use Rattle.rules.proofs.Progress.{set-++}

-- ---- what the lines of a job add up to
-- lines of which each adds nothing
flat_map_none : {A X : Type 0} (f : Entry → List A) (line : X → Entry) → ((x : X) → f (line x) ≡ []) → (xs : List X) → flat_map f (map line xs) ≡ []
flat_map_none f line none [] = refl
flat_map_none f line none (x ∷ xs) = ap (λ l. l ++ flat_map f (map line xs)) (none x) ∙ flat_map_none f line none xs

-- nothing from the frame line, be there one or not
frame_none : {A : Type 0} (f : Entry → List A) → ((c0 r0 c1 r1 : ℤ) → f (entry.Frame c0 r0 c1 r1) ≡ []) → (o : Option Cutout) → flat_map f (frame_lines o) ≡ []
frame_none f none None = refl
frame_none f none (Some w) = append-nil _ ∙ none w.c0 w.r0 w.c1 w.r1

-- f takes nothing from the lines of the set-up
record Setless {A : Type 0} (f : Entry → List A) : Type 0 where
  plan : (w r : ℤ) (k : PlaneKind) → f (entry.Plan w r k) ≡ []
  ground : (g : ℤ) → f (entry.Ground g) ≡ []
  frame : (c0 r0 c1 r1 : ℤ) → f (entry.Frame c0 r0 c1 r1) ≡ []

-- what f takes from a job's lines is what it takes from the corners, the faces, the lays and the casts
flat_map-job : {A : Type 0} (f : Entry → List A) (j : Job) (a b c d : List A) → Setless f → flat_map f (map corner_line j.corners) ≡ a → flat_map f (map face_line j.faces) ≡ b → flat_map f (map lay_line j.lays) ≡ c → flat_map f (map cast_line j.casts) ≡ d → flat_map f (lines_of j) ≡ a ++ (b ++ (c ++ d))
flat_map-job f j a b c d s p q r t =
    let corners = map corner_line j.corners in
    let faces = map face_line j.faces in
    let lays = map lay_line j.lays in
    let casts = map cast_line j.casts in
    let e3 : flat_map f (lays ++ casts) ≡ c ++ d = flat_map-append f lays casts ∙ (λ i. r i ++ t i) in
    let e2 : flat_map f (faces ++ (lays ++ casts)) ≡ b ++ (c ++ d) = flat_map-append f faces (lays ++ casts) ∙ (λ i. q i ++ e3 i) in
    let e1 : flat_map f (corners ++ (faces ++ (lays ++ casts))) ≡ a ++ (b ++ (c ++ d)) = flat_map-append f corners (faces ++ (lays ++ casts)) ∙ (λ i. p i ++ e2 i) in
    let e0 : flat_map f (frame_lines j.frame ++ (corners ++ (faces ++ (lays ++ casts)))) ≡ [] ++ (a ++ (b ++ (c ++ d))) =
    flat_map-append f (frame_lines j.frame) (corners ++ (faces ++ (lays ++ casts))) ∙ (λ i. frame_none f s.frame j.frame i ++ e1 i) in
    λ i. s.plan j.width j.rows j.kind i ++ (s.ground j.ground i ++ e0 i)

-- the corners and the triangles of a job's lines are those of its parts
pub points_of_lem : (j : Job) → points_of (lines_of j) ≡ map (λ (p : Corner). point p.x p.y p.z) j.corners
points_of_lem j =
    flat_map-job corner_in j _ [] [] [] (record { plan = λ _ _ _. refl; ground = λ _. refl; frame = λ _ _ _ _. refl })
    (flat_map-map corner_in corner_line j.corners ∙ flat_map_single (λ (p : Corner). point p.x p.y p.z) j.corners) (flat_map_none corner_in face_line (λ _. refl) j.faces)
    (flat_map_none corner_in lay_line (λ _. refl) j.lays) (flat_map_none corner_in cast_line (λ _. refl) j.casts)
    ∙ append-nil _

pub triangles_of_lem : (j : Job) → triangles_of (lines_of j) ≡ map (λ (t : Face). triangle t.a t.b t.c) j.faces
triangles_of_lem j =
    flat_map-job face_in j [] _ [] [] (record { plan = λ _ _ _. refl; ground = λ _. refl; frame = λ _ _ _ _. refl })
    (flat_map_none face_in corner_line (λ _. refl) j.corners) (flat_map-map face_in face_line j.faces ∙ flat_map_single (λ (t : Face). triangle t.a t.b t.c) j.faces)
    (flat_map_none face_in lay_line (λ _. refl) j.lays) (flat_map_none face_in cast_line (λ _. refl) j.casts)
    ∙ append-nil _

-- as many as there are
pub points_count : (j : Job) → length (points_of (lines_of j)) ≡ length j.corners
points_count j = ap length (points_of_lem j) ∙ length-map j.corners _

pub triangles_count : (j : Job) → length (triangles_of (lines_of j)) ≡ length j.faces
triangles_count j = ap length (triangles_of_lem j) ∙ length-map j.faces _

-- ---- the set-up
-- lines that keep the set-up
set_kept : {X : Type 0} (line : X → Entry) → ((s : Setup) (x : X) → set_by s (line x) ≡ s) → (s : Setup) (xs : List X) → set_after s (map line xs) ≡ s
set_kept line kept s [] = refl
set_kept line kept s (x ∷ xs) = ap (λ (t : Setup). set_after t (map line xs)) (kept s x) ∙ set_kept line kept s xs

-- the same before other lines that keep it
set_past : {X : Type 0} (line : X → Entry) → ((s : Setup) (x : X) → set_by s (line x) ≡ s) → (s : Setup) (xs : List X) (es : List Entry) → set_after s es ≡ s → set_after s (map line xs ++ es) ≡ s
set_past line kept s xs es rest = set-++ s (map line xs) es ∙ ap (λ (t : Setup). set_after t es) (set_kept line kept s xs) ∙ rest

-- a set-up with another frame
abbrev framed_by : Setup → Option Cutout → Setup
framed_by s o = record { width = s.width; rows = s.rows; kind = s.kind; ground_height = s.ground_height; cutout = o }

set_frame : (s : Setup) (o : Option Cutout) → set_after (framed_by s None) (frame_lines o) ≡ framed_by s o
set_frame s None = refl
set_frame s (Some w) = refl

-- the set-up of a job's lines is that of its parts
pub setup_of_lem : (j : Job) → setup_of (lines_of j) ≡ setup j
setup_of_lem j =
    let t = setup j in
    let ss = map cast_line j.casts in
    let ls = map lay_line j.lays ++ ss in
    let fs = map face_line j.faces ++ ls in
    let cs = map corner_line j.corners ++ fs in
    let casts : set_after t ss ≡ t = set_kept cast_line (λ _ _. refl) t j.casts in
    let lays : set_after t ls ≡ t = set_past lay_line (λ _ _. refl) t j.lays ss casts in
    let faces : set_after t fs ≡ t = set_past face_line (λ _ _. refl) t j.faces ls lays in
    let corners : set_after t cs ≡ t = set_past corner_line (λ _ _. refl) t j.corners fs faces in
    set-++ (framed_by t None) (frame_lines j.frame) cs ∙ ap (λ (s : Setup). set_after s cs) (set_frame t j.frame) ∙ corners

-- ---- a job from its lines
-- what one line adds to each part of the job
abbrev corner_back : Entry → List Corner
corner_back (entry.Plan w r k) = []
corner_back (entry.Ground g) = []
corner_back (entry.Frame c0 r0 c1 r1) = []
corner_back (entry.Corner x y z) = record { x = x; y = y; z = z } ∷ []
corner_back (entry.Face a b c) = []
corner_back (entry.Lay w) = []
corner_back (entry.Cast w dx dy dz) = []

abbrev face_back : Entry → List Face
face_back (entry.Plan w r k) = []
face_back (entry.Ground g) = []
face_back (entry.Frame c0 r0 c1 r1) = []
face_back (entry.Corner x y z) = []
face_back (entry.Face a b c) = record { a = a; b = b; c = c } ∷ []
face_back (entry.Lay w) = []
face_back (entry.Cast w dx dy dz) = []

abbrev lay_back : Entry → List What
lay_back (entry.Plan w r k) = []
lay_back (entry.Ground g) = []
lay_back (entry.Frame c0 r0 c1 r1) = []
lay_back (entry.Corner x y z) = []
lay_back (entry.Face a b c) = []
lay_back (entry.Lay w) = w ∷ []
lay_back (entry.Cast w dx dy dz) = []

abbrev cast_back : Entry → List Cast
cast_back (entry.Plan w r k) = []
cast_back (entry.Ground g) = []
cast_back (entry.Frame c0 r0 c1 r1) = []
cast_back (entry.Corner x y z) = []
cast_back (entry.Face a b c) = []
cast_back (entry.Lay w) = []
cast_back (entry.Cast w dx dy dz) = record { what = w; dx = dx; dy = dy; dz = dz } ∷ []

-- together the lines add each part of the job
corners_back : (j : Job) → flat_map corner_back (lines_of j) ≡ j.corners
corners_back j =
    flat_map-job corner_back j _ [] [] [] (record { plan = λ _ _ _. refl; ground = λ _. refl; frame = λ _ _ _ _. refl })
    (flat_map-map corner_back corner_line j.corners ∙ flat_map_single (λ (p : Corner). p) j.corners) (flat_map_none corner_back face_line (λ _. refl) j.faces)
    (flat_map_none corner_back lay_line (λ _. refl) j.lays) (flat_map_none corner_back cast_line (λ _. refl) j.casts)
    ∙ append-nil _ ∙ map-id j.corners

faces_back : (j : Job) → flat_map face_back (lines_of j) ≡ j.faces
faces_back j =
    flat_map-job face_back j [] _ [] [] (record { plan = λ _ _ _. refl; ground = λ _. refl; frame = λ _ _ _ _. refl })
    (flat_map_none face_back corner_line (λ _. refl) j.corners) (flat_map-map face_back face_line j.faces ∙ flat_map_single (λ (t : Face). t) j.faces)
    (flat_map_none face_back lay_line (λ _. refl) j.lays) (flat_map_none face_back cast_line (λ _. refl) j.casts)
    ∙ append-nil _ ∙ map-id j.faces

lays_back : (j : Job) → flat_map lay_back (lines_of j) ≡ j.lays
lays_back j =
    flat_map-job lay_back j [] [] _ [] (record { plan = λ _ _ _. refl; ground = λ _. refl; frame = λ _ _ _ _. refl })
    (flat_map_none lay_back corner_line (λ _. refl) j.corners) (flat_map_none lay_back face_line (λ _. refl) j.faces)
    (flat_map-map lay_back lay_line j.lays ∙ flat_map_single (λ (w : What). w) j.lays) (flat_map_none lay_back cast_line (λ _. refl) j.casts)
    ∙ append-nil _ ∙ map-id j.lays

casts_back : (j : Job) → flat_map cast_back (lines_of j) ≡ j.casts
casts_back j =
    flat_map-job cast_back j [] [] [] _ (record { plan = λ _ _ _. refl; ground = λ _. refl; frame = λ _ _ _ _. refl })
    (flat_map_none cast_back corner_line (λ _. refl) j.corners) (flat_map_none cast_back face_line (λ _. refl) j.faces)
    (flat_map_none cast_back lay_line (λ _. refl) j.lays) (flat_map-map cast_back cast_line j.casts ∙ flat_map_single (λ (s : Cast). s) j.casts)
    ∙ map-id j.casts

-- the job that has these lines, if there is one
abbrev job_of : List Entry → Job
job_of es =
    record {
      width = (setup_of es).width;
      rows = (setup_of es).rows;
      kind = (setup_of es).kind;
      ground = (setup_of es).ground_height;
      frame = (setup_of es).cutout;
      corners = flat_map corner_back es;
      faces = flat_map face_back es;
      lays = flat_map lay_back es;
      casts = flat_map cast_back es;
    }

job_back : (j : Job) → job_of (lines_of j) ≡ j
job_back j =
    let s = setup_of_lem j in
    let cs = corners_back j in
    let fs = faces_back j in
    let ls = lays_back j in
    let ss = casts_back j in
    λ i.
    record {
      width = (s i).width;
      rows = (s i).rows;
      kind = (s i).kind;
      ground = (s i).ground_height;
      frame = (s i).cutout;
      corners = cs i;
      faces = fs i;
      lays = ls i;
      casts = ss i;
    }

-- a job is told by its lines
pub same_job : (i j : Job) → lines_of i ≡ lines_of j → i ≡ j
same_job i j e = sym (job_back i) ∙ ap job_of e ∙ job_back j
