-- The grammar of jobs: the lines of a job are in order, and lines in order, if they are two or more, are those of a job.
use Rattle.std.proofs.Common.{◌≡◌, ℕ, ◌<◌, ◌≤◌, List, [], ◌∷◌, ◌++◌, map, length, ℤ, Some, None, Option, refl, ap, ◌∙◌, subst, inl, inr, ⊎_elim, append-nil, arith}
use Rattle.std.proofs.lemmas.Bool.{cases_lt}
use Rattle.planes.specs.declared.frame.Cutout.{Cutout}
use Rattle.text.specs.declared.head.Head.{Head}
use Rattle.text.specs.declared.head.Head.TheVariants as head
use Rattle.text.specs.Heads.{head_of}
use Rattle.text.specs.Entries.{Entry}
use Rattle.text.specs.declared.head.Statement.TheVariants as entry
use Rattle.text.specs.declared.entry.PlaneKind.{PlaneKind}
use Rattle.text.specs.declared.entry.What.{What}
use Rattle.text.specs.Order.{MayFollow, rank}
use Rattle.rules.specs.declared.room.Room.{Room}
use Rattle.rules.specs.Verdict.{last_of, AllPass}
use Rattle.rules.specs.Job.{Corner, Face, Cast, Job, corner_line, face_line, lay_line, cast_line, frame_lines, lines_of}
use Rattle.rules.proofs.Progress.{last_push}

-- each line may follow the one before it
abbrev pub InOrder : Option Head → List Entry → Type 0
InOrder o [] = Unit {0}
InOrder o (e ∷ es) = MayFollow o (head_of e) × InOrder (Some (head_of e)) es

-- ---- lines in order are those of a job
-- what may follow plan and ground
record Body : Type 0 where
  frame : Option Cutout
  corners : List Corner
  faces : List Face
  lays : List What
  casts : List Cast

abbrev body_lines : Body → List Entry
body_lines b =
    frame_lines b.frame ++ (map corner_line b.corners ++ (map face_line b.faces ++ (map lay_line b.lays ++ map cast_line b.casts)))

-- the lines es after one of rank r: a body without what may not follow it
record Shaped (r : ℕ) (es : List Entry) : Type 0 where
  body : Body
  is : es ≡ body_lines body
  no_frame : 2 ≤ r → body.frame ≡ None
  no_corners : 4 ≤ r → body.corners ≡ []
  no_faces : 5 ≤ r → body.faces ≡ []
  no_lays : 6 ≤ r → body.lays ≡ []

-- the rank does not fall, and a frame is not repeated
pub rises : (h k : Head) → MayFollow (Some h) k → (rank h ≤ rank k) × (rank h ≡ 2 → rank k ≡ 2 → ⊥)
rises h k m = ⊎_elim (λ p. (omega (arith, p.0), λ a b. omega (arith, p.0))) (λ p. (omega (arith, p.0), λ a b. omega (arith, p.1))) m

-- one line more in front
put : (h : Head) (e : Entry) (es : List Entry) → 1 ≤ rank h → MayFollow (Some h) (head_of e) → Shaped (rank (head_of e)) es → Shaped (rank h) (e ∷ es)
put h (entry.Plan w r k) es low m s = absurd (omega (arith, (rises h head.Plan m).0))
put h (entry.Ground g) es low m s = absurd (⊎_elim (λ p. omega (arith, p.0)) (λ p. omega (arith, p.1)) m)
put h (entry.Frame c0 r0 c1 r1) es low m s =
    let up = rises h head.Frame m in
    let less : rank h < 2 = ⊎_elim (λ p. p.0) (λ p. absurd (omega (arith, p.1))) m in
    let w : Cutout = record { c0 = c0; r0 = r0; c1 = c1; r1 = r1 } in
    let b = s.body in
    record {
      body = record { frame = Some w; corners = b.corners; faces = b.faces; lays = b.lays; casts = b.casts };
      is = ap (λ (x : List Entry). entry.Frame c0 r0 c1 r1 ∷ x) (s.is ∙ ap (λ (o : Option Cutout). body_lines (record { frame = o; corners = b.corners; faces = b.faces; lays = b.lays; casts = b.casts })) (s.no_frame (omega arith)));
      no_frame = λ p. absurd (omega arith);
      no_corners = λ p. absurd (omega arith);
      no_faces = λ p. absurd (omega arith);
      no_lays = λ p. absurd (omega arith);
    }
put h (entry.Corner x y z) es low m s =
    let up = (rises h head.Corner m).0 in
    let p : Corner = record { x = x; y = y; z = z } in
    let b = s.body in
    record {
      body = record { frame = None; corners = p ∷ b.corners; faces = b.faces; lays = b.lays; casts = b.casts };
      is = ap (λ (l : List Entry). entry.Corner x y z ∷ l) (s.is ∙ ap (λ (o : Option Cutout). body_lines (record { frame = o; corners = b.corners; faces = b.faces; lays = b.lays; casts = b.casts })) (s.no_frame (omega arith)));
      no_frame = λ q. refl;
      no_corners = λ q. absurd (omega arith);
      no_faces = λ q. absurd (omega arith);
      no_lays = λ q. absurd (omega arith);
    }
put h (entry.Face i j k) es low m s =
    let up = (rises h head.Face m).0 in
    let t : Face = record { a = i; b = j; c = k } in
    let b = s.body in
    record {
      body = record { frame = None; corners = []; faces = t ∷ b.faces; lays = b.lays; casts = b.casts };
      is = ap (λ (l : List Entry). entry.Face i j k ∷ l) (s.is ∙ (λ n. body_lines (record { frame = s.no_frame (omega arith) n; corners = s.no_corners (omega arith) n; faces = b.faces; lays = b.lays; casts = b.casts })));
      no_frame = λ q. refl;
      no_corners = λ q. refl;
      no_faces = λ q. absurd (omega arith);
      no_lays = λ q. absurd (omega arith);
    }
put h (entry.Lay w) es low m s =
    let up = (rises h head.Lay m).0 in
    let b = s.body in
    record {
      body = record { frame = None; corners = []; faces = []; lays = w ∷ b.lays; casts = b.casts };
      is = ap (λ (l : List Entry). entry.Lay w ∷ l) (s.is ∙ (λ n. body_lines (record { frame = s.no_frame (omega arith) n; corners = s.no_corners (omega arith) n; faces = s.no_faces (omega arith) n; lays = b.lays; casts = b.casts })));
      no_frame = λ q. refl;
      no_corners = λ q. refl;
      no_faces = λ q. refl;
      no_lays = λ q. absurd (omega arith);
    }
put h (entry.Cast w x y z) es low m s =
    let v : Cast = record { what = w; dx = x; dy = y; dz = z } in
    let b = s.body in
    record {
      body = record { frame = None; corners = []; faces = []; lays = []; casts = v ∷ b.casts };
      is = ap (λ (l : List Entry). entry.Cast w x y z ∷ l) (s.is ∙ (λ n. body_lines (record { frame = s.no_frame (omega arith) n; corners = s.no_corners (omega arith) n; faces = s.no_faces (omega arith) n; lays = s.no_lays (omega arith) n; casts = b.casts })));
      no_frame = λ q. refl;
      no_corners = λ q. refl;
      no_faces = λ q. refl;
      no_lays = λ q. refl;
    }

-- lines in order after ground are a body
shape_body : (h : Head) (es : List Entry) → 1 ≤ rank h → InOrder (Some h) es → Shaped (rank h) es
shape_body h [] low o =
    record { body = record { frame = None; corners = []; faces = []; lays = []; casts = [] }; is = refl; no_frame = λ _. refl; no_corners = λ _. refl; no_faces = λ _. refl; no_lays = λ _. refl }
shape_body h (e ∷ es) low o =
    let up = (rises h (head_of e) o.0).0 in
    put h e es low o.0 (shape_body (head_of e) es (omega arith) o.1)

record IsPlan (e : Entry) : Type 0 where
  width : ℤ
  rows : ℤ
  kind : PlaneKind
  is : e ≡ entry.Plan width rows kind

-- the first line is a plan, and the second a ground
is_plan : (e : Entry) → rank (head_of e) ≡ 0 → IsPlan e
is_plan (entry.Plan w r k) p = record { width = w; rows = r; kind = k; is = refl }
is_plan (entry.Ground g) p = absurd (omega arith)
is_plan (entry.Frame c0 r0 c1 r1) p = absurd (omega arith)
is_plan (entry.Corner x y z) p = absurd (omega arith)
is_plan (entry.Face a b c) p = absurd (omega arith)
is_plan (entry.Lay w) p = absurd (omega arith)
is_plan (entry.Cast w x y z) p = absurd (omega arith)

is_ground_lem : (e : Entry) → rank (head_of e) ≡ 1 → (g : ℤ) × (e ≡ entry.Ground g)
is_ground_lem (entry.Plan w r k) p = absurd (omega arith)
is_ground_lem (entry.Ground g) p = (g, refl)
is_ground_lem (entry.Frame c0 r0 c1 r1) p = absurd (omega arith)
is_ground_lem (entry.Corner x y z) p = absurd (omega arith)
is_ground_lem (entry.Face a b c) p = absurd (omega arith)
is_ground_lem (entry.Lay w) p = absurd (omega arith)
is_ground_lem (entry.Cast w x y z) p = absurd (omega arith)

-- two or more lines in order are those of a job
pub shaped : (es : List Entry) → InOrder None es → 2 ≤ length es → (j : Job) × (es ≡ lines_of j)
shaped [] o two = absurd (omega arith)
shaped (e ∷ []) o two = absurd (omega arith)
shaped (e ∷ d ∷ es) o two =
    let none : rank (head_of e) ≡ 0 = ap rank o.0 in
    let one : rank (head_of d) ≡ 1 = ⊎_elim (λ p. p.1 none) (λ p. absurd (omega (arith, p.0, p.1))) o.1.0 in
    let p = is_plan e none in
    let g = is_ground_lem d one in
    let s = shape_body (head_of d) es (omega arith) o.1.1 in (
      record { width = p.width; rows = p.rows; kind = p.kind; ground = g.0; frame = s.body.frame; corners = s.body.corners; faces = s.body.faces; lays = s.body.lays; casts = s.body.casts },
      (λ i. p.is i ∷ g.1 i ∷ s.is i),
    )

-- ---- the lines of a job are in order
-- the lines may follow any line from ground on up to rank r
abbrev After : ℕ → List Entry → Type 0
After r es = (m : Head) → 1 ≤ rank m → rank m ≤ r → InOrder (Some m) es

-- lines of one sort before such lines
after_all : {X : Type 0} (f : X → Entry) (k : Head) → ((x : X) → head_of (f x) ≡ k) → 3 ≤ rank k → (xs : List X) (es : List Entry) → After (rank k) es → After (rank k) (map f xs ++ es)
after_all f k is high [] es a m low le = a m low le
after_all f k is high (x ∷ xs) es a m low le =
    let r : rank (head_of (f x)) ≡ rank k = ap rank (is x) in (
      ⊎_elim (λ lt. inl (omega arith, λ z. absurd (omega arith))) (λ ge. inr (omega arith, omega arith)) (cases_lt (rank m) (rank k)),
      after_all f k is high xs es a (head_of (f x)) (omega arith) (omega arith),
    )

-- the frame line, if there is one, comes after ground
frame_first : (o : Option Cutout) (es : List Entry) → After 3 es → InOrder (Some head.Ground) (frame_lines o ++ es)
frame_first None es a = a head.Ground (omega arith) (omega arith)
frame_first (Some w) es a = (inl (omega arith, λ z. absurd (omega arith)), a head.Frame (omega arith) (omega arith))

pub ordered : (j : Job) → InOrder None (lines_of j)
ordered j =
    let casts : After 6 (map cast_line j.casts) = λ m low le. subst (InOrder (Some m)) (append-nil _) (after_all cast_line head.Cast (λ _. refl) (omega arith) j.casts [] (λ _ _ _. tt) m low le) in
    let lays = after_all lay_line head.Lay (λ _. refl) (omega arith) j.lays _ (λ m low le. casts m low (omega arith)) in
    let faces = after_all face_line head.Face (λ _. refl) (omega arith) j.faces _ (λ m low le. lays m low (omega arith)) in
    let corners = after_all corner_line head.Corner (λ _. refl) (omega arith) j.corners _ (λ m low le. faces m low (omega arith)) in
    (refl, (inl (omega arith, λ _. refl), frame_first j.frame _ corners))

-- ---- lines that pass are in order
pub in_order : (room : Room) (before es : List Entry) → AllPass room before es → InOrder (last_of before) es
in_order room before [] p = tt
in_order room before (e ∷ es) p =
    (p.0.placed, subst (λ (o : Option Head). InOrder o es) (last_push None before e) (in_order room (before ++ e ∷ []) es p.1))
