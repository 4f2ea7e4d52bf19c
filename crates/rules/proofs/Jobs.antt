-- The texts that are accepted are those of the jobs that obey the rules and fit, and each such job has one text and each text one job.
use Rattle.std.proofs.Common.{◌≡◌, ℕ, ◌+◌, ◌<◌, ◌≤◌, List, [], ◌∷◌, ◌++◌, map, length, Some, None, Option, sym, refl, ap, ◌∙◌, subst, ⊎_elim, arith}
use Rattle.std.proofs.lemmas.Bool.{and_parts, and_from, cases_lt}
use Rattle.planes.specs.declared.frame.Cutout.{Cutout}
use Rattle.text.specs.Entries.{Entry}
use Rattle.text.specs.declared.entry.What.{What}
use Rattle.text.specs.Spelling.{written}
use Rattle.rules.specs.declared.room.Room.{Room}
use Rattle.rules.specs.declared.setup.Setup.{Setup}
use Rattle.rules.specs.Contents.{triangles_of, setup_of}
use Rattle.rules.specs.Tests.{is_size}
use Rattle.rules.specs.Verdict.{picture_size, Accepted}
use Rattle.rules.specs.Job.{Cast, Job, corner_line, face_line, lay_line, cast_line, frame_lines, lines_of, spelling, setup, AllFall, Obeys, Fits}
use Rattle.rules.specs.Theorems.{JobsAreAccepted}
use Rattle.rules.proofs.Written.{same_written, all-++}
use Rattle.rules.proofs.OneVerdict.{one_verdict}
use Rattle.rules.proofs.Grammar.{ordered, shaped, in_order}
use Rattle.rules.proofs.Passing.{Fine, AllFine, Sound, passes_from_sound, settled_from_sound, sound_from_passes}
use Rattle.rules.proofs.Parts.{points_count, triangles_count, setup_of_lem, same_job}

-- ---- the lines of a job that are fine, part by part
module _ (room : Room) (all : List Entry) where
  fine-front : (es fs : List Entry) → AllFine room all (es ++ fs) → AllFine room all es
  fine-front [] fs p = tt
  fine-front (e ∷ es) fs p = (p.0, fine-front es fs p.1)

  fine-rest : (es fs : List Entry) → AllFine room all (es ++ fs) → AllFine room all fs
  fine-rest [] fs p = p
  fine-rest (e ∷ es) fs p = fine-rest es fs p.1

  -- lines that are fine everywhere
  fine-map : {X : Type 0} (line : X → Entry) → ((x : X) → Fine room all (line x)) → (xs : List X) → AllFine room all (map line xs)
  fine-map line fine [] = tt
  fine-map line fine (x ∷ xs) = (fine x, fine-map line fine xs)

  frame_fine : (o : Option Cutout) → AllFine room all (frame_lines o)
  frame_fine None = tt
  frame_fine (Some w) = (tt, tt)

  -- what is laid has faces
  laid_some : (ws : List What) → AllFine room all (map lay_line ws) → 0 < length ws → 0 < length (triangles_of all)
  laid_some [] p some = absurd (omega arith)
  laid_some (w ∷ ws) p some = p.0

  lays_fine : (ws : List What) → (0 < length ws → 0 < length (triangles_of all)) → AllFine room all (map lay_line ws)
  lays_fine [] h = tt
  lays_fine (w ∷ ws) h = let p : 0 < length (triangles_of all) = h (omega arith) in (p, lays_fine ws (λ _. p))

  -- what is cast has faces, and its run falls
  cast_some : (ss : List Cast) → AllFine room all (map cast_line ss) → 0 < length ss → 0 < length (triangles_of all)
  cast_some [] p some = absurd (omega arith)
  cast_some (s ∷ ss) p some = p.0.0

  casts_fall : (ss : List Cast) → AllFine room all (map cast_line ss) → AllFall ss
  casts_fall [] p = tt
  casts_fall (s ∷ ss) p = (p.0.1, casts_fall ss p.1)

  casts_fine : (ss : List Cast) → (0 < length ss → 0 < length (triangles_of all)) → AllFall ss → AllFine room all (map cast_line ss)
  casts_fine [] h fall = tt
  casts_fine (s ∷ ss) h fall = let p : 0 < length (triangles_of all) = h (omega arith) in ((p, fall.0), casts_fine ss (λ _. p) fall.1)

-- ---- the lines of a job are sound exactly if it obeys the rules and fits
module _ (room : Room) (j : Job) where
  abbrev corners : List Entry
  corners = map corner_line j.corners

  abbrev faces : List Entry
  faces = map face_line j.faces

  abbrev lays : List Entry
  lays = map lay_line j.lays

  abbrev casts : List Entry
  casts = map cast_line j.casts

  either_some : (m n k : ℕ) → (0 < m → 0 < k) → (0 < n → 0 < k) → 0 < m + n → 0 < k
  either_some m n k p q some = ⊎_elim (λ (l : m < 1). q (omega arith)) (λ (l : 1 ≤ m). p l) (cases_lt m 1)

  module _ (s : Sound room (lines_of j)) where
    behind : AllFine room (lines_of j) (lays ++ casts)
    behind = fine-rest room (lines_of j) faces (lays ++ casts) (fine-rest room (lines_of j) corners (faces ++ (lays ++ casts)) (fine-rest room (lines_of j) (frame_lines j.frame) (corners ++ (faces ++ (lays ++ casts))) s.fine.1.1))

    pub obeys_from_sound : Obeys j
    obeys_from_sound =
        let size = and_parts (is_size j.width) (is_size j.rows) s.fine.0.0 in
        let laid = fine-front room (lines_of j) lays casts behind in
        let cast = fine-rest room (lines_of j) lays casts behind in
        record {
          numbers = s.few;
          columns = size.0;
          lines = size.1;
          ground = s.fine.1.0;
          solid = λ some. s.solid (omega (arith, some, triangles_count j));
          faces = λ some. omega (arith, triangles_count j, either_some (length j.lays) (length j.casts) _ (laid_some room (lines_of j) j.lays laid) (cast_some room (lines_of j) j.casts cast) some);
          runs = casts_fall room (lines_of j) j.casts cast;
          total = s.total;
        }

    pub fits_from_sound : picture_size (setup j) ≤ room.picture → Fits room j
    fits_from_sound picture =
        record {
          pixels = s.fine.0.1;
          corners = omega (arith, s.corners, points_count j);
          triangles = omega (arith, s.triangles, triangles_count j);
          partners = omega (arith, s.partners, triangles_count j);
          picture = picture;
        }

  pub sound_job : Obeys j → Fits room j → Sound room (lines_of j)
  sound_job o f =
      let all = lines_of j in
      let n = triangles_count j in
      let laid = lays_fine room all j.lays (λ (some : 0 < length j.lays). omega (arith, n, o.faces (omega arith))) in
      let cast = casts_fine room all j.casts (λ (some : 0 < length j.casts). omega (arith, n, o.faces (omega arith))) o.runs in
      record {
        few = o.numbers;
        fine = (
          (and_from (is_size j.width) (is_size j.rows) o.columns o.lines, f.pixels),
          (
            o.ground,
            all-++ (Fine room all) (frame_lines j.frame) (corners ++ (faces ++ (lays ++ casts))) (frame_fine room all j.frame)
                (all-++ (Fine room all) corners (faces ++ (lays ++ casts)) (fine-map room all corner_line (λ _. tt) j.corners)
                (all-++ (Fine room all) faces (lays ++ casts) (fine-map room all face_line (λ _. tt) j.faces)
                (all-++ (Fine room all) lays casts laid cast))),
          ),
        );
        corners = omega (arith, f.corners, points_count j);
        triangles = omega (arith, f.triangles, n);
        partners = omega (arith, f.partners, n);
        solid = λ some. o.solid (omega (arith, some, n));
        total = o.total;
      }

-- ---- the theorem
accepted : (room : Room) (text : List ℕ) (es : List Entry) → Accepted room text es → (j : Job) × ((es ≡ lines_of j) × ((text ≡ spelling j) × (Obeys j × Fits room j)))
accepted room text es a =
    let o = in_order room [] es a.pass in
    let s = shaped es o a.enough in
    let j = s.0 in
    let sound : Sound room (lines_of j) = subst (Sound room) s.1 (sound_from_passes room es o a.pass a.settled) in
    let picture : picture_size (setup j) ≤ room.picture = subst (λ (t : Setup). picture_size t ≤ room.picture) (ap setup_of s.1 ∙ setup_of_lem j) a.pictured in
    (j, (s.1, (a.whole ∙ ap written s.1, (obeys_from_sound room j sound, fits_from_sound room j sound picture))))

pub accepts_job : (room : Room) (j : Job) → Obeys j → Fits room j → Accepted room (spelling j) (lines_of j)
accepts_job room j o f =
    let s = sound_job room j o f in
    record {
      whole = refl;
      pass = passes_from_sound room (lines_of j) (ordered j) s;
      settled = settled_from_sound room (lines_of j) s;
      enough = omega arith;
      pictured = subst (λ (t : Setup). picture_size t ≤ room.picture) (sym (setup_of_lem j)) f.picture;
    }

pub jobs_are_accepted : JobsAreAccepted
jobs_are_accepted =
    record {
      accepted = accepted;
      accepts = accepts_job;
      one_job = λ i j o p e. same_job i j (same_written (lines_of i) (lines_of j) o.numbers p.numbers e);
      never_refused = λ room j f o p r. one_verdict.not_both room (spelling j) (lines_of j) f (accepts_job room j o p) r;
    }
