-- Lines in order pass one after the other, and their faces are settled, exactly if all of them together are sound: each line's own test
-- holds with the faces of all lines, there are few enough corners, faces and sunward triangles in all, and the faces match.
use Rattle.std.proofs.Common.{◌≡◌, ℕ, ◌+◌, ◌*◌, ◌<◌, ◌≤◌, Bool, true, false, ◌&&◌, ltb, leb, ◌⊎◌, List, [], ◌∷◌, ◌++◌, length, ℤ, Some, None, Option, sym, refl, ap, ◌∙◌, subst, inl, inr, ⊎_elim, append_assoc, append-nil, arith, length-append}
use Rattle.std.specs.List.{flat_map, AllByRecursion}
use Rattle.std.proofs.lemmas.List.Concat.{flat_map-append}
use Rattle.std.proofs.lemmas.Bool.{ltb-true, leb-true, lt-ltb, le-leb, and_parts, and_from, cond-true}
use Rattle.geometry.specs.Vectors.{vector}
use Rattle.geometry.specs.Limits.{in_run_limits}
use Rattle.geometry.specs.declared.refusal.Refusal.{Refusal}
use Rattle.geometry.specs.declared.refusal.Refusal.TheVariants as refusal
use Rattle.geometry.specs.declared.units.Point.{Point}
use Rattle.solids.specs.Solids.{SolidModel}
use Rattle.solids.specs.Tables.{tabled, Partnered}
use Rattle.solids.specs.declared.solid.Triangle.{Triangle}
use Rattle.volumes.specs.Volumes.{sunward_total}
use Rattle.survey.specs.Refusals.{unless, is_ground, has_triangles, stays_small}
use Rattle.survey.specs.Account.{Shadow, all_sunward}
use Rattle.text.specs.declared.head.Head.{Head}
use Rattle.text.specs.declared.head.Head.TheVariants as head
use Rattle.text.specs.Heads.{head_of}
use Rattle.text.specs.Entries.{Entry}
use Rattle.text.specs.declared.head.Statement.TheVariants as entry
use Rattle.text.specs.declared.entry.What.{What}
use Rattle.text.specs.Order.{MayFollow, rank}
use Rattle.rules.specs.declared.room.Room.{Room}
use Rattle.rules.specs.Contents.{corner_in, face_in, cast_in, points_of, triangles_of, solid_of, total_of}
use Rattle.rules.specs.Tests.{is_size, size_of, holds_pixels, holds_face, line_refusal}
use Rattle.rules.specs.Verdict.{last_after, last_of, Matching, Passes, AllPass}
use Rattle.rules.specs.Job.{AllFew}
use Rattle.rules.proofs.Progress.{last_push}
use Rattle.rules.proofs.Grammar.{InOrder, rises}

-- ---- sound lines
-- what one of the lines `all` is asked for, whatever its place
abbrev pub Fine : Room → List Entry → Entry → Type 0
Fine room all (entry.Plan w r k) = ((is_size w && is_size r) ≡ true) × (holds_pixels room k (size_of w * size_of r) ≡ true)
Fine room all (entry.Ground g) = is_ground g ≡ true
Fine room all (entry.Frame c0 r0 c1 r1) = Unit {0}
Fine room all (entry.Corner x y z) = Unit {0}
Fine room all (entry.Face a b c) = Unit {0}
Fine room all (entry.Lay w) = 0 < length (triangles_of all)
Fine room all (entry.Cast w dx dy dz) = (0 < length (triangles_of all)) × (in_run_limits (vector dx dy dz) ≡ true)

abbrev pub AllFine : Room → List Entry → List Entry → Type 0
AllFine room all es = AllByRecursion (Fine room all) es

pub record Sound (room : Room) (all : List Entry) : Type 0 where
  pub few : AllFew all
  pub fine : AllFine room all all
  pub corners : length (points_of all) ≤ room.corners
  pub triangles : length (triangles_of all) ≤ room.triangles
  pub partners : 3 * length (triangles_of all) ≤ room.partners
  pub solid : 0 < length (triangles_of all) → Matching all
  pub total : total_of all ≤ 1000000

-- ---- the tables do not change behind the faces
-- lines from the first lay or cast on have neither corners nor faces
late_none : (h : Head) (es : List Entry) → 5 ≤ rank h → InOrder (Some h) es → (points_of es ≡ []) × (triangles_of es ≡ [])
late_none h [] high o = (refl, refl)
late_none h (entry.Plan w r k ∷ es) high o = absurd (omega (arith, (rises h head.Plan o.0).0))
late_none h (entry.Ground g ∷ es) high o = absurd (omega (arith, (rises h head.Ground o.0).0))
late_none h (entry.Frame c0 r0 c1 r1 ∷ es) high o = absurd (omega (arith, (rises h head.Frame o.0).0))
late_none h (entry.Corner x y z ∷ es) high o = absurd (omega (arith, (rises h head.Corner o.0).0))
late_none h (entry.Face a b c ∷ es) high o = absurd (omega (arith, (rises h head.Face o.0).0))
late_none h (entry.Lay w ∷ es) high o = late_none head.Lay es (omega arith) o.1
late_none h (entry.Cast w x y z ∷ es) high o = late_none head.Cast es (omega arith) o.1

-- the same corners and the same triangles
pub record SameTables (es fs : List Entry) : Type 0 where
  pub points : points_of es ≡ points_of fs
  pub triangles : triangles_of es ≡ triangles_of fs

-- lines of which f takes nothing can be left out at the end
flat_map_none : {A : Type 0} (f : Entry → List A) (all before es : List Entry) → all ≡ before ++ es → flat_map f es ≡ [] → flat_map f before ≡ flat_map f all
flat_map_none f all before es is none =
    sym (ap (flat_map f) is ∙ flat_map-append f before es ∙ ap (λ l. flat_map f before ++ l) none ∙ append-nil (flat_map f before))

-- the lines before a lay or a cast have all the corners and faces
pub same_tables : (all before : List Entry) (e : Entry) (es : List Entry) → all ≡ before ++ e ∷ es → 5 ≤ rank (head_of e) → InOrder (Some (head_of e)) es → SameTables before all
same_tables all before e es is high o =
    let none = late_none (head_of e) (e ∷ es) high (inr (refl, omega arith), o) in
    record { points = flat_map_none corner_in all before (e ∷ es) is none.0; triangles = flat_map_none face_in all before (e ∷ es) is none.1 }

pub same_matching : (es fs : List Entry) → SameTables es fs → Matching es → Matching fs
same_matching es fs s m = (
  m.0,
  subst (λ (ts : List Triangle). Partnered (points_of fs) ts m.0) s.triangles
      (subst (λ (cs : List Point). Partnered cs (triangles_of es) m.0) s.points m.1),
)

pub back_tables : (es fs : List Entry) → SameTables es fs → SameTables fs es
back_tables es fs s = record { points = sym s.points; triangles = sym s.triangles }

pub same_solid : (es fs : List Entry) → SameTables es fs → solid_of [] es ≡ solid_of [] fs
same_solid es fs s = λ i. tabled (s.points i) (s.triangles i) []

-- ---- the last face
rank_face : (h : Head) → 4 ≡ rank h → h ≡ head.Face
rank_face head.Plan e = absurd (omega arith)
rank_face head.Ground e = absurd (omega arith)
rank_face head.Frame e = absurd (omega arith)
rank_face head.Corner e = absurd (omega arith)
rank_face head.Face e = refl
rank_face head.Lay e = absurd (omega arith)
rank_face head.Cast e = absurd (omega arith)

-- what follows a face and is none is a lay or a cast
past_faces : (o : Option Head) (h : Head) → MayFollow o h → o ≡ Some head.Face → (h ≡ head.Face → ⊥) → 5 ≤ rank h
past_faces o h m is other =
    let m' : MayFollow (Some head.Face) h = subst (λ (x : Option Head). MayFollow x h) is m in
    ⊎_elim (λ p. omega (arith, p.0)) (λ p. absurd (other (rank_face h p.0))) m'

some_face : (e : Entry) → head_of e ≡ head.Face → 0 < length (face_in e)
some_face (entry.Plan w r k) is = cc
some_face (entry.Ground g) is = cc
some_face (entry.Frame c0 r0 c1 r1) is = cc
some_face (entry.Corner x y z) is = cc
some_face (entry.Face a b c) is = omega arith
some_face (entry.Lay w) is = cc
some_face (entry.Cast w x y z) is = cc

-- a face that comes last is among the lines, or was last before them
last_after_lem : (o : Option Head) (es : List Entry) → last_after o es ≡ Some head.Face → (o ≡ Some head.Face) ⊎ (0 < length (triangles_of es))
last_after_lem o [] is = inl is
last_after_lem o (e ∷ es) is =
    let long = length-append (face_in e) (triangles_of es) in
    ⊎_elim (λ p. let q = some_face e cc in inr (omega arith)) (λ p. inr (omega arith)) (last_after_lem (Some (head_of e)) es is)

-- where a face comes last, there are faces
pub last_face : (es : List Entry) → last_of es ≡ Some head.Face → 0 < length (triangles_of es)
last_face es is = ⊎_elim (λ p. cc) (λ p. p) (last_after_lem None es is)

-- ---- counts and totals
-- what is flat_map of all lines is as much as of the first and of the rest
count_split : {A : Type 0} (f : Entry → List A) (all before es : List Entry) → all ≡ before ++ es → length (flat_map f all) ≡ length (flat_map f before) + length (flat_map f es)
count_split f all before es is =
    ap (λ (l : List Entry). length (flat_map f l)) is ∙ ap length (flat_map-append f before es) ∙ length-append (flat_map f before) (flat_map f es)

sunward-++ : (xs ys : List Shadow) → all_sunward (xs ++ ys) ≡ all_sunward xs + all_sunward ys
sunward-++ [] ys = omega arith
sunward-++ (x ∷ xs) ys = let h = sunward-++ xs ys in omega arith

-- the sunward triangles of the casts, each with the solid S
abbrev total_with : SolidModel → List Entry → ℕ
total_with S es = all_sunward (flat_map (cast_in S) es)

total_split : (S : SolidModel) (all before es : List Entry) → all ≡ before ++ es → total_with S all ≡ total_with S before + total_with S es
total_split S all before es is =
    ap (total_with S) is ∙ ap all_sunward (flat_map-append (cast_in S) before es) ∙ sunward-++ (flat_map (cast_in S) before) (flat_map (cast_in S) es)

-- one line more goes from the lines that follow to those before
moved_on : (all before : List Entry) (e : Entry) (es : List Entry) → all ≡ before ++ e ∷ es → all ≡ (before ++ e ∷ []) ++ es
moved_on all before e es is = is ∙ sym (append_assoc before (e ∷ []) es)

order_on : (before : List Entry) (e : Entry) (es : List Entry) → InOrder (Some (head_of e)) es → InOrder (last_of (before ++ e ∷ [])) es
order_on before e es o = subst (λ (x : Option Head). InOrder x es) (sym (last_push None before e)) o

count_push : {A : Type 0} (f : Entry → List A) (before : List Entry) (e : Entry) → length (flat_map f (before ++ e ∷ [])) ≡ length (flat_map f before) + length (f e)
count_push f before e = omega (arith, count_split f (before ++ e ∷ []) before (e ∷ []) refl, ap length (append-nil (f e)))

-- ---- sound lines pass
module _ (room : Room) (all : List Entry) (s : Sound room all) where
  -- a fine line passes its test
  kept_of : (before : List Entry) (e : Entry) (es : List Entry) → all ≡ before ++ e ∷ es → InOrder (Some (head_of e)) es → Fine room all e → line_refusal room before e ≡ None
  kept_of before (entry.Plan w r k) es is o f = cond-true _ _ _ f.0 ∙ cond-true _ _ _ f.1
  kept_of before (entry.Ground g) es is o f = cond-true _ _ _ f
  kept_of before (entry.Frame c0 r0 c1 r1) es is o f = refl
  kept_of before (entry.Corner x y z) es is o f =
      let n = count_split corner_in all before (entry.Corner x y z ∷ es) is in
      let m = s.corners in
      cond-true _ _ _ (lt-ltb (length (points_of before)) room.corners (omega arith))
  kept_of before (entry.Face a b c) es is o f =
      let n = count_split face_in all before (entry.Face a b c ∷ es) is in
      let m = s.triangles in
      let p = s.partners in
      cond-true _ _ _ (and_from _ _ (lt-ltb (length (triangles_of before)) room.triangles (omega arith)) (le-leb (3 * (length (triangles_of before) + 1)) room.partners (omega arith)))
  kept_of before (entry.Lay w) es is o f =
      let t = same_tables all before (entry.Lay w) es is (omega arith) o in
      cond-true _ _ _ (lt-ltb 0 (length (triangles_of before)) (omega (arith, f, ap length t.triangles)))
  kept_of before (entry.Cast w dx dy dz) es is o f =
      let e = entry.Cast w dx dy dz in
      let t = same_tables all before e es is (omega arith) o in
      let S = solid_of [] all in
      let d = vector dx dy dz in
      let base : total_with S before + sunward_total S d ≤ 1000000 = omega (arith, total_split S all before (e ∷ es) is, s.total) in
      let small : total_of before + sunward_total (solid_of [] before) d ≤ 1000000 = subst (λ (X : SolidModel). total_with X before + sunward_total X d ≤ 1000000) (sym (same_solid before all t)) base in
      cond-true _ _ _ (lt-ltb 0 (length (triangles_of before)) (omega (arith, f.0, ap length t.triangles)))
      ∙ cond-true _ _ _ f.1 ∙ cond-true _ _ _ (le-leb (total_of before + sunward_total (solid_of [] before) d) 1000000 small)

  -- the faces before a line that is none are matched
  settled_of : (before : List Entry) (e : Entry) (es : List Entry) → all ≡ before ++ e ∷ es → MayFollow (last_of before) (head_of e) → InOrder (Some (head_of e)) es → last_of before ≡ Some head.Face → (head_of e ≡ head.Face → ⊥) → Matching before
  settled_of before e es is m o last other =
      let t = same_tables all before e es is (past_faces (last_of before) (head_of e) m last other) o in
      same_matching all before (back_tables before all t) (s.solid (omega (arith, last_face before last, ap length t.triangles)))

  -- the lines es, which are the rest of all
  sound_passes : (before es : List Entry) → all ≡ before ++ es → InOrder (last_of before) es → AllFew es → AllFine room all es → AllPass room before es
  sound_passes before [] is o few fine = tt
  sound_passes before (e ∷ es) is o few fine = (
    record { placed = o.0; few = few.0; settled = settled_of before e es is o.0 o.1; kept = kept_of before e es is o.1 fine.0 },
    sound_passes (before ++ e ∷ []) es (moved_on all before e es is) (order_on before e es o.1) few.1 fine.1,
  )

-- sound lines in order pass, and their faces are settled
pub passes_from_sound : (room : Room) (all : List Entry) → InOrder None all → Sound room all → AllPass room [] all
passes_from_sound room all o s = sound_passes room all s [] all refl o s.few s.fine

pub settled_from_sound : (room : Room) (all : List Entry) → Sound room all → last_of all ≡ Some head.Face → Matching all
settled_from_sound room all s last = s.solid (last_face all last)

-- ---- lines that pass are sound
-- a test that does not refuse holds, and so do those after it
unless_none : (b : Bool) (why : Refusal) (rest : Option Refusal) → unless b why rest ≡ None → (b ≡ true) × (rest ≡ None)
unless_none true why rest e = (refl, e)
unless_none false why rest e = cc

-- what a cast that passes has shown
pub record CastKept (room : Room) (before : List Entry) (dx dy dz : ℤ) : Type 0 where
  pub some : 0 < length (triangles_of before)
  pub run : in_run_limits (vector dx dy dz) ≡ true
  pub small : total_of before + sunward_total (solid_of [] before) (vector dx dy dz) ≤ 1000000

pub cast_kept : (room : Room) (before : List Entry) (w : What) (dx dy dz : ℤ) → line_refusal room before (entry.Cast w dx dy dz) ≡ None → CastKept room before dx dy dz
cast_kept room before w dx dy dz kept =
    let S = solid_of [] before in
    let d = vector dx dy dz in
    let last = unless (stays_small (total_of before) S d) refusal.Total None in
    let a = unless_none (has_triangles S) refusal.Empty (unless (in_run_limits d) refusal.Run last) kept in
    let b = unless_none (in_run_limits d) refusal.Run last a.1 in
    let c = unless_none (stays_small (total_of before) S d) refusal.Total None b.1 in
    record {
      some = ltb-true 0 (length (triangles_of before)) a.0;
      run = b.0;
      small = leb-true (total_of before + sunward_total S d) 1000000 c.0;
    }

pub few_from_passes : (room : Room) (before es : List Entry) → AllPass room before es → AllFew es
few_from_passes room before [] p = tt
few_from_passes room before (e ∷ es) p = (p.0.few, few_from_passes room (before ++ e ∷ []) es p.1)

module _ (room : Room) (all : List Entry) where
  -- a line that passes its test is fine
  fine_of : (before : List Entry) (e : Entry) (es : List Entry) → all ≡ before ++ e ∷ es → InOrder (Some (head_of e)) es → line_refusal room before e ≡ None → Fine room all e
  fine_of before (entry.Plan w r k) es is o kept =
      let a = unless_none _ _ _ kept in
      (a.0, (unless_none _ _ _ a.1).0)
  fine_of before (entry.Ground g) es is o kept = (unless_none _ _ _ kept).0
  fine_of before (entry.Frame c0 r0 c1 r1) es is o kept = tt
  fine_of before (entry.Corner x y z) es is o kept = tt
  fine_of before (entry.Face a b c) es is o kept = tt
  fine_of before (entry.Lay w) es is o kept =
      let t = same_tables all before (entry.Lay w) es is (omega arith) o in
      omega (arith, ltb-true 0 (length (triangles_of before)) (unless_none _ _ _ kept).0, ap length t.triangles)
  fine_of before (entry.Cast w dx dy dz) es is o kept =
      let t = same_tables all before (entry.Cast w dx dy dz) es is (omega arith) o in
      let k = cast_kept room before w dx dy dz kept in
      (omega (arith, k.some, ap length t.triangles), k.run)

  fine-all : (before es : List Entry) → all ≡ before ++ es → InOrder (last_of before) es → AllPass room before es → AllFine room all es
  fine-all before [] is o p = tt
  fine-all before (e ∷ es) is o p = (
    fine_of before e es is o.1 p.0.kept,
    fine-all (before ++ e ∷ []) es (moved_on all before e es is) (order_on before e es o.1) p.1,
  )

  -- what each line that passes keeps holds after all
  carried : (P : List Entry → Type 0) → ((before : List Entry) (e : Entry) (es : List Entry) → all ≡ before ++ e ∷ es → InOrder (last_of before) (e ∷ es) → Passes room before e → P before → P (before ++ e ∷ [])) → (before es : List Entry) → all ≡ before ++ es → InOrder (last_of before) es → AllPass room before es → P before → P all
  carried P step before [] is o p h = subst P (sym (is ∙ append-nil before)) h
  carried P step before (e ∷ es) is o p h =
      carried P step (before ++ e ∷ []) es (moved_on all before e es is) (order_on before e es o.1) p.1 (step before e es is o p.0 h)

  -- a bound P on a count
  count_all : {A : Type 0} (f : Entry → List A) (P : ℕ → Type 0) → ((before : List Entry) (e : Entry) → line_refusal room before e ≡ None → P (length (flat_map f before)) → P (length (flat_map f before) + length (f e))) → InOrder None all → AllPass room [] all → P 0 → P (length (flat_map f all))
  count_all f P step =
      carried (λ before. P (length (flat_map f before))) (λ before e es is o p h. subst P (sym (count_push f before e)) (step before e p.kept h)) [] all refl

  -- a corner that passes has its place
  corner_step : (before : List Entry) (e : Entry) → line_refusal room before e ≡ None → length (points_of before) ≤ room.corners → length (points_of before) + length (corner_in e) ≤ room.corners
  corner_step before (entry.Plan w r k) kept h = omega arith
  corner_step before (entry.Ground g) kept h = omega arith
  corner_step before (entry.Frame c0 r0 c1 r1) kept h = omega arith
  corner_step before (entry.Corner x y z) kept h = omega (arith, ltb-true (length (points_of before)) room.corners (unless_none _ _ _ kept).0)
  corner_step before (entry.Face a b c) kept h = omega arith
  corner_step before (entry.Lay w) kept h = omega arith
  corner_step before (entry.Cast w x y z) kept h = omega arith

  -- n faces have their places, and their partners
  abbrev Faced : ℕ → Type 0
  Faced n = (n ≤ room.triangles) × (3 * n ≤ room.partners)

  no_more : (n : ℕ) → Faced n → Faced (n + 0)
  no_more n h = let p = h.0 in let q = h.1 in (omega arith, omega arith)

  -- a face that passes has its place, and its partners have theirs
  face_step : (before : List Entry) (e : Entry) → line_refusal room before e ≡ None → Faced (length (triangles_of before)) → Faced (length (triangles_of before) + length (face_in e))
  face_step before (entry.Plan w r k) kept h = no_more _ h
  face_step before (entry.Ground g) kept h = no_more _ h
  face_step before (entry.Frame c0 r0 c1 r1) kept h = no_more _ h
  face_step before (entry.Corner x y z) kept h = no_more _ h
  face_step before (entry.Face a b c) kept h =
      let n = length (triangles_of before) in
      let both = and_parts (ltb n room.triangles) (leb (3 * (n + 1)) room.partners) (unless_none (holds_face room n) refusal.Room None kept).0 in
      let less : n < room.triangles = ltb-true n room.triangles both.0 in
      (omega arith, leb-true (3 * (n + 1)) room.partners both.1)
  face_step before (entry.Lay w) kept h = no_more _ h
  face_step before (entry.Cast w x y z) kept h = no_more _ h

  -- a cast that passes keeps the total small
  cast_step : (before : List Entry) (e : Entry) (es : List Entry) → all ≡ before ++ e ∷ es → InOrder (Some (head_of e)) es → line_refusal room before e ≡ None → total_with (solid_of [] all) before ≤ 1000000 → total_with (solid_of [] all) before + all_sunward (cast_in (solid_of [] all) e) ≤ 1000000
  cast_step before (entry.Plan w r k) es is o kept h = omega arith
  cast_step before (entry.Ground g) es is o kept h = omega arith
  cast_step before (entry.Frame c0 r0 c1 r1) es is o kept h = omega arith
  cast_step before (entry.Corner x y z) es is o kept h = omega arith
  cast_step before (entry.Face a b c) es is o kept h = omega arith
  cast_step before (entry.Lay w) es is o kept h = omega arith
  cast_step before (entry.Cast w dx dy dz) es is o kept h =
      let t = same_tables all before (entry.Cast w dx dy dz) es is (omega arith) o in
      let d = vector dx dy dz in
      let small = (cast_kept room before w dx dy dz kept).small in
      let base : total_with (solid_of [] all) before + sunward_total (solid_of [] all) d ≤ 1000000 = subst (λ (X : SolidModel). total_with X before + sunward_total X d ≤ 1000000) (same_solid before all t) small in
      omega arith

  total_all : InOrder None all → AllPass room [] all → total_of all ≤ 1000000
  total_all o p =
      let S = solid_of [] all in
      carried (λ before. total_with S before ≤ 1000000)
      (λ before e es is o p h. omega (arith, total_split S (before ++ e ∷ []) before (e ∷ []) refl, ap all_sunward (append-nil (cast_in S e)), cast_step before e es is o.1 p.kept h)) [] all refl o p (omega arith)

  -- the faces before a line are matched already, or the last of them is the last line before it
  abbrev Pending : List Entry → Type 0
  Pending before = 0 < length (triangles_of before) → (last_of before ≡ Some head.Face) ⊎ Matching all

  -- a line that is no face
  other_step : (before : List Entry) (e : Entry) (es : List Entry) → all ≡ before ++ e ∷ es → InOrder (last_of before) (e ∷ es) → Passes room before e → (head_of e ≡ head.Face → ⊥) → face_in e ≡ [] → Pending before → Pending (before ++ e ∷ [])
  other_step before e es is o p other none pending some =
      let had : 0 < length (triangles_of before) = omega (arith, some, count_push face_in before e, ap length none) in
      ⊎_elim
      (λ (last : last_of before ≡ Some head.Face).
      inr (same_matching before all (same_tables all before e es is (past_faces (last_of before) (head_of e) o.0 last other) o.1) (p.settled last other)))
      (λ (m : Matching all). inr m)
      (pending had)

  pending_step : (before : List Entry) (e : Entry) (es : List Entry) → all ≡ before ++ e ∷ es → InOrder (last_of before) (e ∷ es) → Passes room before e → Pending before → Pending (before ++ e ∷ [])
  pending_step before (entry.Plan w r k) es is o p h = other_step before (entry.Plan w r k) es is o p (λ q. cc) refl h
  pending_step before (entry.Ground g) es is o p h = other_step before (entry.Ground g) es is o p (λ q. cc) refl h
  pending_step before (entry.Frame c0 r0 c1 r1) es is o p h = other_step before (entry.Frame c0 r0 c1 r1) es is o p (λ q. cc) refl h
  pending_step before (entry.Corner x y z) es is o p h = other_step before (entry.Corner x y z) es is o p (λ q. cc) refl h
  pending_step before (entry.Face a b c) es is o p h = λ some. inl (last_push None before (entry.Face a b c))
  pending_step before (entry.Lay w) es is o p h = other_step before (entry.Lay w) es is o p (λ q. cc) refl h
  pending_step before (entry.Cast w x y z) es is o p h = other_step before (entry.Cast w x y z) es is o p (λ q. cc) refl h

-- lines in order that pass, with their faces settled, are sound
pub sound_from_passes : (room : Room) (all : List Entry) → InOrder None all → AllPass room [] all → (last_of all ≡ Some head.Face → Matching all) → Sound room all
sound_from_passes room all o p settled =
    let faces = count_all room all face_in (Faced room all) (face_step room all) o p (omega arith, omega arith) in
    record {
      few = few_from_passes room [] all p;
      fine = fine-all room all [] all refl o p;
      corners = count_all room all corner_in (λ (n : ℕ). n ≤ room.corners) (corner_step room all) o p (omega arith);
      triangles = faces.0;
      partners = faces.1;
      solid = λ some. ⊎_elim settled (λ m. m) (carried room all (Pending room all) (pending_step room all) [] all refl o p (λ none. absurd (omega arith)) some);
      total = total_all room all o p;
    }
