-- What the reading of a job keeps from line to line: how the contents of the lines grow by one line more, and what a reading that has
-- come so far may conclude: that one line more passes, that the text is refused, or that it is accepted.
use Rattle.std.proofs.Common.{◌≡◌, ℕ, ◌+◌, ◌<◌, ◌≤◌, Bool, true, false, ◌⊎◌, List, [], ◌∷◌, ◌++◌, length, Some, None, Decides, Option, sym, refl, ap, ◌∙◌, subst, ⊎_elim, append_assoc, append-nil, arith, length-append}
use Rattle.std.proofs.lemmas.Bool.{cases_Bool, true≢false}
use Rattle.geometry.specs.declared.refusal.Refusal.{Refusal}
use Rattle.geometry.specs.declared.refusal.Refusal.TheVariants as refusal
use Rattle.solids.specs.declared.misfit.Misfit.{Misfit}
use Rattle.text.specs.declared.head.Head.{Head}
use Rattle.text.specs.declared.head.Head.TheVariants as head
use Rattle.text.specs.Entries.{Entry}
use Rattle.text.specs.declared.fault.Fault.{Fault}
use Rattle.text.specs.Pieces.{glued, pieces}
use Rattle.text.specs.Text.{FirstLine, ended}
use Rattle.text.specs.Heads.{word, head_of}
use Rattle.text.specs.Order.{MayFollow, rank}
use Rattle.text.specs.Lines.{Parted, Reads, Unreadable}
use Rattle.text.specs.Spelling.{line_of, written}
use Rattle.text.specs.Faults.{fault_at}
use Rattle.text.proofs.Cuts.{glued-pieces}
use Rattle.text.proofs.Unique.{same_cut, same_word, first_of}
use Rattle.rules.specs.declared.room.Room.{Room}
use Rattle.rules.specs.declared.setup.Setup.{Setup}
use Rattle.rules.specs.Contents.{set_by, set_after, setup_of}
use Rattle.rules.specs.Tests.{line_refusal}
use Rattle.rules.specs.Verdict.{last_after, last_of, Matching, Mismatch, site_line, FaceNext, Settled, Passes, AllPass, picture_size}
use Rattle.rules.specs.Verdict.{Stops, unmatched, unreadable, broken, early, unpictured, Refused, Accepted}

-- ---- the contents of lines, and of one line more
pub written-++ : (es fs : List Entry) → written (es ++ fs) ≡ written es ++ written fs
written-++ [] fs = refl
written-++ (e ∷ es) fs =
    ap (λ (l : List ℕ). line_of e ++ 10 ∷ l) (written-++ es fs) ∙ sym (append_assoc (line_of e) (10 ∷ written es) (written fs))

pub last_push : (o : Option Head) (es : List Entry) (e : Entry) → last_after o (es ++ e ∷ []) ≡ Some (head_of e)
last_push o [] e = refl
last_push o (x ∷ es) e = last_push (Some (head_of x)) es e

pub set-++ : (s : Setup) (es fs : List Entry) → set_after s (es ++ fs) ≡ set_after (set_after s es) fs
set-++ s [] fs = refl
set-++ s (e ∷ es) fs = set-++ (set_by s e) es fs

-- ---- lines that pass
pub pass_push : (room : Room) (front es : List Entry) (e : Entry) → AllPass room front es → Passes room (front ++ es) e → AllPass room front (es ++ e ∷ [])
pass_push room front [] e all p = (subst (λ (l : List Entry). Passes room l e) (append-nil front) p, tt)
pass_push room front (x ∷ es) e all p =
    (all.0, pass_push room (front ++ x ∷ []) es e all.1 (subst (λ (l : List Entry). Passes room l e) (sym (append_assoc front (x ∷ []) es)) p))

-- a line that says e is the one that is written for it
pub line_is : (o : Option Head) (l : List ℕ) (end : Bool) (e : Entry) → Reads o l end e → l ≡ line_of e
line_is o l end e r =
    sym (glued-pieces 9 l) ∙ ap (glued 9) r.headed.parts ∙ ap (λ (fs : List (List ℕ)). glued 9 (word (head_of e) ∷ fs)) r.says.text

-- a line that says e is next, so e is a face if a face is next
pub same_head_next : {o : Option Head} {from l to : List ℕ} {end : Bool} {e : Entry} → FirstLine from l end to → Reads o l end e → FaceNext from → head_of e ≡ head.Face
same_head_next {o} {from} {l} {to} {end} {e} cut r next =
    let s = same_cut from l next.line to next.to end next.end cut next.cut in
    same_word (head_of e) head.Face (first_of (sym r.headed.parts ∙ ap (pieces 9) s.line ∙ next.parts))

-- ---- the end of a text
pub no_line : (l to : List ℕ) (end : Bool) → FirstLine [] l end to → ⊥
no_line l to true c = omega (arith, ap length c.whole, length-append l (10 ∷ to))
no_line l to false c = omega (arith, ap length c.whole, length-append {A = ℕ} l [], (c.last refl).0)

pub no_face : {from : List ℕ} → from ≡ [] → FaceNext from → ⊥
no_face {from} none next = no_line next.line next.to next.end (subst (λ (w : List ℕ). FirstLine w next.line next.end next.to) none next.cut)

-- what follows a line is shorter than the text with the line
pub shorter : (from l to : List ℕ) (end : Bool) → FirstLine from l end to → length to < length from
shorter from l to true cut = omega (arith, ap length cut.whole, length-append l (10 ∷ to))
shorter from l to false cut = omega (arith, ap length cut.whole, length-append {A = ℕ} l [], (cut.last refl).0, ap length (cut.last refl).1)

-- ---- whether a face is next
-- the next line has the head `face` just where a face is next
pub face_next : {from to : List ℕ} (l : List ℕ) {end : Bool} → FirstLine from l end to → (fs : List (List ℕ)) × Parted l head.Face fs → FaceNext from
face_next {from} {to} l {end} cut p = record { line = l; end = end; to = to; fields = p.0; cut = cut; parts = p.1 }

pub face_line_lem : {from to : List ℕ} (l : List ℕ) {end : Bool} → FirstLine from l end to → FaceNext from → (fs : List (List ℕ)) × Parted l head.Face fs
face_line_lem {from} {to} l {end} cut next =
    let s = same_cut from l next.line to next.to end next.end cut next.cut in
    (next.fields, ap (pieces 9) s.line ∙ next.parts)

-- the flag b tells whether the next line is a face
module _ {from to : List ℕ} (l : List ℕ) {end : Bool} (b : Bool) (cut : FirstLine from l end to) (tells : Decides b ((fs : List (List ℕ)) × Parted l head.Face fs)) where
  -- the faces are settled if they are matched where the last line is a face and the next is none
  pub settled_by : (before : List Entry) → (last_of before ≡ Some head.Face → b ≡ false → Matching before) → Settled before from
  settled_by before h due =
      ⊎_elim (λ (e : b ≡ true). absurd (due.other (face_next l cut (tells.0 e)))) (λ (e : b ≡ false). h due.faces e) (cases_Bool b)

  pub other_by : b ≡ false → FaceNext from → ⊥
  other_by e next = true≢false (sym (tells.1 (face_line_lem l cut next)) ∙ e)

-- ---- a reading that has come so far
-- the text begins with the lines `before`, which all pass, and `rest` is left to read
pub record Sofar (room : Room) (text : List ℕ) (before : List Entry) (rest : List ℕ) : Type 0 where
  pub whole : text ≡ written before ++ rest
  pub pass : AllPass room [] before

pub begins : (room : Room) (text rest : List ℕ) → rest ≡ text → Sofar room text [] rest
begins room text rest is = record { whole = sym is; pass = tt }

lines_few : (es : List Entry) → length es ≤ length (written es)
lines_few [] = omega arith
lines_few (e ∷ es) = omega (arith, length-append (line_of e) (10 ∷ written es), lines_few es)

module _ {room : Room} {text : List ℕ} {before : List Entry} {from : List ℕ} (s : Sofar room text before from) where
  -- there are no more lines than bytes
  pub lines_within : length before ≤ length text
  lines_within = omega (arith, lines_few before, ap length s.whole, length-append (written before) from)

  -- the next line passes
  pub one_more : (l to : List ℕ) (end : Bool) (e : Entry) → Settled before from → FirstLine from l end to → Reads (last_of before) l end e → line_refusal room before e ≡ None → Sofar room text (before ++ e ∷ []) to
  one_more l to end e ready cut r kept =
      let here : from ≡ line_of e ++ 10 ∷ to = cut.whole ∙ ap (λ (b : Bool). l ++ ended b to) r.headed.whole ∙ ap (λ (x : List ℕ). x ++ 10 ∷ to) (line_is (last_of before) l end e r) in
      record {
        whole = s.whole ∙ ap (λ (x : List ℕ). written before ++ x) (here ∙ sym (append_assoc (line_of e) (10 ∷ []) to)) ∙ sym (append_assoc (written before) (line_of e ++ 10 ∷ []) to) ∙ ap (λ (x : List ℕ). x ++ to) (sym (written-++ before (e ∷ [])));
        pass = pass_push room [] before e s.pass (record {
          placed = r.headed.placed;
          few = r.says.few;
          settled = λ p q. ready (record { faces = p; other = λ next. q (same_head_next cut r next) });
          kept = kept;
        });
      }

  refused_for : (f : Fault) → Stops room before from f → Refused room text f
  refused_for f stops = record { before = before; rest = from; whole = s.whole; pass = s.pass; stops = stops }

  -- the faces do not match
  pub refused_match : (why : Misfit) → last_of before ≡ Some head.Face → (FaceNext from → ⊥) → Mismatch before why → Refused room text (fault_at why.refusal (site_line before why.site) 0)
  refused_match why is other bad = refused_for _ (unmatched why (record { faces = is; other = other }) bad)

  -- the next line is refused for its text; n is its number
  pub refused_text : (l to : List ℕ) (end : Bool) (n : ℕ) (f : Fault) → Settled before from → FirstLine from l end to → n ≡ length before + 1 → Unreadable (last_of before) l end n f → Refused room text f
  refused_text l to end n f ready cut is u = refused_for f (unreadable l end to f ready cut (subst (λ (m : ℕ). Unreadable (last_of before) l end m f) is u))

  -- the next line fails a test
  pub refused_test : (l to : List ℕ) (end : Bool) (e : Entry) (why : Refusal) (n : ℕ) → Settled before from → FirstLine from l end to → Reads (last_of before) l end e → line_refusal room before e ≡ Some why → n ≡ length before + 1 → Refused room text (fault_at why n 0)
  refused_test l to end e why n ready cut r bad is =
      subst (λ (k : ℕ). Refused room text (fault_at why k 0)) (sym is)
      (refused_for _ (broken l to e why ready (subst (λ (b : Bool). FirstLine from l b to) r.headed.whole cut) (subst (λ (b : Bool). Reads (last_of before) l b e) r.headed.whole r) bad))

-- ---- how many lines there are, as the last of them tells
-- a line after one that is past `plan` is past it too
later : (room : Room) (front es : List Entry) (h : Head) → 1 ≤ rank h → last_of front ≡ Some h → AllPass room front es → (k : Head) × ((last_after (Some h) es ≡ Some k) × (1 ≤ rank k))
later room front [] h p is all = (h, (refl, p))
later room front (e ∷ es) h p is all =
    let on : MayFollow (Some h) (head_of e) = subst (λ (o : Option Head). MayFollow o (head_of e)) is all.0.placed in
    let past : 1 ≤ rank (head_of e) = ⊎_elim (λ q. omega (arith, q.0)) (λ q. omega (arith, q.1)) on in
    later room (front ++ e ∷ []) es (head_of e) past (last_push None front e) all.1

pub few_lines : (room : Room) (es : List Entry) → AllPass room [] es → (last_of es ≡ None) ⊎ (last_of es ≡ Some head.Plan) → length es < 2
few_lines room [] all h = omega arith
few_lines room (e ∷ []) all h = omega arith
few_lines room (e ∷ f ∷ es) all h =
    let past : 1 ≤ rank (head_of f) = ⊎_elim (λ q. omega (arith, q.0)) (λ q. omega (arith, q.1)) all.1.0.placed in
    let k = later room (e ∷ f ∷ []) es (head_of f) past refl all.1.1 in
    ⊎_elim (λ none. cc (k.1.0, none)) (λ plan. let is : k.0 ≡ head.Plan = cc (k.1.0, plan) in absurd (omega (arith, k.1.1, ap rank is))) h

pub many_lines : (room : Room) (es : List Entry) → AllPass room [] es → (last_of es ≡ None → ⊥) → (last_of es ≡ Some head.Plan → ⊥) → 2 ≤ length es
many_lines room [] all p q = absurd (p refl)
many_lines room (e ∷ []) all p q = absurd (q (ap (λ (h : Head). Some h) all.0.placed))
many_lines room (e ∷ f ∷ es) all p q = omega arith

-- ---- a reading that has come to the end
module _ {room : Room} {text : List ℕ} {before : List Entry} {from : List ℕ} (s : Sofar room text before from) (end : from ≡ []) where
  pub ends_early : (n : ℕ) → Settled before from → n ≡ length before + 1 → (last_of before ≡ None) ⊎ (last_of before ≡ Some head.Plan) → Refused room text (fault_at refusal.Head n 0)
  ends_early n ready is h =
      subst (λ (k : ℕ). Refused room text (fault_at refusal.Head k 0)) (sym is)
      (refused_for s _ (early ready end (few_lines room before s.pass h)))

  pub ends_unpictured : (n : ℕ) → Settled before from → n ≡ length before + 1 → (last_of before ≡ None → ⊥) → (last_of before ≡ Some head.Plan → ⊥) → room.picture < picture_size (setup_of before) → Refused room text (fault_at refusal.Picture n 0)
  ends_unpictured n ready is p q small =
      subst (λ (k : ℕ). Refused room text (fault_at refusal.Picture k 0)) (sym is)
      (refused_for s _ (unpictured ready end (many_lines room before s.pass p q) small))

  pub accepts : Settled before from → (last_of before ≡ None → ⊥) → (last_of before ≡ Some head.Plan → ⊥) → picture_size (setup_of before) ≤ room.picture → Accepted room text before
  accepts ready p q fits =
      record {
        whole = s.whole ∙ ap (λ (l : List ℕ). written before ++ l) end ∙ append-nil _;
        pass = s.pass;
        settled = λ e. ready (record { faces = e; other = no_face end });
        enough = many_lines room before s.pass p q;
        pictured = fits;
      }
