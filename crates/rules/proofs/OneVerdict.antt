-- A text is refused in one way or accepted in one way, and not both.
use Rattle.std.proofs.Common.{◌≡◌, ℕ, ◌+◌, ◌≤◌, Bool, true, List, [], ◌∷◌, ◌++◌, length, Some, None, Option, sym, refl, ap, ◌∙◌, subst, append_assoc, append-nil, arith, length-append}
use Rattle.geometry.specs.declared.refusal.Refusal.{Refusal}
use Rattle.solids.specs.Tables.{sides, Paired}
use Rattle.solids.specs.declared.misfit.Misfit.{Misfit}
use Rattle.solids.proofs.Verdicts.{unmatched_once, unmatched_unpaired, partnered_paired}
use Rattle.text.specs.declared.head.Head.{Head}
use Rattle.text.specs.declared.head.Head.TheVariants as head
use Rattle.text.specs.declared.fault.Fault.{Fault}
use Rattle.text.specs.Text.{FirstLine}
use Rattle.text.specs.Heads.{word, head_of}
use Rattle.text.specs.Entries.{Entry, spelt}
use Rattle.text.specs.Lines.{Reads, Unreadable}
use Rattle.text.specs.Spelling.{line_of, written}
use Rattle.text.specs.Faults.{fault_at}
use Rattle.text.proofs.Unique.{SameCut, same_cut, same_entry, not_unreadable, same_unreadable}
use Rattle.rules.specs.declared.room.Room.{Room}
use Rattle.rules.specs.Contents.{points_of, triangles_of, setup_of}
use Rattle.rules.specs.Tests.{line_refusal}
use Rattle.rules.specs.Verdict.{last_of, Matching, Mismatch, site_line, FaceNext, Settled, Passes, AllPass, picture_size}
use Rattle.rules.specs.Verdict.{Stops, unmatched, unreadable, broken, early, unpictured, Accepted}
use Rattle.rules.specs.Theorems.{OneVerdict}
use Rattle.rules.proofs.Progress.{no_line}
use Rattle.rules.proofs.Written.{line_first, line_parts, line_reads, same_start}

-- ---- one match
pub one_mismatch : (es : List Entry) (a b : Misfit) → Mismatch es a → Mismatch es b → a ≡ b
one_mismatch es a b = unmatched_once (points_of es) (triangles_of es) (sides (triangles_of es)) a b

-- faces that match have no mismatch
pub matched_mismatched : (es : List Entry) (a : Misfit) → Matching es → Mismatch es a → ⊥
matched_mismatched es a m bad =
    let cs = points_of es in
    let ts = triangles_of es in
    unmatched_unpaired cs ts (sides ts) a bad
    (subst (λ (n : ℕ). Paired cs ts n) m.1.numbered.inside.filled.counted.long (partnered_paired cs ts m.0 m.1))

-- ---- one end
-- the same line by another name
moved : {o : Option Head} {l m to un : List ℕ} {b c : Bool} {n : ℕ} {f : Fault} → SameCut l m b c to un → Unreadable o l b n f → Unreadable o m c n f
moved {o} {l} {m} {to} {un} {b} {c} {n} {f} s u = subst (λ (x : Bool). Unreadable o m x n f) s.end (subst (λ (x : List ℕ). Unreadable o x b n f) s.line u)

moved_reads : {o : Option Head} {l m to un : List ℕ} {b c d : Bool} {e : Entry} → SameCut l m b c to un → Reads o l d e → Reads o m d e
moved_reads {o} {l} {m} {to} {un} {b} {c} {d} {e} s r = subst (λ (x : List ℕ). Reads o x d e) s.line r

-- no line can be read from an empty text
none_left : {rest l to : List ℕ} {end : Bool} → rest ≡ [] → FirstLine rest l end to → ⊥
none_left {rest} {l} {to} {end} none cut = no_line l to end (subst (λ (w : List ℕ). FirstLine w l end to) none cut)

-- a text that begins with a line is not empty
some_left : (e : Entry) (to : List ℕ) → line_of e ++ 10 ∷ to ≡ [] → ⊥
some_left e to none = omega (arith, ap length none, length-append (line_of e) (10 ∷ to))

module _ (room : Room) where
  -- a face that passes is next
  face_of_lem : {before : List Entry} (e : Entry) (to : List ℕ) → Passes room before e → head_of e ≡ head.Face → FaceNext (line_of e ++ 10 ∷ to)
  face_of_lem {before} e to p is =
      record {
        line = line_of e;
        end = true;
        to = to;
        fields = spelt e;
        cut = line_first e to p.few;
        parts = line_parts e p.few ∙ ap (λ (h : Head). word h ∷ spelt e) is;
      }

  -- a line that passes does not stop the reading
  goes_on : (before : List Entry) (e : Entry) (to : List ℕ) (f : Fault) → Passes room before e → Stops room before (line_of e ++ 10 ∷ to) f → ⊥
  goes_on before e to f p (unmatched why due bad) =
      matched_mismatched before why (p.settled due.faces (λ is. due.other (face_of_lem e to p is))) bad
  goes_on before e to f p (unreadable l end un g ready cut u) =
      let s = same_cut _ l (line_of e) un to end true cut (line_first e to p.few) in
      not_unreadable _ e g (line_reads (last_of before) e p.placed p.few) (moved s u)
  goes_on before e to f p (broken l un d why ready cut r bad) =
      let s = same_cut _ l (line_of e) un to true true cut (line_first e to p.few) in
      let same : d ≡ e = same_entry _ (line_of e) true d e (moved_reads s r) (line_reads (last_of before) e p.placed p.few) in
      cc (p.kept, ap (line_refusal room before) (sym same) ∙ bad)
  goes_on before e to f p (early ready none few) = some_left e to none
  goes_on before e to f p (unpictured ready none enough small) = some_left e to none

  -- the reading is stopped in one way
  same_stop : (before : List Entry) (rest : List ℕ) (f g : Fault) → Stops room before rest f → Stops room before rest g → f ≡ g
  same_stop before rest f g (unmatched a due bad) (unmatched b duty worse) =
      ap (λ (w : Misfit). fault_at w.refusal (site_line before w.site) 0) (one_mismatch before a b bad worse)
  same_stop before rest f g (unmatched a due bad) (unreadable m fin un y steady slice v) = absurd (matched_mismatched before a (steady due) bad)
  same_stop before rest f g (unmatched a due bad) (broken m un e k steady slice q worse) = absurd (matched_mismatched before a (steady due) bad)
  same_stop before rest f g (unmatched a due bad) (early steady null less) = absurd (matched_mismatched before a (steady due) bad)
  same_stop before rest f g (unmatched a due bad) (unpictured steady null more small) = absurd (matched_mismatched before a (steady due) bad)
  same_stop before rest f g (unreadable l end to x ready cut u) (unmatched b duty worse) = absurd (matched_mismatched before b (ready duty) worse)
  same_stop before rest f g (unreadable l end to x ready cut u) (unreadable m fin un y steady slice v) =
      let s = same_cut rest l m to un end fin cut slice in
      same_unreadable _ x y (moved s u) v
  same_stop before rest f g (unreadable l end to x ready cut u) (broken m un e n steady slice r bad) =
      let s = same_cut rest l m to un end true cut slice in
      absurd (not_unreadable _ e x r (moved s u))
  same_stop before rest f g (unreadable l end to x ready cut u) (early steady null less) = absurd (none_left null cut)
  same_stop before rest f g (unreadable l end to x ready cut u) (unpictured steady null more small) = absurd (none_left null cut)
  same_stop before rest f g (broken l to d k ready cut r bad) (unmatched b duty worse) = absurd (matched_mismatched before b (ready duty) worse)
  same_stop before rest f g (broken l to d k ready cut r bad) (unreadable m fin un y steady slice v) =
      let s = same_cut rest m l un to fin true slice cut in
      absurd (not_unreadable _ d y r (moved s v))
  same_stop before rest f g (broken l to d k ready cut r bad) (broken m un e n steady slice q worse) =
      let s = same_cut rest l m to un true true cut slice in
      let same : d ≡ e = same_entry _ m true d e (moved_reads s r) q in
      let why : k ≡ n = cc (sym (ap (line_refusal room before) same) ∙ bad, worse) in
      ap (λ (w : Refusal). fault_at w (length before + 1) 0) why
  same_stop before rest f g (broken l to d k ready cut r bad) (early steady null less) = absurd (none_left null cut)
  same_stop before rest f g (broken l to d k ready cut r bad) (unpictured steady null more small) = absurd (none_left null cut)
  same_stop before rest f g (early ready none few) (unmatched b duty worse) = absurd (matched_mismatched before b (ready duty) worse)
  same_stop before rest f g (early ready none few) (unreadable m fin un y steady slice v) = absurd (none_left none slice)
  same_stop before rest f g (early ready none few) (broken m un e n steady slice q worse) = absurd (none_left none slice)
  same_stop before rest f g (early ready none few) (early steady null less) = refl
  same_stop before rest f g (early ready none few) (unpictured steady null more small) = absurd (omega arith)
  same_stop before rest f g (unpictured ready none enough small) (unmatched b duty worse) = absurd (matched_mismatched before b (ready duty) worse)
  same_stop before rest f g (unpictured ready none enough small) (unreadable m fin un y steady slice v) = absurd (none_left none slice)
  same_stop before rest f g (unpictured ready none enough small) (broken m un e n steady slice q worse) = absurd (none_left none slice)
  same_stop before rest f g (unpictured ready none enough small) (early steady null less) = absurd (omega arith)
  same_stop before rest f g (unpictured ready none enough small) (unpictured steady null more less) = refl

  -- the lines are the whole of an accepted text
  record Done (before : List Entry) (rest : List ℕ) : Type 0 where
    none : rest ≡ []
    settled : Settled before rest
    enough : 2 ≤ length before
    pictured : picture_size (setup_of before) ≤ room.picture

  -- nothing stops the reading there
  not_stopped : (before : List Entry) (rest : List ℕ) (f : Fault) → Done before rest → Stops room before rest f → ⊥
  not_stopped before rest f d (unmatched why due bad) = matched_mismatched before why (d.settled due) bad
  not_stopped before rest f d (unreadable l end to x ready cut u) = none_left d.none cut
  not_stopped before rest f d (broken l to e k ready cut r bad) = none_left d.none cut
  not_stopped before rest f d (early ready null few) = omega (arith, d.enough)
  not_stopped before rest f d (unpictured ready null enough small) = omega (arith, d.pictured)

  -- the end of the reading: a fault, or none
  data Ends (before : List Entry) (rest : List ℕ) : Option Fault → Type 0 where
    stop : (f : Fault) → Stops room before rest f → Ends before rest (Some f)
    done : Done before rest → Ends before rest None

  -- it ends in one way
  same_end : (before : List Entry) (rest : List ℕ) (u v : Option Fault) → Ends before rest u → Ends before rest v → u ≡ v
  same_end before rest u v (stop f s) (stop g t) = ap (λ (x : Fault). Some x) (same_stop before rest f g s t)
  same_end before rest u v (stop f s) (done d) = absurd (not_stopped before rest f d s)
  same_end before rest u v (done d) (stop g t) = absurd (not_stopped before rest g d t)
  same_end before rest u v (done d) (done e) = refl

  -- it does not end before a line that passes
  goes_further : (before : List Entry) (e : Entry) (to : List ℕ) (u : Option Fault) → Passes room before e → Ends before (line_of e ++ 10 ∷ to) u → ⊥
  goes_further before e to u p (stop f s) = goes_on before e to f p s
  goes_further before e to u p (done d) = some_left e to d.none

  record Same (es fs : List Entry) (u v : Option Fault) : Type 0 where
    lines : es ≡ fs
    end : u ≡ v

  -- two readings of one text pass the same lines and come to the same end
  all_one : (before es fs : List Entry) (r q : List ℕ) (u v : Option Fault) → written es ++ r ≡ written fs ++ q → AllPass room before es → AllPass room before fs → Ends (before ++ es) r u → Ends (before ++ fs) q v → Same es fs u v
  all_one before [] [] r q u v e p o s t =
      record { lines = refl; end = same_end (before ++ []) q u v (subst (λ (x : List ℕ). Ends (before ++ []) x u) e s) t }
  all_one before [] (y ∷ fs) r q u v e p o s t =
      absurd (goes_further before y (written fs ++ q) u o.0
      (subst (λ (x : List ℕ). Ends before x u) (e ∙ append_assoc (line_of y) (10 ∷ written fs) q) (subst (λ (x : List Entry). Ends x r u) (append-nil before) s)))
  all_one before (x ∷ es) [] r q u v e p o s t =
      absurd (goes_further before x (written es ++ r) v p.0
      (subst (λ (z : List ℕ). Ends before z v) (sym e ∙ append_assoc (line_of x) (10 ∷ written es) r) (subst (λ (z : List Entry). Ends z q v) (append-nil before) t)))
  all_one before (x ∷ es) (y ∷ fs) r q u v e p o s t =
      let e' : line_of x ++ 10 ∷ (written es ++ r) ≡ line_of y ++ 10 ∷ (written fs ++ q) = sym (append_assoc (line_of x) (10 ∷ written es) r) ∙ e ∙ append_assoc (line_of y) (10 ∷ written fs) q in
      let c = same_start x y (written es ++ r) (written fs ++ q) p.0.few o.0.few e' in
      let same : x ≡ y = c.entry in
      let rec = all_one (before ++ y ∷ []) es fs r q u v c.next (subst (λ (z : Entry). AllPass room (before ++ z ∷ []) es) same p.1) o.1
      (subst (λ (z : List Entry). Ends z r u) (sym (append_assoc before (y ∷ []) es)) (subst (λ (z : Entry). Ends (before ++ z ∷ es) r u) same s))
      (subst (λ (z : List Entry). Ends z q v) (sym (append_assoc before (y ∷ []) fs)) t) in
      record { lines = λ i. same i ∷ rec.lines i; end = rec.end }

  of_accepted : (text : List ℕ) (es : List Entry) → Accepted room text es → Ends es [] None
  of_accepted text es a = done (record { none = refl; settled = λ d. a.settled d.faces; enough = a.enough; pictured = a.pictured })

  whole_accepted : (text : List ℕ) (es : List Entry) → Accepted room text es → text ≡ written es ++ []
  whole_accepted text es a = a.whole ∙ sym (append-nil (written es))

-- ---- the theorem
pub one_verdict : OneVerdict
one_verdict =
    record {
      one_fault = λ room text f g p q. cc (all_one room [] p.before q.before p.rest q.rest (Some f) (Some g) (sym p.whole ∙ q.whole) p.pass q.pass (stop f p.stops) (stop g q.stops)).end;
      one_reading = λ room text es fs p q. (all_one room [] es fs [] [] None None (sym (whole_accepted room text es p) ∙ whole_accepted room text fs q) p.pass q.pass (of_accepted room text es p) (of_accepted room text fs q)).lines;
      not_both = λ room text es f p q. cc (all_one room [] es q.before [] q.rest None (Some f) (sym (whole_accepted room text es p) ∙ q.whole) p.pass q.pass (of_accepted room text es p) (stop f q.stops)).end;
    }
