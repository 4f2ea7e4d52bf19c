-- Accounts: how each call carries one that stands on, and what a mark then tells.
use Rattle.std.proofs.Common.{◌≡◌, ℕ, zero, suc, ◌+◌, ◌%◌, ◌<◌, ◌≤◌, true, ◌&&◌, List, [], ◌∷◌, ◌++◌, ℤ, Option, sym, ap, ◌∙◌, subst, ap₂, append_assoc, append-nil, mod-eq_of_lt, arith}
use native.Mathlib.Nat.{mod-add-mod, zero-mod}
use Rattle.std.proofs.lemmas.Bool.{and_from, cond-true}
use Rattle.std.proofs.lemmas.Bool.Decides.{nat_tests}
use Rattle.algebra.specs.Maxima.{maximum_over_some}
use Rattle.algebra.proofs.Maxima.{maximum_over_some-append}
use Rattle.geometry.specs.Vectors.{V3}
use Rattle.solids.specs.Solids.{SolidModel}
use Rattle.volumes.specs.Faces.{Sample, receiver}
use Rattle.volumes.specs.Volumes.{sunward_total, struck}
use Rattle.volumes.proofs.Solids.{strikes_are_few}
use Rattle.planes.specs.Planes.{PlaneModel, inside, in_window, is_height}
use Rattle.survey.specs.Drawing.{sample_of}
use Rattle.survey.specs.Survey.{SurveyModel, mark_of}
use Rattle.survey.specs.Changes.{lays_of, Laid, Shadowed, Begun}
use Rattle.survey.specs.Account.{Shadow, Account, bare, with_lay, all_lays, all_strikes, all_sunward, receiver_height, strikes_at, total_of, Stands, Told, Undisturbed, CarriesLay, CarriesCast}
use Rattle.survey.specs.declared.mark.Mark.{Mark}
use Rattle.survey.specs.declared.mark.Mark.TheVariants.{Shaded, Unsure, Lit}
use Rattle.survey.proofs.Pixels.{same_numbers_lem, same_window}

-- ---- one more in a list
pub all_lays-more : (Ss : List SolidModel) (S : SolidModel) (p : Sample) → all_lays (Ss ++ (S ∷ [])) p ≡ all_lays Ss p ++ lays_of S p
all_lays-more [] S p = append-nil (lays_of S p)
all_lays-more (R ∷ Ss) S p = ap (λ (t : List (Option ℤ)). lays_of R p ++ t) (all_lays-more Ss S p) ∙ sym (append_assoc (lays_of R p) (all_lays Ss p) (lays_of S p))

pub all_strikes-more : (cs : List Shadow) (c : Shadow) (P : V3) → all_strikes (cs ++ (c ∷ [])) P ≡ all_strikes cs P + struck c.solid c.run P
all_strikes-more [] c P = omega arith
all_strikes-more (b ∷ cs) c P = let ih : all_strikes (cs ++ (c ∷ [])) P ≡ all_strikes cs P + struck c.solid c.run P = all_strikes-more cs c P in omega arith

pub all_sunward-more : (cs : List Shadow) (c : Shadow) → all_sunward (cs ++ (c ∷ [])) ≡ all_sunward cs + sunward_total c.solid c.run
all_sunward-more [] c = omega arith
all_sunward-more (b ∷ cs) c = let ih : all_sunward (cs ++ (c ∷ [])) ≡ all_sunward cs + sunward_total c.solid c.run = all_sunward-more cs c in omega arith

-- no point is struck more often than there are sunward triangles
pub strikes_few : (cs : List Shadow) (P : V3) → all_strikes cs P ≤ all_sunward cs
strikes_few [] P = omega arith
strikes_few (c ∷ cs) P =
    let a : struck c.solid c.run P ≤ sunward_total c.solid c.run = strikes_are_few c.solid c.run P in
    let b : all_strikes cs P ≤ all_sunward cs = strikes_few cs P in
    omega arith

-- ---- the calls
-- a plane that is wiped holds the bare ground
pub begun_stands : (m n : PlaneModel) (g : ℤ) (s : SurveyModel) → ((k l : ℕ) → in_window m k l ≡ true → inside m k l ≡ true) → is_height g ≡ true → Begun m g s n → Stands (bare g) n s
begun_stands m n g s within high b = record {
  shape = b.shape ∙ sym (same_numbers_lem m n b.wiped.shape);
  heights = λ k l w. b.wiped.heights k l ∙ cond-true (is_height g && inside m k l) g (m.height k l) (all k l w);
  counts = λ k l w. b.wiped.counts k l ∙ cond-true (is_height g && inside m k l) 0 (m.count k l) (all k l w) ∙ sym (zero-mod n.modulus);
  total = b.total;
}
  where
    all : (k l : ℕ) → in_window n k l ≡ true → (is_height g && inside m k l) ≡ true
    all k l w = and_from (is_height g) (inside m k l) high (within k l (sym (same_window m n b.wiped.shape k l) ∙ w))

-- nothing changes
pub kept_stands : (m n : PlaneModel) → n ≡ m → Undisturbed m n
kept_stands m n e a t st = subst (λ (p : PlaneModel). Stands a p t) (sym e) st

-- while nothing is cast no point is struck, at whatever height
pub unstruck : (a : Account) (s : SurveyModel) (P : V3) → s.total ≡ 0 → s.total ≡ total_of a → all_strikes a.casts P ≡ 0
unstruck a s P z e = let few : all_strikes a.casts P ≤ all_sunward a.casts = strikes_few a.casts P in omega arith

-- laying
pub laid_stands : (m n : PlaneModel) (S : SolidModel) (s : SurveyModel) → s.total ≡ 0 → Laid m S n → CarriesLay s m S n
laid_stands m n S s none laid a st = record {
  shape = st.shape ∙ sym (same_numbers_lem m n laid.shape);
  heights = λ k l w.
      let v : in_window m k l ≡ true = sym (same_window m n laid.shape k l) ∙ w in
      laid.heights k l
      ∙ cond-true (in_window m k l) (maximum_over_some (m.height k l) (lays_of S (sample_of k l))) (m.height k l) v
      ∙ ap (λ (h : ℤ). maximum_over_some h (lays_of S (sample_of k l))) (st.heights k l v)
      ∙ sym (maximum_over_some-append a.ground (all_lays a.lays (sample_of k l)) (lays_of S (sample_of k l)))
      ∙ ap (maximum_over_some a.ground) (sym (all_lays-more a.lays S (sample_of k l)));
  counts = λ k l w.
      let v : in_window m k l ≡ true = sym (same_window m n laid.shape k l) ∙ w in
      laid.counts k l
      ∙ st.counts k l v
      ∙ ap₂ (λ (c M : ℕ). c % M) (unstruck a s (receiver (sample_of k l) (receiver_height a k l)) none st.total ∙ sym (unstruck a s (receiver (sample_of k l) (receiver_height (with_lay a S) k l)) none st.total)) (sym laid.shape.modulus);
  total = st.total;
}

-- casting
pub cast_stands : (m n : PlaneModel) (S : SolidModel) (d : V3) (s t : SurveyModel) → t.shape ≡ s.shape → t.total ≡ s.total + sunward_total S d → Shadowed m S d n → CarriesCast s m S d t n
cast_stands m n S d s t shape total shadowed a st = record {
  shape = shape ∙ st.shape ∙ sym (same_numbers_lem m n shadowed.faces.shape);
  heights = λ k l w.
      let v : in_window m k l ≡ true = sym (same_window m n shadowed.faces.shape k l) ∙ w in
      shadowed.faces.heights k l ∙ st.heights k l v;
  counts = λ k l w.
      let v : in_window m k l ≡ true = sym (same_window m n shadowed.faces.shape k l) ∙ w in
      let P : V3 = receiver (sample_of k l) (receiver_height a k l) in
      shadowed.strikes k l v
      ∙ ap₂ (λ (c : ℕ) (h : ℤ). (c + struck S d (receiver (sample_of k l) h)) % m.modulus) (st.counts k l v) (st.heights k l v)
      ∙ mod-add-mod (strikes_at a k l) m.modulus (struck S d P)
      ∙ ap₂ (λ (c M : ℕ). c % M) (sym (all_strikes-more a.casts (record { solid = S; run = d }) P)) (sym shadowed.faces.shape.modulus);
  total = let e = st.total in let f = all_sunward-more a.casts (record { solid = S; run = d }) in total ∙ ap (λ (c : ℕ). c + sunward_total S d) e ∙ sym f;
}

-- ---- what a mark tells
mark_shaded : (M c n : ℕ) → mark_of M c n ≡ Shaded → 0 < c
mark_shaded M c n e = grind (arith, nat_tests)

mark_lit : (M c n : ℕ) → mark_of M c n ≡ Lit → (c ≡ 0) × (n < M)
mark_lit M c n e = grind (arith, nat_tests)

mark_unsure : (M c n : ℕ) → mark_of M c n ≡ Unsure → (c ≡ 0) × (M ≤ n)
mark_unsure M c n e = grind (arith, nat_tests)

mark_in_doubt : (M c n : ℕ) → c ≡ 0 → M ≤ n → mark_of M c n ≡ Unsure
mark_in_doubt M c n z h = grind (arith, nat_tests)

some_struck : (k M : ℕ) → 0 < k % M → 0 < k
some_struck zero M h = subst (λ (c : ℕ). 0 < c) (zero-mod M) h
some_struck (suc k) M h = omega arith

pub tells_truth : (a : Account) (m : PlaneModel) (s : SurveyModel) (k l : ℕ) → Stands a m s → in_window m k l ≡ true
    → Told a m.modulus k l (mark_of m.modulus (m.count k l) s.total) (m.count k l) s.total
tells_truth a m s k l st w =
    let M : ℕ = m.modulus in
    let e : m.count k l ≡ strikes_at a k l % M = st.counts k l w in
    let n : s.total ≡ total_of a = st.total in
    let few : strikes_at a k l ≤ total_of a = strikes_few a.casts (receiver (sample_of k l) (receiver_height a k l)) in
    record {
      count_is = e;
      total_is = n;
      shaded = λ h. some_struck (strikes_at a k l) M (subst (λ (c : ℕ). 0 < c) e (mark_shaded M (m.count k l) s.total h));
      lit = λ h. let p = mark_lit M (m.count k l) s.total h in let x : strikes_at a k l < M = omega arith in sym (mod-eq_of_lt x) ∙ sym e ∙ p.0;
      unsure = mark_unsure M (m.count k l) s.total;
      unsure_when = mark_in_doubt M (m.count k l) s.total;
    }

-- the same of the mark and the count that a call answers
pub told : (a : Account) (m : PlaneModel) (s : SurveyModel) (k l : ℕ) (mark : Mark) (count : ℕ) → Stands a m s → in_window m k l ≡ true → count ≡ m.count k l → mark ≡ mark_of m.modulus count s.total
    → Told a m.modulus k l mark count s.total
told a m s k l mark count st w e f =
    let g : mark ≡ mark_of m.modulus (m.count k l) s.total = f ∙ ap (λ (c : ℕ). mark_of m.modulus c s.total) e in
    subst (λ (x : Mark). Told a m.modulus k l x count s.total) (sym g)
    (subst (λ (c : ℕ). Told a m.modulus k l (mark_of m.modulus (m.count k l) s.total) c s.total) (sym e) (tells_truth a m s k l st w))
