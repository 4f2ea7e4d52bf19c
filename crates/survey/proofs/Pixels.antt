-- Planes of one shape, and where their windows lie.
use Rattle.std.proofs.Common.{◌≡◌, ℕ, true, ◌&&◌, ltb, leb, refl, ◌∙◌, arith}
use Rattle.std.proofs.lemmas.Bool.{and_parts, and_from, ltb-true, lt-ltb}
use Rattle.planes.specs.Planes.{PlaneModel, Sound, SameShape, inside, in_window}
use Rattle.survey.specs.Survey.{shape_of}

pub same_refl : (m : PlaneModel) → SameShape m m
same_refl m = record { width = refl; rows = refl; modulus = refl; c0 = refl; r0 = refl; c1 = refl; r1 = refl }

pub same_trans : (m n o : PlaneModel) → SameShape m n → SameShape n o → SameShape m o
same_trans m n o p q = record {
  width = q.width ∙ p.width;
  rows = q.rows ∙ p.rows;
  modulus = q.modulus ∙ p.modulus;
  c0 = q.c0 ∙ p.c0;
  r0 = q.r0 ∙ p.r0;
  c1 = q.c1 ∙ p.c1;
  r1 = q.r1 ∙ p.r1;
}

-- planes of one shape have the same numbers, and the same window
pub same_numbers_lem : (m n : PlaneModel) → SameShape m n → shape_of n ≡ shape_of m
same_numbers_lem m n p =
    let a = p.width in
    let b = p.rows in
    let c = p.modulus in
    let d = p.c0 in
    let e = p.r0 in
    let f = p.c1 in
    let g = p.r1 in
    cc

pub same_window : (m n : PlaneModel) → SameShape m n → (k l : ℕ) → in_window n k l ≡ in_window m k l
same_window m n p k l =
    let d = p.c0 in
    let e = p.r0 in
    let f = p.c1 in
    let g = p.r1 in
    cc

-- a pixel of the window is one of the plane
pub window_inside : (m : PlaneModel) → Sound m → (k l : ℕ) → in_window m k l ≡ true → inside m k l ≡ true
window_inside m s k l h =
    let p = and_parts (leb m.c0 k && ltb k m.c1) (leb m.r0 l && ltb l m.r1) h in
    let q = ltb-true k m.c1 (and_parts (leb m.c0 k) (ltb k m.c1) p.0).1 in
    let r = ltb-true l m.r1 (and_parts (leb m.r0 l) (ltb l m.r1) p.1).1 in
    let a = s.columns in
    let b = s.lines in
    and_from (ltb k m.width) (ltb l m.rows) (lt-ltb k m.width (omega arith)) (lt-ltb l m.rows (omega arith))
