-- What the code's tests and side signs say.
use Rattle.std.proofs.Common.{◌≡◌, ℕ, suc, Bool, true, false, cond, ◌||◌, ◌⊎◌, List, [], ◌∷◌, ℤ, pos, negsuc, ◌+ℤ◌, ◌-ℤ◌, ◌*ℤ◌, neg_ℤ, nat_abs, Some, None, Option, sym, refl, ap, ◌∙◌, ap₂, inl, inr, ⊎_elim, arith, w64, SFits}
use mathlib.Core.Bool.{false≢true}
use borrow.Author.Differences.{ints}
use lib.Signed.{lt_z}
use Rattle.std.specs.Int.{int_wrap}
use Rattle.std.proofs.lemmas.Int.{int_wrap_fits, int_wrap-sub_right}
use Rattle.algebra.specs.Division.{floor_div}
use Rattle.algebra.proofs.Ring.{◌⊕◌, ◌⊖◌, ◌⊗◌, num, ◌≗◌, solve}
use Rattle.geometry.specs.Vectors.{V3, minus, dot, cross}
use Rattle.geometry.specs.Machine.{vector_of, wrapped3}
use Rattle.geometry.specs.Signs.{Sign, Negative, Zero, Positive, sign_of, ◌or_else◌}
use Rattle.geometry.proofs.Exact.{wrap-wrap, cross_wrapped, dot_wrapped_right}
use Rattle.volumes.specs.Faces.{Sample, Face, receiver, all_positive, all_negative, tally}
use Rattle.volumes.specs.Heights.{scaled_height}
use Rattle.volumes.specs.Machine.{face_of, cover_by, cover_along, weight_of}
use Rattle.volumes.specs.Wrapped.{wrapped_side_sign, wrapped_side_signs, wrapped_ratio, wrapped_raised_to, wrapped_raised_at, wrapped_below, wrapped_contribution}
use Rattle.volumes.specs.declared.face.Face as code
use Rattle.volumes.proofs.Faces.{never_both}
use Rattle.volumes.specs.declared.cover.Cover.{Cover}
use Rattle.volumes.specs.declared.cover.Cover.TheVariants.{Up, Down, Beside}

-- ---- the sign of a side, from the two differences and their product
pub side_sign_lem : (u v : V3) (p : Sample) (S P C : V3) (s t r : Sign) → S ≡ wrapped3 (minus v u) → P ≡ wrapped3 (minus (receiver p (pos 0)) u) → C ≡ wrapped3 (cross S P)
    → s ≡ sign_of C.z → t ≡ sign_of (neg_ℤ S.y) → r ≡ sign_of S.x → (s or_else t) or_else r ≡ wrapped_side_sign u v p
side_sign_lem u v p S P C s t r eS eP eC es et er =
    let c : C ≡ wrapped3 (cross (minus v u) (minus (receiver p (pos 0)) u)) = eC ∙ ap₂ (λ x y. wrapped3 (cross x y)) eS eP ∙ cross_wrapped (minus v u) (minus (receiver p (pos 0)) u) in
    assoc s t r ∙ (λ i. (es ∙ ap (λ (x : V3). sign_of x.z) c) i or_else ((et ∙ ap (λ (x : V3). sign_of (neg_ℤ x.y)) eS) i or_else (er ∙ ap (λ (x : V3). sign_of x.x) eS) i))
  where
    assoc : (s t r : Sign) → (s or_else t) or_else r ≡ s or_else (t or_else r)
    assoc Negative t r = refl
    assoc Zero t r = refl
    assoc Positive t r = refl

-- ---- the cover of three and of four sides, side by side
pub three_sides : (a b c : Sign) → cover_along (cover_along (cover_by (a ∷ [])) b) c ≡ cover_by (a ∷ b ∷ c ∷ [])
three_sides Zero b c = refl
three_sides Positive Negative c = refl
three_sides Positive Zero c = refl
three_sides Positive Positive Negative = refl
three_sides Positive Positive Zero = refl
three_sides Positive Positive Positive = refl
three_sides Negative Positive c = refl
three_sides Negative Zero c = refl
three_sides Negative Negative Positive = refl
three_sides Negative Negative Zero = refl
three_sides Negative Negative Negative = refl

pub four_sides : (a b c d : Sign) → cover_along (cover_along (cover_along (cover_by (a ∷ [])) b) c) d ≡ cover_by (a ∷ b ∷ c ∷ d ∷ [])
four_sides Zero b c d = refl
four_sides Positive Negative c d = refl
four_sides Positive Zero c d = refl
four_sides Positive Positive Negative d = refl
four_sides Positive Positive Zero d = refl
four_sides Positive Positive Positive Negative = refl
four_sides Positive Positive Positive Zero = refl
four_sides Positive Positive Positive Positive = refl
four_sides Negative Positive c d = refl
four_sides Negative Zero c d = refl
four_sides Negative Negative Positive d = refl
four_sides Negative Negative Zero d = refl
four_sides Negative Negative Negative Positive = refl
four_sides Negative Negative Negative Zero = refl
four_sides Negative Negative Negative Negative = refl

-- ---- the plane of a face at a point
pub plane_at : (n u P : V3) (r : ℤ) (D : V3) → D ≡ wrapped3 (minus P u) → r ≡ int_wrap w64 (dot n D) → r ≡ int_wrap w64 (dot n (minus P u))
plane_at n u P r D d e = e ∙ ap (λ x. int_wrap w64 (dot n x)) d ∙ dot_wrapped_right n (minus P u)

-- ---- quotients
pub ratio_down : (a b q : ℤ) (m : ℕ) → lt_z b (pos 0) ≡ true → m ≡ nat_abs b → q ≡ floor_div (int_wrap w64 (neg_ℤ a)) m → q ≡ wrapped_ratio a b
ratio_down a (pos n) q m h k e = absurd (omega (arith, ints))
ratio_down a (negsuc n) q m h k e = e ∙ ap (λ (x : ℕ). floor_div (int_wrap w64 (neg_ℤ a)) x) k

pub ratio_up : (a b q : ℤ) (m : ℕ) → SFits w64 a → lt_z b (pos 0) ≡ false → m ≡ nat_abs b → q ≡ floor_div a m → q ≡ wrapped_ratio a b
ratio_up a (pos n) q m f h k e = e ∙ ap₂ floor_div (sym (int_wrap_fits w64 a f)) k
ratio_up a (negsuc n) q m f h k e = absurd (omega (arith, ints))

-- the number that is divided may have been wrapped before
ratio_wrapped : (a b : ℤ) → wrapped_ratio (int_wrap w64 a) b ≡ wrapped_ratio a b
ratio_wrapped a (pos m) = ap (λ (x : ℤ). floor_div x m) (wrap-wrap a)
ratio_wrapped a (negsuc m) = ap (λ (x : ℤ). floor_div x (suc m)) (wrap-neg a)
  where
    as_difference : (a : ℤ) → neg_ℤ a ≡ pos 0 -ℤ a
    as_difference a = omega (arith, ints)

    wrap-neg : (a : ℤ) → int_wrap w64 (neg_ℤ (int_wrap w64 a)) ≡ int_wrap w64 (neg_ℤ a)
    wrap-neg a = ap (int_wrap w64) (as_difference (int_wrap w64 a)) ∙ int_wrap-sub_right w64 (pos 0) a ∙ ap (int_wrap w64) (sym (as_difference a))

-- the scaled height is n · (u − P) of the point P at the height 0
pub scaled_at : (f : Face) (p : Sample) → dot f.normal (minus f.first (receiver p (pos 0))) ≡ scaled_height f p
scaled_at f p = parts f.normal.x f.normal.y f.normal.z f.first.x f.first.y f.first.z p.x p.y
  where
    parts : (a b c u v w x y : ℤ) → a *ℤ (u -ℤ x) +ℤ b *ℤ (v -ℤ y) +ℤ c *ℤ (w -ℤ pos 0) ≡ c *ℤ w -ℤ (a *ℤ (x -ℤ u) +ℤ b *ℤ (y -ℤ v))
    parts = solve 8 (λ a b c u v w x y. a ⊗ (u ⊖ x) ⊕ b ⊗ (v ⊖ y) ⊕ c ⊗ (w ⊖ num 0) ≗ c ⊗ w ⊖ (a ⊗ (x ⊖ u) ⊕ b ⊗ (y ⊖ v))) refl

pub raised_by_lem : (f : Face) (p : Sample) (s q r : ℤ) → s ≡ int_wrap w64 (dot f.normal (minus f.first (receiver p (pos 0)))) → q ≡ wrapped_ratio s f.normal.z → r ≡ int_wrap w64 (q +ℤ pos 1)
    → r ≡ wrapped_raised_to f p
raised_by_lem f p s q r es eq er =
    er ∙ ap (λ (x : ℤ). int_wrap w64 (x +ℤ pos 1)) (eq ∙ ap (λ (x : ℤ). wrapped_ratio x f.normal.z) (es ∙ ap (int_wrap w64) (scaled_at f p)) ∙ ratio_wrapped (scaled_height f p) f.normal.z)

-- ---- what a cover says of the side signs
cover_up : (up down : Bool) → cond up Up (cond down Down Beside) ≡ Up → up ≡ true
cover_up true down h = refl
cover_up false true h = cc
cover_up false false h = cc

cover_down : (up down : Bool) → cond up Up (cond down Down Beside) ≡ Down → down ≡ true
cover_down true down h = cc
cover_down false true h = refl
cover_down false false h = cc

cover_beside : (up down : Bool) → cond up Up (cond down Down Beside) ≡ Beside → (up ≡ false) × (down ≡ false)
cover_beside true down h = (cc, cc)
cover_beside false true h = (cc, cc)
cover_beside false false h = (refl, refl)

either : {X : Type 0} (x y : X) (up down : Bool) → (up ≡ true) ⊎ (down ≡ true) → x ≡ cond (up || down) x y
either x y true down h = refl
either x y false true h = refl
either x y false false (inl h) = absurd (false≢true h)
either x y false false (inr h) = absurd (false≢true h)

neither : {X : Type 0} (x y : X) (up down : Bool) → (up ≡ false) × (down ≡ false) → y ≡ cond (up || down) x y
neither x y false false h = refl
neither x y true down h = absurd (false≢true (sym h.0))
neither x y false true h = absurd (false≢true (sym h.1))

module _ (f : Face) (p : Sample) (k : Cover) (is : k ≡ cover_by (wrapped_side_signs f p)) where
  abbrev up : Bool
  up = all_positive (wrapped_side_signs f p)

  abbrev down : Bool
  down = all_negative (wrapped_side_signs f p)

  one_way : up ≡ true → down ≡ true → ⊥
  one_way = never_both wrapped_side_sign f.first f.first f.others p

  -- what the pixel is raised to
  pub raised_covered : (r : ℤ) → (k ≡ Up) ⊎ (k ≡ Down) → r ≡ wrapped_raised_to f p → Some r ≡ wrapped_raised_at f p
  raised_covered r h e =
      ap (λ (x : ℤ). Some x) e
      ∙ either (Some (wrapped_raised_to f p)) None up down (⊎_elim (λ u. inl (cover_up up down (sym is ∙ u))) (λ d. inr (cover_down up down (sym is ∙ d))) h)

  pub raised_beside : k ≡ Beside → None ≡ wrapped_raised_at f p
  raised_beside h = neither (Some (wrapped_raised_to f p)) None up down (cover_beside up down (sym is ∙ h))

  -- what the face counts
  pub counted_below : (z : ℤ) (w : ℤ) (b : Bool) → b ≡ true → b ≡ wrapped_below f p z → w ≡ weight_of k → w ≡ wrapped_contribution f p z
  counted_below z w b t e ew =
      ew ∙ ap weight_of is ∙ weighed up down one_way ∙ ap (λ (x : Bool). tally x up down) (sym t ∙ e)
    where
      weighed : (up down : Bool) → (up ≡ true → down ≡ true → ⊥) → weight_of (cond up Up (cond down Down Beside)) ≡ tally true up down
      weighed true true never = absurd (never refl refl)
      weighed true false never = refl
      weighed false true never = refl
      weighed false false never = refl

-- ---- the cover of a face of three or four corners
module _ (f : code.Face) (p : Sample) (a b : Sign) (ka kb : Cover)
    (ea : a ≡ wrapped_side_sign (vector_of f.first) (vector_of f.second) p) (eb : b ≡ wrapped_side_sign (vector_of f.second) (vector_of f.third) p)
    (ia : ka ≡ cover_by (a ∷ [])) (ib : kb ≡ cover_along ka b) where
  pub cover_of_four : (v : List ℤ) (c d : Sign) (kc kd : Cover) → f.fourth ≡ Some v → c ≡ wrapped_side_sign (vector_of f.third) (vector_of v) p
      → d ≡ wrapped_side_sign (vector_of v) (vector_of f.first) p → kc ≡ cover_along kb c → kd ≡ cover_along kc d → kd ≡ cover_by (wrapped_side_signs (face_of f) p)
  cover_of_four v c d kc kd some ec ed ic id =
      id ∙ ap (λ (k : Cover). cover_along k d) (ic ∙ ap (λ (k : Cover). cover_along k c) (ib ∙ ap (λ (k : Cover). cover_along k b) ia)) ∙ four_sides a b c d
      ∙ (λ i. cover_by (ea i ∷ eb i ∷ ec i ∷ ed i ∷ []))
      ∙ ap (λ (o : Option (List ℤ)). cover_by (wrapped_side_signs (face_of record { first = f.first; second = f.second; third = f.third; fourth = o; normal = f.normal }) p)) (sym some)
