-- What wrapping arithmetic computes, against the integers: to wrap on the way changes nothing but the last result, and a result that fits 64 bits is exact.
use Rattle.std.proofs.Common.{◌≡◌, ℤ, ◌+ℤ◌, ◌-ℤ◌, ◌*ℤ◌, neg_ℤ, sym, ap, ◌∙◌, subst, ap₂, w64, SFits, to_z, of_z}
use Rattle.std.specs.Int.{int_wrap}
use Rattle.geometry.specs.Vectors.{V3, vector, minus, dot, cross}
use Rattle.geometry.specs.Machine.{wrapped3}
use Rattle.std.proofs.lemmas.Int.{to_z-of_z, SFits-int_wrap, int_wrap_fits, int_wrap-add_left, int_wrap-add_right, int_wrap-sub_right, int_wrap-mul_left, int_wrap-mul_right}

kept : (z : ℤ) → to_z w64 (of_z w64 (int_wrap w64 z)) ≡ int_wrap w64 z
kept z = to_z-of_z w64 (int_wrap w64 z) (SFits-int_wrap w64 z)

-- the sum of three, each step wrapped
pub three : (a b c x y z s r : ℤ) → x ≡ int_wrap w64 a → y ≡ int_wrap w64 b → z ≡ int_wrap w64 c → s ≡ int_wrap w64 (to_z w64 (of_z w64 x) +ℤ to_z w64 (of_z w64 y))
    → r ≡ int_wrap w64 (to_z w64 (of_z w64 s) +ℤ to_z w64 (of_z w64 z)) → to_z w64 (of_z w64 r) ≡ int_wrap w64 ((a +ℤ b) +ℤ c)
three a b c x y z s r ex ey ez es er =
    let k1 = kept a in
    let k2 = kept b in
    let k3 = kept c in
    let k4 = kept (int_wrap w64 a +ℤ int_wrap w64 b) in
    let k5 = kept (int_wrap w64 (int_wrap w64 a +ℤ int_wrap w64 b) +ℤ int_wrap w64 c) in
    let s1 = int_wrap-add_left w64 a (int_wrap w64 b) in
    let s2 = int_wrap-add_right w64 a b in
    let s3 = int_wrap-add_left w64 (a +ℤ b) (int_wrap w64 c) in
    let s4 = int_wrap-add_right w64 (a +ℤ b) c in
    cc

-- ---- wrapping is a homomorphism of rings: numbers that 64 bits cannot tell apart have sums, differences and products that they cannot tell apart

pub wrap-wrap : (a : ℤ) → int_wrap w64 (int_wrap w64 a) ≡ int_wrap w64 a
wrap-wrap a = int_wrap_fits w64 (int_wrap w64 a) (SFits-int_wrap w64 a)

module _ (a b : ℤ) where
  pub wrap-add : int_wrap w64 (int_wrap w64 a +ℤ int_wrap w64 b) ≡ int_wrap w64 (a +ℤ b)
  wrap-add = int_wrap-add_left w64 a (int_wrap w64 b) ∙ int_wrap-add_right w64 a b

  pub wrap-sub : int_wrap w64 (int_wrap w64 a -ℤ int_wrap w64 b) ≡ int_wrap w64 (a -ℤ b)
  wrap-sub = int_wrap-add_left w64 a (neg_ℤ (int_wrap w64 b)) ∙ int_wrap-sub_right w64 a b

  pub wrap-mul : int_wrap w64 (int_wrap w64 a *ℤ int_wrap w64 b) ≡ int_wrap w64 (a *ℤ b)
  wrap-mul = int_wrap-mul_left w64 a (int_wrap w64 b) ∙ int_wrap-mul_right w64 a b

-- a part of a vector product
minor_wrapped : (a b c d : ℤ) → int_wrap w64 (int_wrap w64 a *ℤ int_wrap w64 b -ℤ int_wrap w64 c *ℤ int_wrap w64 d) ≡ int_wrap w64 (a *ℤ b -ℤ c *ℤ d)
minor_wrapped a b c d =
    sym (wrap-sub (int_wrap w64 a *ℤ int_wrap w64 b) (int_wrap w64 c *ℤ int_wrap w64 d))
    ∙ ap₂ (λ x y. int_wrap w64 (x -ℤ y)) (wrap-mul a b) (wrap-mul c d)
    ∙ wrap-sub (a *ℤ b) (c *ℤ d)

three_wrapped : (a b c : ℤ) → int_wrap w64 ((int_wrap w64 a +ℤ int_wrap w64 b) +ℤ int_wrap w64 c) ≡ int_wrap w64 ((a +ℤ b) +ℤ c)
three_wrapped a b c =
    sym (int_wrap-add_left w64 (int_wrap w64 a +ℤ int_wrap w64 b) (int_wrap w64 c))
    ∙ ap (λ x. int_wrap w64 (x +ℤ int_wrap w64 c)) (wrap-add a b)
    ∙ wrap-add (a +ℤ b) c

vector_path : {x y z x' y' z' : ℤ} → x ≡ x' → y ≡ y' → z ≡ z' → vector x y z ≡ vector x' y' z'
vector_path p q r = λ i. vector (p i) (q i) (r i)

pub wrapped3_twice : (u : V3) → wrapped3 (wrapped3 u) ≡ wrapped3 u
wrapped3_twice u = vector_path (wrap-wrap u.x) (wrap-wrap u.y) (wrap-wrap u.z)

module _ (u v : V3) where
  pub minus_wrapped : wrapped3 (minus (wrapped3 u) (wrapped3 v)) ≡ wrapped3 (minus u v)
  minus_wrapped = vector_path (wrap-sub u.x v.x) (wrap-sub u.y v.y) (wrap-sub u.z v.z)

  pub cross_wrapped : wrapped3 (cross (wrapped3 u) (wrapped3 v)) ≡ wrapped3 (cross u v)
  cross_wrapped =
      vector_path (minor_wrapped u.y v.z u.z v.y) (minor_wrapped u.z v.x u.x v.z) (minor_wrapped u.x v.y u.y v.x)

  pub dot_wrapped : int_wrap w64 (dot (wrapped3 u) (wrapped3 v)) ≡ int_wrap w64 (dot u v)
  dot_wrapped =
      sym (three_wrapped (int_wrap w64 u.x *ℤ int_wrap w64 v.x) (int_wrap w64 u.y *ℤ int_wrap w64 v.y) (int_wrap w64 u.z *ℤ int_wrap w64 v.z))
      ∙ (λ i. int_wrap w64 ((wrap-mul u.x v.x i +ℤ wrap-mul u.y v.y i) +ℤ wrap-mul u.z v.z i))
      ∙ three_wrapped (u.x *ℤ v.x) (u.y *ℤ v.y) (u.z *ℤ v.z)

module _ (u v : V3) where
  pub dot_wrapped_left : int_wrap w64 (dot (wrapped3 u) v) ≡ int_wrap w64 (dot u v)
  dot_wrapped_left = sym (dot_wrapped (wrapped3 u) v) ∙ ap (λ w. int_wrap w64 (dot w (wrapped3 v))) (wrapped3_twice u) ∙ dot_wrapped u v

  pub dot_wrapped_right : int_wrap w64 (dot u (wrapped3 v)) ≡ int_wrap w64 (dot u v)
  dot_wrapped_right = sym (dot_wrapped u (wrapped3 v)) ∙ ap (λ w. int_wrap w64 (dot (wrapped3 u) w)) (wrapped3_twice v) ∙ dot_wrapped u v

  pub cross_wrapped_right : wrapped3 (cross u (wrapped3 v)) ≡ wrapped3 (cross u v)
  cross_wrapped_right = sym (cross_wrapped u (wrapped3 v)) ∙ ap (λ w. wrapped3 (cross (wrapped3 u) w)) (wrapped3_twice v) ∙ cross_wrapped u v

-- what a wrapped number reads as when it is passed on
pub passed : (r z : ℤ) → r ≡ int_wrap w64 z → to_z w64 (of_z w64 r) ≡ int_wrap w64 z
passed r z e = ap (λ x. to_z w64 (of_z w64 x)) e ∙ kept z

-- a vector whose parts fit is what it wraps to
pub record Fits3 (u : V3) : Type 0 where
  pub x : SFits w64 u.x
  pub y : SFits w64 u.y
  pub z : SFits w64 u.z

pub wrapped3_fits : (u : V3) → Fits3 u → wrapped3 u ≡ u
wrapped3_fits u f = vector_path (int_wrap_fits w64 u.x f.x) (int_wrap_fits w64 u.y f.y) (int_wrap_fits w64 u.z f.z)

-- what fits, fits as it was computed
pub fits_as : (n u p N U P : V3) → n ≡ N → u ≡ U → p ≡ P → SFits w64 (dot N (minus P U)) → SFits w64 (dot n (minus p u))
fits_as n u p N U P e f g s =
    subst (λ (x : V3). SFits w64 (dot x (minus p u))) (sym e) (subst (λ (x : V3). SFits w64 (dot N (minus p x))) (sym f) (subst (λ (x : V3). SFits w64 (dot N (minus x U))) (sym g) s))
