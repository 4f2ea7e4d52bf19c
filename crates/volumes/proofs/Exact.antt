-- Of near faces at near samples the code's numbers fit 64 bits, so what it computes is what is defined.
use Rattle.std.proofs.Common.{◌≡◌, ℕ, suc, ◌+◌, ◌*◌, ◌/◌, ◌^◌, ◌≤◌, Bool, cond, ◌||◌, T, ltb, List, [], ◌∷◌, ℤ, pos, negsuc, ◌+ℤ◌, ◌-ℤ◌, ◌*ℤ◌, neg_ℤ, nat_abs, Some, None, sym, refl, ap, ◌∙◌, subst, ap₂, le_trans, le_of_eq, lt_of_le_of_lt, div-le_self, arith, lit≤, ltb→lt, w64, SFits}
use Rattle.std.specs.Int.{int_wrap}
use Rattle.std.proofs.lemmas.Int.{int_wrap_fits}
use Rattle.algebra.specs.Division.{floor_div}
use Rattle.algebra.proofs.Ring.{Expr, ◌⊕◌, ◌⊖◌, ◌⊗◌, eval, at, ◌≗◌, solve, v0, v1, v2, v3, v4, v5, v6, v7, v8}
use Rattle.algebra.proofs.Bounds.{cap, bound, abs_neg, abs-add_le, abs-within, fits_of_abs}
use Rattle.geometry.specs.Vectors.{V3, minus, dot}
use Rattle.geometry.specs.Signs.{Sign, sign_of, ◌or_else◌, alike}
use Rattle.geometry.proofs.Signs.{less_turned}
use Rattle.volumes.specs.Faces.{Sample, Face, receiver, side_sign, sides_from, side_signs, all_positive, all_negative, below, tally, contribution}
use Rattle.volumes.specs.Heights.{scaled_height, floor_ratio, raised_to, raised_at}
use Rattle.volumes.specs.Wrapped.{wrapped_side_sign, wrapped_side_signs, wrapped_below, wrapped_ratio, wrapped_raised_to, wrapped_raised_at, wrapped_contribution}
use Rattle.volumes.specs.Near.{Within, AllWithin, NearFace, NearSample}

-- a number this near 0 fits 64 bits, and is kept as it is. The last argument is `tt`
pub small : (z : ℤ) (B : ℕ) → nat_abs z ≤ B → T (ltb B (2 ^ 63)) → SFits w64 z
small z B h t = fits_of_abs w64 z (lt_of_le_of_lt h (ltb→lt B (2 ^ 63) t))

kept : (z : ℤ) (B : ℕ) → nat_abs z ≤ B → T (ltb B (2 ^ 63)) → int_wrap w64 z ≡ z
kept z B h t = int_wrap_fits w64 z (small z B h t)

-- ---- quotients
-- a quotient is no farther from 0 than what is divided
floor_near : (a : ℤ) (m : ℕ) → nat_abs (floor_div a m) ≤ nat_abs a
floor_near (pos a) m = div-le_self a m
floor_near (negsuc a) m = let h : a / m ≤ a = div-le_self a m in omega arith

module _ (a : ℤ) (h : nat_abs a ≤ 2 ^ 56) where
  turned_near : nat_abs (neg_ℤ a) ≤ 2 ^ 56
  turned_near = le_trans (le_of_eq (abs_neg a)) h

  -- so it is exact, and near
  ratio_exact : (n : ℤ) → wrapped_ratio a n ≡ floor_ratio a n
  ratio_exact (pos m) = ap (λ (x : ℤ). floor_div x m) (kept a (2 ^ 56) h tt)
  ratio_exact (negsuc m) = ap (λ (x : ℤ). floor_div x (suc m)) (kept (neg_ℤ a) (2 ^ 56) turned_near tt)

  ratio_near : (n : ℤ) → nat_abs (floor_ratio a n) ≤ 2 ^ 56
  ratio_near (pos m) = le_trans (floor_near a m) h
  ratio_near (negsuc m) = le_trans (floor_near (neg_ℤ a) (suc m)) turned_near

  -- the whole number above
  next_exact : (n : ℤ) → int_wrap w64 (wrapped_ratio a n +ℤ pos 1) ≡ floor_ratio a n +ℤ pos 1
  next_exact n =
      ap (λ (x : ℤ). int_wrap w64 (x +ℤ pos 1)) (ratio_exact n)
      ∙ kept (floor_ratio a n +ℤ pos 1) (2 ^ 56 + 1) (abs-add_le (floor_ratio a n) (pos 1) {B = 1} (ratio_near n) (lit≤ tt)) tt

-- ---- sides
module _ (u v : V3) (p : Sample) (hu : Within (2 ^ 25) u) (hv : Within (2 ^ 25) v) (hp : NearSample p) where
  abbrev corners : List ℤ
  corners = u.x ∷ u.y ∷ v.x ∷ v.y ∷ p.x ∷ p.y ∷ []

  abbrev limits : List ℕ
  limits = 2 ^ 25 ∷ 2 ^ 25 ∷ 2 ^ 25 ∷ 2 ^ 25 ∷ 2 ^ 12 ∷ 2 ^ 12 ∷ []

  -- what is computed from the corners and the sample is kept
  side_kept : (e : Expr) → T (ltb (bound (cap limits) e) (2 ^ 63)) → int_wrap w64 (eval (at corners) e) ≡ eval (at corners) e
  side_kept e t = kept (eval (at corners) e) (bound (cap limits) e) (abs-within corners limits (hu.x, (hu.y, (hv.x, (hv.y, (hp.x, (hp.y, tt)))))) e) t

  pub side_exact : wrapped_side_sign u v p ≡ side_sign u v p
  side_exact =
      let across = side_kept ((v2 ⊖ v0) ⊗ (v5 ⊖ v1) ⊖ (v3 ⊖ v1) ⊗ (v4 ⊖ v0)) tt in
      let left : neg_ℤ (int_wrap w64 (v.y -ℤ u.y)) ≡ u.y -ℤ v.y = ap neg_ℤ (side_kept (v3 ⊖ v1) tt) ∙ sym (less_turned u.y v.y) in
      let right = side_kept (v2 ⊖ v0) tt in
      λ i. sign_of (across i) or_else sign_of (left i) or_else sign_of (right i)

-- all sides
sides_exact : (first u : V3) (vs : List V3) (p : Sample) → Within (2 ^ 25) first → Within (2 ^ 25) u → AllWithin (2 ^ 25) vs → NearSample p
    → sides_from wrapped_side_sign first u vs p ≡ sides_from side_sign first u vs p
sides_exact first u [] p hf hu hs hp = ap (λ (s : Sign). s ∷ []) (side_exact u first p hu hf hp)
sides_exact first u (v ∷ vs) p hf hu hs hp = ap₂ (λ (s : Sign) (ss : List Sign). s ∷ ss) (side_exact u v p hu hs.0 hp) (sides_exact first v vs p hf hs.0 hs.1 hp)

module _ (f : Face) (p : Sample) (near : NearFace f) (hp : NearSample p) where
  pub signs_exact : wrapped_side_signs f p ≡ side_signs f p
  signs_exact = sides_exact f.first f.first f.others p near.first_near near.first_near near.others_near hp

  -- ---- heights. The plane of the face at the sample is n · P − n · u, and the parts of n · u are near
  abbrev plane : ℤ → List ℤ
  plane z =
      f.normal.x ∷ f.normal.y ∷ f.normal.z ∷ p.x ∷ p.y ∷ z
      ∷ (f.normal.x *ℤ f.first.x) ∷ (f.normal.y *ℤ f.first.y) ∷ (f.normal.z *ℤ f.first.z) ∷ []

  abbrev plane_limits : List ℕ
  plane_limits = 2 ^ 40 ∷ 2 ^ 40 ∷ 2 ^ 40 ∷ 2 ^ 12 ∷ 2 ^ 12 ∷ 2 ^ 14 ∷ 2 ^ 54 ∷ 2 ^ 54 ∷ 2 ^ 54 ∷ []

  -- what is computed from these is near
  plane_near : (z : ℤ) → nat_abs z ≤ 2 ^ 14 → (e : Expr) → nat_abs (eval (at (plane z)) e) ≤ bound (cap plane_limits) e
  plane_near z hz e =
      let n = near.normal_near in
      let w = near.product_near in
      abs-within (plane z) plane_limits (n.x, (n.y, (n.z, (hp.x, (hp.y, (hz, (w.x, (w.y, (w.z, tt))))))))) e

  plane_is : (z : ℤ) → dot f.normal (minus (receiver p z) f.first) ≡ eval (at (plane z)) (v0 ⊗ v3 ⊖ v6 ⊕ (v1 ⊗ v4 ⊖ v7) ⊕ (v2 ⊗ v5 ⊖ v8))
  plane_is z = parts f.normal.x f.normal.y f.normal.z p.x p.y z f.first.x f.first.y f.first.z
    where
      parts : (a b c x y z u v w : ℤ) → a *ℤ (x -ℤ u) +ℤ b *ℤ (y -ℤ v) +ℤ c *ℤ (z -ℤ w) ≡ a *ℤ x -ℤ a *ℤ u +ℤ (b *ℤ y -ℤ b *ℤ v) +ℤ (c *ℤ z -ℤ c *ℤ w)
      parts = solve 9 (λ a b c x y z u v w. a ⊗ (x ⊖ u) ⊕ b ⊗ (y ⊖ v) ⊕ c ⊗ (z ⊖ w) ≗ a ⊗ x ⊖ a ⊗ u ⊕ (b ⊗ y ⊖ b ⊗ v) ⊕ (c ⊗ z ⊖ c ⊗ w)) refl

  pub below_exact : (z : ℤ) → nat_abs z ≤ 2 ^ 14 → wrapped_below f p z ≡ below f p z
  below_exact z hz =
      let e : int_wrap w64 (dot f.normal (minus (receiver p z) f.first)) ≡ dot f.normal (minus (receiver p z) f.first)
      = ap (int_wrap w64) (plane_is z) ∙ kept (eval (at (plane z)) (v0 ⊗ v3 ⊖ v6 ⊕ (v1 ⊗ v4 ⊖ v7) ⊕ (v2 ⊗ v5 ⊖ v8))) _ (plane_near z hz (v0 ⊗ v3 ⊖ v6 ⊕ (v1 ⊗ v4 ⊖ v7) ⊕ (v2 ⊗ v5 ⊖ v8))) tt ∙ sym (plane_is z) in
      ap (λ (x : ℤ). alike (sign_of x) (sign_of f.normal.z)) e

  scaled_is : scaled_height f p ≡ eval (at (plane (pos 0))) (v8 ⊖ (v0 ⊗ v3 ⊖ v6 ⊕ (v1 ⊗ v4 ⊖ v7)))
  scaled_is = parts f.normal.x f.normal.y p.x p.y f.first.x f.first.y (f.normal.z *ℤ f.first.z)
    where
      parts : (a b x y u v w : ℤ) → w -ℤ (a *ℤ (x -ℤ u) +ℤ b *ℤ (y -ℤ v)) ≡ w -ℤ (a *ℤ x -ℤ a *ℤ u +ℤ (b *ℤ y -ℤ b *ℤ v))
      parts = solve 7 (λ a b x y u v w. w ⊖ (a ⊗ (x ⊖ u) ⊕ b ⊗ (y ⊖ v)) ≗ w ⊖ (a ⊗ x ⊖ a ⊗ u ⊕ (b ⊗ y ⊖ b ⊗ v))) refl

  scaled_near : nat_abs (scaled_height f p) ≤ 2 ^ 56
  scaled_near = le_trans (subst (λ (x : ℤ). nat_abs x ≤ 3 * 2 ^ 54 + 2 ^ 53) (sym scaled_is) (plane_near (pos 0) (lit≤ tt) (v8 ⊖ (v0 ⊗ v3 ⊖ v6 ⊕ (v1 ⊗ v4 ⊖ v7))))) (lit≤ tt)

  pub raised_exact : wrapped_raised_to f p ≡ raised_to f p
  raised_exact = next_exact (scaled_height f p) scaled_near f.normal.z

  pub raised_at_exact : wrapped_raised_at f p ≡ raised_at f p
  raised_at_exact = ap₂ (λ (ss : List Sign) (z : ℤ). cond (all_positive ss || all_negative ss) (Some z) None) signs_exact raised_exact

  -- ---- counts
  pub contribution_exact : (z : ℤ) → nat_abs z ≤ 2 ^ 14 → wrapped_contribution f p z ≡ contribution f p z
  contribution_exact z hz = ap₂ (λ (b : Bool) (ss : List Sign). tally b (all_positive ss) (all_negative ss)) (below_exact z hz) signs_exact
