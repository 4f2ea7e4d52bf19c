use Rattle.std.proofs.Common.{◌≡◌, ℕ, ◌^◌, ◌≤◌, T, List, [], ◌∷◌, ℤ, pos, ◌+ℤ◌, ◌*ℤ◌, neg_ℤ, nat_abs, ◌≤ℤ◌, ap, ◌∙◌, arith, w64, SFits}
use lib.Signed.{lt_z}
use Rattle.std.proofs.lemmas.Int.{ints}
use Rattle.algebra.proofs.Ring.{Expr, ◌⊕◌, ◌⊗◌, v0, v1, v2, at, eval}
use Rattle.algebra.proofs.Bounds.{Caps, cap}
use Rattle.algebra.proofs.Machine.{code, back, safe, safe_within, back_within}
use Rattle.survey.specs.declared.raster.tilts.Tilt.{Tilt}
use Rattle.survey.proofs.raster.tilts.Tilt.is_below.Goals as goal

abbrev limits : List ℕ
limits = 2 ^ 62 ∷ 2 ^ 40 ∷ 2 ^ 14 ∷ []

abbrev env : Tilt → ℤ → ℤ → List ℤ
env t ground h = ground ∷ t.height ∷ h ∷ []

low_enough : (h : ℤ) → neg_ℤ (pos 8192) ≤ℤ h → h ≤ℤ pos 8193 → nat_abs h ≤ 2 ^ 14
low_enough h l k = omega (arith, ints)

module _ (t : Tilt) (ground h : ℤ) (near : nat_abs ground ≤ 2 ^ 62) (low : neg_ℤ (pos 8192) ≤ℤ h) (high : h ≤ℤ pos 8193) where
  all : Caps (env t ground h) limits
  all = (near, (t.height_near, (low_enough h low high, tt)))

  ok : (e : Expr) → T (safe (2 ^ 63) (cap limits) e) → SFits w64 (code w64 (at (env t ground h)) e)
  ok e s = safe_within w64 (env t ground h) limits all e s

  is : (e : Expr) → T (safe (2 ^ 63) (cap limits) e) → back w64 (code w64 (at (env t ground h)) e) ≡ eval (at (env t ground h)) e
  is e s = back_within w64 (env t ground h) limits all e s

pub overflow_mul-result : goal.overflow_mul-result
overflow_mul-result c = ok c.args.self.now c.ground.result c.args.height.0 c.ground.ensures.near c.requires.low c.requires.high (v1 ⊗ v2) tt

pub overflow_add-result : goal.overflow_add-result
overflow_add-result c = ok c.args.self.now c.ground.result c.args.height.0 c.ground.ensures.near c.requires.low c.requires.high (v0 ⊕ v1 ⊗ v2) tt

pub returns : goal.returns
returns c =
    ap (lt_z (pos 0))
    (is c.args.self.now c.ground.result c.args.height.0 c.ground.ensures.near c.requires.low c.requires.high (v0 ⊕ v1 ⊗ v2) tt
    ∙ ap (λ (x : ℤ). x +ℤ c.args.self.now.height *ℤ c.args.height.0) c.ground.ensures.is)
