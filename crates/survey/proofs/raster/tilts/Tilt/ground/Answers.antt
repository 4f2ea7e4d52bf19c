use Rattle.std.proofs.Common.{◌≡◌, ℕ, ◌^◌, ◌<◌, ◌≤◌, T, List, [], ◌∷◌, ℤ, pos, nat_abs, sym, subst, le_trans, arith, lit≤, w64, SFits}
use Rattle.algebra.proofs.Ring.{Expr, ◌⊕◌, ◌⊗◌, v0, v1, v2, v3, v4, at, eval}
use Rattle.algebra.proofs.Bounds.{Caps, cap, abs-within}
use Rattle.algebra.proofs.Machine.{code, back, safe, safe_within, back_within}
use Rattle.survey.specs.declared.raster.tilts.Tilt.{Tilt}
use Rattle.survey.proofs.raster.tilts.Tilt.ground.Goals as goal

abbrev limits : List ℕ
limits = 2 ^ 58 ∷ 2 ^ 44 ∷ 2 ^ 16 ∷ 2 ^ 44 ∷ 2 ^ 16 ∷ []

abbrev env : Tilt → ℕ → ℕ → List ℤ
env t i j = t.base ∷ t.row ∷ pos j ∷ t.column ∷ pos i ∷ []

abbrev all : Expr
all = v0 ⊕ v1 ⊗ v2 ⊕ v3 ⊗ v4

module _ (t : Tilt) (i j : ℕ) (hi : i < 65536) (hj : j < 65536) where
  near : Caps (env t i j) limits
  near = (t.base_near, (t.row_near, (omega arith, (t.column_near, (omega arith, tt)))))

  ok : (e : Expr) → T (safe (2 ^ 63) (cap limits) e) → SFits w64 (code w64 (at (env t i j)) e)
  ok e s = safe_within w64 (env t i j) limits near e s

  is : back w64 (code w64 (at (env t i j)) all) ≡ eval (at (env t i j)) all
  is = back_within w64 (env t i j) limits near all tt

  under : nat_abs (back w64 (code w64 (at (env t i j)) all)) ≤ 2 ^ 62
  under = subst (λ (z : ℤ). nat_abs z ≤ 2 ^ 62) (sym is) (le_trans (abs-within (env t i j) limits near all) (lit≤ tt))

pub overflow_mul-result : goal.overflow_mul-result
overflow_mul-result c = ok c.args.self.now c.args.column.0 c.args.row.0 (omega arith) (omega arith) (v1 ⊗ v2) tt

pub overflow_add-result : goal.overflow_add-result
overflow_add-result c = ok c.args.self.now c.args.column.0 c.args.row.0 (omega arith) (omega arith) (v0 ⊕ v1 ⊗ v2) tt

pub overflow_mul-result-2 : goal.overflow_mul-result-2
overflow_mul-result-2 c = ok c.args.self.now c.args.column.0 c.args.row.0 (omega arith) (omega arith) (v3 ⊗ v4) tt

pub overflow_add-result-2 : goal.overflow_add-result-2
overflow_add-result-2 c = ok c.args.self.now c.args.column.0 c.args.row.0 (omega arith) (omega arith) all tt

pub returns : goal.returns
returns c = record {
  is = is c.args.self.now c.args.column.0 c.args.row.0 (omega arith) (omega arith);
  near = under c.args.self.now c.args.column.0 c.args.row.0 (omega arith) (omega arith);
}
