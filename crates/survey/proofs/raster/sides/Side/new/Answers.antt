use Rattle.std.proofs.Common.{◌≡◌, ℕ, ◌^◌, ◌≤◌, cond, T, List, [], ◌∷◌, ℤ, pos, ◌-ℤ◌, nat_abs, sym, ap, ◌∙◌, subst, ap₂, le_trans, arith, lit≤, w64, SFits}
use Rattle.algebra.proofs.Ring.{Expr, num, ◌⊕◌, ◌⊖◌, ◌⊗◌, v0, v1, v2, v3, v4, at, eval}
use Rattle.algebra.proofs.Bounds.{Caps, cap, bound, abs-within}
use Rattle.algebra.proofs.Machine.{code, back, safe, safe_within, back_within}
use Rattle.survey.specs.Sides.{seen, leans, inner}
use Rattle.survey.specs.declared.raster.corners.Corner.{Corner}
use Rattle.survey.proofs.SideTests.{on_side, tie_small}
use Rattle.survey.proofs.raster.sides.Side.new.Goals as goal

abbrev limits : List ℕ
limits = 2 ^ 25 ∷ 2 ^ 25 ∷ 2 ^ 25 ∷ 2 ^ 25 ∷ 1 ∷ []

abbrev env : Corner → Corner → ℤ → List ℤ
env u v t = u.x ∷ u.y ∷ v.x ∷ v.y ∷ t ∷ []

module _ (u v : Corner) (t : ℤ) (small : nat_abs t ≤ 1) where
  near : Caps (env u v t) limits
  near = (u.x_near, (u.y_near, (v.x_near, (v.y_near, (small, tt)))))

  ok : (e : Expr) → T (safe (2 ^ 63) (cap limits) e) → SFits w64 (code w64 (at (env u v t)) e)
  ok e s = safe_within w64 (env u v t) limits near e s

  is : (e : Expr) → T (safe (2 ^ 63) (cap limits) e) → back w64 (code w64 (at (env u v t)) e) ≡ eval (at (env u v t)) e
  is e s = back_within w64 (env u v t) limits near e s

  under : (e : Expr) (B : ℕ) → bound (cap limits) e ≤ B → T (safe (2 ^ 63) (cap limits) e) → nat_abs (back w64 (code w64 (at (env u v t)) e)) ≤ B
  under e B h s = subst (λ (z : ℤ). nat_abs z ≤ B) (sym (is e s)) (le_trans (abs-within (env u v t) limits near e) h)

abbrev dx : Expr
dx = v2 ⊖ v0

abbrev dy : Expr
dy = v1 ⊖ v3

abbrev one : Expr
one = dx ⊗ (num 8 ⊖ v1)

abbrev two : Expr
two = dy ⊗ (num 8 ⊖ v0)

none : nat_abs (pos 0) ≤ 1
none = omega arith

pub overflow_mul-at_origin : goal.overflow_mul-at_origin
overflow_mul-at_origin c = ok c.args.u c.args.v (pos 0) none one tt

pub overflow_mul-at_origin-2 : goal.overflow_mul-at_origin-2
overflow_mul-at_origin-2 c = ok c.args.u c.args.v (pos 0) none two tt

pub overflow_add-at_origin : goal.overflow_add-at_origin
overflow_add-at_origin c = ok c.args.u c.args.v (pos 0) none (one ⊕ two) tt

-- what `tie` answers, of the differences themselves
told : (u v : Corner) (t : ℤ) → t ≡ cond (leans (back w64 (code w64 (at (env u v (pos 0))) dy)) (back w64 (code w64 (at (env u v (pos 0))) dx))) (pos 1) (pos 0)
    → t ≡ cond (leans (u.y -ℤ v.y) (v.x -ℤ u.x)) (pos 1) (pos 0)
told u v t e = e ∙ ap₂ (λ (a b : ℤ). cond (leans a b) (pos 1) (pos 0)) (is u v (pos 0) none dy tt) (is u v (pos 0) none dx tt)

few : (u v : Corner) (t : ℤ) → t ≡ cond (leans (back w64 (code w64 (at (env u v (pos 0))) dy)) (back w64 (code w64 (at (env u v (pos 0))) dx))) (pos 1) (pos 0) → nat_abs t ≤ 1
few u v t e = subst (λ (z : ℤ). nat_abs z ≤ 1) (sym (told u v t e)) (tie_small (leans (u.y -ℤ v.y) (v.x -ℤ u.x)))

pub overflow_add-result : goal.overflow_add-result
overflow_add-result c = ok c.args.u c.args.v c.tie.result (few c.args.u c.args.v c.tie.result c.tie.ensures) (one ⊕ two ⊕ v4) tt

pub invariant_of-result : goal.invariant_of-result
invariant_of-result c =
    let small = few c.args.u c.args.v c.tie.result c.tie.ensures in
    record {
      row_near = under c.args.u c.args.v c.tie.result small (num 16 ⊗ dx) (2 ^ 30) (lit≤ tt) tt;
      constant_near = under c.args.u c.args.v c.tie.result small (one ⊕ two ⊕ v4) (2 ^ 54) (lit≤ tt) tt;
    }

pub returns : goal.returns
returns c i j =
    let small = few c.args.u c.args.v c.tie.result c.tie.ensures in
    ap₂ (λ (a b : ℤ). inner a b (back w64 (code w64 (at (env c.args.u c.args.v c.tie.result)) (one ⊕ two ⊕ v4))) i j)
    (is c.args.u c.args.v c.tie.result small (num 16 ⊗ dy) tt)
    (is c.args.u c.args.v c.tie.result small (num 16 ⊗ dx) tt)
    ∙ ap (λ (b : ℤ). inner (eval (at (env c.args.u c.args.v c.tie.result)) (num 16 ⊗ dy)) (eval (at (env c.args.u c.args.v c.tie.result)) (num 16 ⊗ dx)) b i j)
    (is c.args.u c.args.v c.tie.result small (one ⊕ two ⊕ v4) tt)
    ∙ on_side (seen c.args.u) (seen c.args.v) c.tie.result i j (told c.args.u c.args.v c.tie.result c.tie.ensures)
