use Rattle.std.proofs.Common.{◌≡◌, ℕ, ◌^◌, ◌<◌, ◌&&◌, T, List, [], ◌∷◌, ℤ, pos, ◌∙◌, ap₂, arith, w64, SFits, rules}
use Rattle.std.proofs.lemmas.Int.{to_z-of_z}
use Rattle.algebra.proofs.Ring.{Expr, ◌⊕◌, ◌⊗◌, v0, v1, v2, at, eval}
use Rattle.algebra.proofs.Bounds.{Caps, cap}
use Rattle.algebra.proofs.Machine.{code, back, safe, safe_within, back_within}
use Rattle.survey.specs.Spans.{within, positive}
use Rattle.survey.specs.declared.raster.sides.Side.{Side}
use Rattle.survey.proofs.raster.sides.Side.cut.Goals as goal

abbrev limits : List ℕ
limits = 2 ^ 30 ∷ 2 ^ 54 ∷ 2 ^ 16 ∷ []

abbrev env : Side → ℕ → List ℤ
env s j = s.row ∷ s.constant ∷ pos j ∷ []

module _ (s : Side) (j : ℕ) (row : j < 65536) where
  near : Caps (env s j) limits
  near = (s.row_near, (s.constant_near, (omega arith, tt)))

  ok : (e : Expr) → T (safe (2 ^ 63) (cap limits) e) → SFits w64 (code w64 (at (env s j)) e)
  ok e t = safe_within w64 (env s j) limits near e t

  is : (e : Expr) → T (safe (2 ^ 63) (cap limits) e) → back w64 (code w64 (at (env s j)) e) ≡ eval (at (env s j)) e
  is e t = back_within w64 (env s j) limits near e t

pub overflow_mul-self : goal.overflow_mul-self
overflow_mul-self c = ok c.args.self.now c.args.row (omega arith) (v0 ⊗ v2) tt

pub overflow_add-self : goal.overflow_add-self
overflow_add-self c = ok c.args.self.now c.args.row (omega arith) (v0 ⊗ v2 ⊕ v1) tt

pub returns : goal.returns
returns c i =
    let f : SFits w64 c.args.self.now.column = search rules in
    c.cut.ensures i
    ∙ ap₂ (λ (a b : ℤ). within c.args.span.lo c.args.span.hi i && positive a b i)
    (to_z-of_z w64 c.args.self.now.column f) (is c.args.self.now c.args.row (omega arith) (v0 ⊗ v2 ⊕ v1) tt)
