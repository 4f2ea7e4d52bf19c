use Rattle.std.proofs.Common.{◌≡◌, ◌^◌, ◌≤◌, Bool, ◌&&◌, T, [], ◌∷◌, ℤ, pos, negsuc, nat_abs, ap, ◌∙◌, ap₂, w64}
use Rattle.algebra.proofs.Ring.{Expr, num, ◌⊖◌, v0, at, eval}
use Rattle.algebra.proofs.Machine.{code, back, safe, back_under}
use Rattle.survey.specs.Spans.{within, positive}
use Rattle.survey.proofs.raster.outlines.Outline.rows.Goals as goal

is : (y : ℤ) → nat_abs y ≤ 2 ^ 25 → (e : Expr) → T (safe (2 ^ 63) (λ _. 2 ^ 25) e) → back w64 (code w64 (at (y ∷ [])) e) ≡ eval (at (y ∷ [])) e
is y h e t = back_under w64 (2 ^ 25) (y ∷ []) (h, tt) e t

pub returns : goal.returns
returns c j =
    c.cut-2.ensures j
    ∙ ap₂ (λ (w : Bool) (b : ℤ). w && positive (negsuc 15) b j)
    (c.cut.ensures j ∙ ap (λ (b : ℤ). within c.args.span.lo c.args.span.hi j && positive (pos 16) b j) (is c.args.self.now.top c.args.self.now.top_near (num 9 ⊖ v0) tt))
    (is c.args.self.now.bottom c.args.self.now.bottom_near (v0 ⊖ num 7) tt)
