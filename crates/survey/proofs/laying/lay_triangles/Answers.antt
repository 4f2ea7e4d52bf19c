use Rattle.std.proofs.Common.{ℕ, ◌<◌, refl, ◌∙◌, subst, lit<}
use Rattle.survey.proofs.Limits.{point_in_limits}
use Rattle.survey.proofs.Steps.{heightened_none, laid_more}
use Rattle.survey.proofs.laying.lay_triangles.Goals as goal

pub lay_triangle-requires : goal.lay_triangle-requires
lay_triangle-requires g c =
    let S = g.S.Solid.model c.args.solid.now in
    let law = g.S.Solid.lawful c.args.solid.now in
    let h : c.loop-number.number < S.triangles = subst (λ (n : ℕ). c.loop-number.number < n) c.triangles-number-end.ensures c.loop-number-test.true in
    record {
      a = point_in_limits S law c.loop-number.number 0 h (lit< tt) _ c.facet-facet.ensures.a;
      b = point_in_limits S law c.loop-number.number 1 h (lit< tt) _ c.facet-facet.ensures.b;
      c = point_in_limits S law c.loop-number.number 2 h (lit< tt) _ c.facet-facet.ensures.c;
    }

pub loop-number-init : goal.loop-number-init
loop-number-init g c = (heightened_none (g.P.Plane.model c.args.plane.now), refl)

pub loop-number-preserved : goal.loop-number-preserved
loop-number-preserved g c = (
  laid_more _ _ _ (g.S.Solid.model c.args.solid.now) c.loop-number.number _ _ _ c.facet-facet.ensures.a c.facet-facet.ensures.b c.facet-facet.ensures.c c.loop-number.invariant.0 c.lay_triangle.ensures.after,
  c.lay_triangle.ensures.names ∙ c.loop-number.invariant.1,
)
