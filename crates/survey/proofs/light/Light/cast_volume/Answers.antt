use Rattle.std.proofs.Common.{◌≡◌, ℕ, refl, ◌∙◌, subst, arith}
use Rattle.geometry.specs.Light.{run_of}
use Rattle.survey.specs.Changes.{Tallied, faces_below}
use Rattle.survey.proofs.Steps.{tallied_none}
use Rattle.survey.proofs.Volumes.{faces_more, shadowed}
use Rattle.survey.proofs.light.Light.cast_volume.Goals as goal

pub loop-number-init : goal.loop-number-init
loop-number-init g c = (tallied_none (g.P.Plane.model c.args.plane.now) (g.P.Plane.sound c.args.plane.now), refl)

pub loop-number-preserved : goal.loop-number-preserved
loop-number-preserved g c = (
  faces_more (g.P.Plane.model c.args.plane.now) (g.P.Plane.model c.loop-number.plane) (g.P.Plane.model c.cast_triangle.new.plane) (g.S.Solid.model c.args.solid.now) (run_of c.args.self.run) c.loop-number.number
      (g.P.Plane.sound c.args.plane.now) c.loop-number.invariant.0 c.cast_triangle.ensures.after,
  c.cast_triangle.ensures.names ∙ c.loop-number.invariant.1,
)

pub returns-clause-after : goal.returns-clause-after
returns-clause-after g c =
    let S = g.S.Solid.model c.args.solid.now in
    let m = g.P.Plane.model c.args.plane.now in
    let n = g.P.Plane.model c.loop-number.plane in
    let d = run_of c.args.self.run in
    let e : c.loop-number.number ≡ S.triangles = omega arith in
    shadowed m n S d (g.P.Plane.sound c.args.plane.now) (g.S.Solid.lawful c.args.solid.now) c.args.self.falls (subst (λ (k : ℕ). Tallied m (faces_below S d k) n) e c.loop-number.invariant.0)
