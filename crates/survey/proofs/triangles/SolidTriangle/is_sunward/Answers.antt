use Rattle.geometry.specs.Light.{run_of}
use Rattle.survey.proofs.Volumes.{sunward_at_lem}
use Rattle.survey.proofs.triangles.SolidTriangle.is_sunward.Goals as goal

pub returns : goal.returns
returns g c =
    let p = c.args.self.now in
    sunward_at_lem (g.S.Solid.model p.solid.now) (g.S.Solid.lawful p.solid.now) (run_of c.args.light.run) c.args.light.falls p.number p.there _ _ _
    c.facet.ensures.a c.facet.ensures.b c.facet.ensures.c c.is_sunward.result c.is_sunward.ensures.exact
