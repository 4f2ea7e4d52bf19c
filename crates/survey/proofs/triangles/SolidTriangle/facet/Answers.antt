-- The law of a solid says that the corners are there.
use Rattle.std.proofs.Common.{lit<}
use Rattle.survey.proofs.Limits.{corner_there}
use Rattle.survey.proofs.triangles.SolidTriangle.facet.Goals as goal

pub unwrap-requires : goal.unwrap-requires
unwrap-requires g c =
    corner_there (g.S.Solid.model c.args.self.now.solid.now) c.args.self.now.number 0 c.unwrap-triangle.result c.triangle.result c.corner.result _
    (g.S.Solid.lawful c.args.self.now.solid.now) c.args.self.now.there (lit< tt) c.triangle.ensures c.unwrap-triangle.ensures c.corner.ensures

pub unwrap-requires-2 : goal.unwrap-requires-2
unwrap-requires-2 g c =
    corner_there (g.S.Solid.model c.args.self.now.solid.now) c.args.self.now.number 1 c.unwrap-triangle.result c.triangle.result c.corner-2.result _
    (g.S.Solid.lawful c.args.self.now.solid.now) c.args.self.now.there (lit< tt) c.triangle.ensures c.unwrap-triangle.ensures c.corner-2.ensures

pub unwrap-requires-3 : goal.unwrap-requires-3
unwrap-requires-3 g c =
    corner_there (g.S.Solid.model c.args.self.now.solid.now) c.args.self.now.number 2 c.unwrap-triangle.result c.triangle.result c.corner-3.result _
    (g.S.Solid.lawful c.args.self.now.solid.now) c.args.self.now.there (lit< tt) c.triangle.ensures c.unwrap-triangle.ensures c.corner-3.ensures
