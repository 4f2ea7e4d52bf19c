use Rattle.geometry.specs.Light.{run_of}
use Rattle.volumes.specs.Machine.{face_of}
use Rattle.survey.proofs.Volumes.{partner_is, wall_is, wall_at_drawable, wall_drawn, wall_left_out}
use Rattle.survey.proofs.light.Light.cast_wall.Goals as goal

pub draw_face-requires : goal.draw_face-requires
draw_face-requires g c =
    let S = g.S.Solid.model c.args.solid.now in
    let law = g.S.Solid.lawful c.args.solid.now in
    let d = run_of c.args.self.run in
    wall_at_drawable S law d c.args.self.falls c.args.place c.requires (face_of c.wall.result)
    (wall_is S law d c.args.self.falls c.args.place c.requires _ _ _ c.ends_of.ensures.start c.ends_of.ensures.end c.args.self.swept (face_of c.wall.result) c.wall.ensures.exact)

pub returns-then-not-is_sunward-clause-after : goal.returns-then-not-is_sunward-clause-after
returns-then-not-is_sunward-clause-after g c =
    let S = g.S.Solid.model c.args.solid.now in
    let law = g.S.Solid.lawful c.args.solid.now in
    let d = run_of c.args.self.run in
    wall_drawn (g.P.Plane.model c.args.plane.now) (g.P.Plane.model c.draw_face.new.plane) S d c.args.place c.unwrap-partner.result (face_of c.wall.result) c.is_sunward.result
    (partner_is S c.args.place c.partner.result c.unwrap-partner.result c.requires c.partner.ensures c.unwrap-partner.ensures)
    c.is_sunward.ensures c.if-not-is_sunward.true
    (wall_is S law d c.args.self.falls c.args.place c.requires _ _ _ c.ends_of.ensures.start c.ends_of.ensures.end c.args.self.swept (face_of c.wall.result) c.wall.ensures.exact)
    c.draw_face.ensures.after

pub returns-else-not-is_sunward-clause-after : goal.returns-else-not-is_sunward-clause-after
returns-else-not-is_sunward-clause-after g c =
    let S = g.S.Solid.model c.args.solid.now in
    wall_left_out (g.P.Plane.model c.args.plane.now) S (run_of c.args.self.run) c.args.place c.unwrap-partner.result c.is_sunward.result (g.P.Plane.sound c.args.plane.now)
    (partner_is S c.args.place c.partner.result c.unwrap-partner.result c.requires c.partner.ensures c.unwrap-partner.ensures)
    c.is_sunward.ensures c.if-not-is_sunward.false
