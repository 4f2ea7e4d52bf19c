use Rattle.geometry.specs.Light.{run_of}
use Rattle.volumes.specs.Machine.{face_of}
use Rattle.survey.proofs.Volumes.{near_is, far_is, near_drawable, far_drawable, caps_tallied}
use Rattle.survey.proofs.light.Light.cast_caps.Goals as goal

pub draw_face-requires : goal.draw_face-requires
draw_face-requires g c =
    let S = g.S.Solid.model c.args.triangle.now.solid.now in
    let law = g.S.Solid.lawful c.args.triangle.now.solid.now in
    near_drawable S law c.args.triangle.now.number c.args.triangle.now.there (face_of c.near_cap.result)
    (near_is S law c.args.triangle.now.number c.args.triangle.now.there _ _ _ c.facet-facet.ensures.a c.facet-facet.ensures.b c.facet-facet.ensures.c (face_of c.near_cap.result) c.near_cap.ensures.exact)

pub draw_face-requires-2 : goal.draw_face-requires-2
draw_face-requires-2 g c =
    let S = g.S.Solid.model c.args.triangle.now.solid.now in
    let law = g.S.Solid.lawful c.args.triangle.now.solid.now in
    far_drawable S law (run_of c.args.self.run) c.args.self.falls c.args.triangle.now.number c.args.triangle.now.there (face_of c.far_cap.result)
    (far_is S law (run_of c.args.self.run) c.args.self.falls c.args.triangle.now.number c.args.triangle.now.there _ _ _ _ c.facet-facet.ensures.a c.facet-facet.ensures.b c.facet-facet.ensures.c c.args.self.swept (face_of c.far_cap.result) c.far_cap.ensures.exact)

pub returns-clause-after : goal.returns-clause-after
returns-clause-after g c =
    let S = g.S.Solid.model c.args.triangle.now.solid.now in
    let law = g.S.Solid.lawful c.args.triangle.now.solid.now in
    caps_tallied (g.P.Plane.model c.args.plane.now) (g.P.Plane.model c.draw_face.new.plane) (g.P.Plane.model c.draw_face-2.new.plane) S (run_of c.args.self.run) c.args.triangle.now.number _ _
    (g.P.Plane.sound c.args.plane.now)
    (near_is S law c.args.triangle.now.number c.args.triangle.now.there _ _ _ c.facet-facet.ensures.a c.facet-facet.ensures.b c.facet-facet.ensures.c (face_of c.near_cap.result) c.near_cap.ensures.exact)
    (far_is S law (run_of c.args.self.run) c.args.self.falls c.args.triangle.now.number c.args.triangle.now.there _ _ _ _ c.facet-facet.ensures.a c.facet-facet.ensures.b c.facet-facet.ensures.c c.args.self.swept (face_of c.far_cap.result) c.far_cap.ensures.exact)
    c.draw_face.ensures.after c.draw_face-2.ensures.after
