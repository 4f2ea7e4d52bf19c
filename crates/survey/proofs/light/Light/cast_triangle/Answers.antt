use Rattle.geometry.specs.Light.{run_of}
use Rattle.survey.proofs.Volumes.{faces_drawn, faces_left_out}
use Rattle.survey.proofs.light.Light.cast_triangle.Goals as goal

pub returns-then-is_sunward-clause-after : goal.returns-then-is_sunward-clause-after
returns-then-is_sunward-clause-after g c = faces_drawn (g.P.Plane.model c.args.plane.now) (g.P.Plane.model c.cast_caps.new.plane) (g.P.Plane.model c.cast_walls.new.plane)
    (g.S.Solid.model c.args.triangle.now.solid.now) (run_of c.args.self.run) c.args.triangle.now.number c.is_sunward.result (g.P.Plane.sound c.args.plane.now)
    c.is_sunward.ensures c.if-is_sunward.true c.cast_caps.ensures.after c.cast_walls.ensures.after

pub returns-else-is_sunward-clause-after : goal.returns-else-is_sunward-clause-after
returns-else-is_sunward-clause-after g c = faces_left_out (g.P.Plane.model c.args.plane.now) (g.S.Solid.model c.args.triangle.now.solid.now) (run_of c.args.self.run) c.args.triangle.now.number c.is_sunward.result
    (g.P.Plane.sound c.args.plane.now) c.is_sunward.ensures c.if-is_sunward.false
