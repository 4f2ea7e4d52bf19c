use Rattle.geometry.specs.Light.{run_of}
use Rattle.survey.proofs.Volumes.{walls_tallied}
use Rattle.survey.proofs.light.Light.cast_walls.Goals as goal

pub returns-clause-after : goal.returns-clause-after
returns-clause-after g c = walls_tallied (g.P.Plane.model c.args.plane.now) (g.P.Plane.model c.cast_wall.new.plane) (g.P.Plane.model c.cast_wall-2.new.plane) (g.P.Plane.model c.cast_wall-3.new.plane)
    (g.S.Solid.model c.args.triangle.now.solid.now) (run_of c.args.self.run) c.args.triangle.now.number (g.P.Plane.sound c.args.plane.now)
    c.cast_wall.ensures.after c.cast_wall-2.ensures.after c.cast_wall-3.ensures.after
