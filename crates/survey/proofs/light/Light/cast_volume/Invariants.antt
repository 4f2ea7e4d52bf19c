use Rattle.std.proofs.Common.{◌≡◌}
use Rattle.geometry.specs.Light.{run_of}
use Rattle.survey.specs.Changes.{Tallied, faces_below}
use Rattle.survey.proofs.light.Light.cast_volume.Given as goal

-- the faces of the triangles below `number` are drawn
abbrev pub invariant-loop-number : goal.invariant-loop-number
invariant-loop-number g l =
    Tallied (g.P.Plane.model l.initial.plane) (faces_below (g.S.Solid.model l.solid) (run_of l.self.run) l.number) (g.P.Plane.model l.plane)
    × (g.P.Plane.names l.plane ≡ g.P.Plane.names l.initial.plane)
