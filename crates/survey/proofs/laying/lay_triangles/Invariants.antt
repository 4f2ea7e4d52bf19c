use Rattle.std.proofs.Common.{◌≡◌}
use Rattle.survey.specs.Changes.{lays_below, Heightened}
use Rattle.survey.proofs.laying.lay_triangles.Given as goal

-- the triangles below `number` are laid
abbrev pub invariant-loop-number : goal.invariant-loop-number
invariant-loop-number g l =
    Heightened (g.P.Plane.model l.initial.plane) (lays_below (g.S.Solid.model l.solid) l.number) (g.P.Plane.model l.plane)
    × (g.P.Plane.names l.plane ≡ g.P.Plane.names l.initial.plane)
