use Rattle.std.proofs.Common.{◌≡◌, ◌<◌, ◌&&◌, eqb}
use Rattle.survey.specs.Spans.{within}
use Rattle.survey.specs.Raster.{Painted}
use Rattle.survey.proofs.raster.sweeps.sweep_row.Given as goal

abbrev pub invariant-loop-column : goal.invariant-loop-column
invariant-loop-column g l =
    Painted (g.P.Plane.model l.initial.plane) (λ i j. eqb j l.row.0 && within l.initial.column l.column i) (g.B.Brush.lays l.brush) (g.B.Brush.adds l.brush) (g.P.Plane.model l.plane)
    × (g.P.Plane.names l.plane ≡ g.P.Plane.names l.initial.plane)
    × (l.column-end < l.initial.column → l.column ≡ l.initial.column)
