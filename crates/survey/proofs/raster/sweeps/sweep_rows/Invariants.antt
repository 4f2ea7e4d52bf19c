use Rattle.std.proofs.Common.{◌≡◌, ◌<◌, ◌&&◌}
use Rattle.survey.specs.Spans.{within}
use Rattle.survey.specs.Raster.{Painted}
use Rattle.survey.specs.RasterOutlines.{covers}
use Rattle.survey.proofs.raster.sweeps.sweep_rows.Given as goal

abbrev pub invariant-loop-row : goal.invariant-loop-row
invariant-loop-row g l =
    Painted (g.P.Plane.model l.initial.plane) (λ i j. within l.initial.row l.row j && covers l.outline i j) (g.B.Brush.lays l.brush) (g.B.Brush.adds l.brush) (g.P.Plane.model l.plane)
    × (g.P.Plane.names l.plane ≡ g.P.Plane.names l.initial.plane)
    × (l.row-end < l.initial.row → l.row ≡ l.initial.row)
