use Rattle.std.proofs.Common.{ℕ, Bool, ◌&&◌, ◌∙◌, ap₂}
use Rattle.planes.specs.Planes.{PlaneModel}
use Rattle.survey.specs.Spans.{within}
use Rattle.survey.specs.RasterOutlines.{covers}
use Rattle.survey.specs.declared.raster.outlines.Outline.{Outline}
use Rattle.survey.proofs.RasterSweeps.{painted_same, window_rows, all_rows}
use Rattle.survey.proofs.RasterFrames.{no_row}
use Rattle.survey.proofs.raster.sweeps.sweep.Goals as goal

pub returns-clause-after : goal.returns-clause-after
returns-clause-after g c =
    let m : PlaneModel = g.P.Plane.model c.args.plane.now in
    let out : Outline = c.args.outline.now in
    let x : (l : ℕ) → Bool = λ l. within c.rows-rows.result.lo c.rows-rows.result.hi l in
    painted_same m (g.P.Plane.model c.sweep_rows.new.plane) (λ k l. x l && covers out k l) (covers out) (g.B.Brush.lays c.args.brush) (g.B.Brush.adds c.args.brush)
    (λ k l w.
    all_rows (x l) (covers out k l)
    (no_row out (within c.window-window.result.r0.0 c.window-window.result.r1.0 l) (x l) k l
    (ap₂ (λ (a b : ℕ). within a b l) c.window-window.ensures.r0 c.window-window.ensures.r1 ∙ window_rows m k l w) (c.rows-rows.ensures l)))
    c.sweep_rows.ensures.after
