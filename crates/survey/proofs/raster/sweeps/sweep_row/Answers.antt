use Rattle.std.proofs.Common.{ℕ, ◌+◌, ◌≤◌, Bool, ◌&&◌, eqb, ap, ◌∙◌, rules}
use Rattle.planes.specs.Planes.{same}
use Rattle.survey.specs.Spans.{within}
use Rattle.survey.proofs.RasterSweeps.{painted_none, painted_then, painted_same, column_apart, column_more, column_none, same_end}
use Rattle.survey.proofs.raster.sweeps.sweep_row.Goals as goal

pub loop-column-init : goal.loop-column-init
loop-column-init g c = (
  painted_none (g.P.Plane.model c.args.plane.now) (λ k l. eqb l c.args.row.0 && within c.args.columns.lo c.args.columns.lo k) _ _
      (λ k l. column_none c.args.columns.lo c.args.row.0 k l),
  search rules,
  search rules,
)

pub loop-column-preserved : goal.loop-column-preserved
loop-column-preserved g c =
    let lo : ℕ = c.args.columns.lo in
    let i : ℕ = c.loop-column.column in
    let j : ℕ = c.args.row.0 in
    let h : lo ≤ i = c.loop-column.auto.column in (
      painted_then (g.P.Plane.model c.args.plane.now) (g.P.Plane.model c.loop-column.plane) (g.P.Plane.model c.touch.new.plane)
          (λ k l. eqb l j && within lo i k) (same i j) (λ k l. eqb l j && within lo (i + 1) k) (g.B.Brush.lays c.args.brush) (g.B.Brush.adds c.args.brush)
          (λ k l. column_apart lo i j k l) (λ k l. column_more lo i j k l h) c.loop-column.invariant.0 c.touch.ensures.after,
      c.touch.ensures.names ∙ c.loop-column.invariant.1,
      search rules,
    )

pub returns-clause-after : goal.returns-clause-after
returns-clause-after g c =
    let lo : ℕ = c.args.columns.lo in
    let j : ℕ = c.args.row.0 in
    painted_same (g.P.Plane.model c.args.plane.now) (g.P.Plane.model c.loop-column.plane) (λ k l. eqb l j && within lo c.loop-column.column k) (λ k l. eqb l j && within lo c.args.columns.hi k)
    (g.B.Brush.lays c.args.brush) (g.B.Brush.adds c.args.brush)
    (λ k l _. ap (λ (b : Bool). eqb l j && b) (same_end lo c.loop-column.column c.args.columns.hi k c.loop-column-test.false c.loop-column.auto.column-end c.loop-column.invariant.2))
    c.loop-column.invariant.0
