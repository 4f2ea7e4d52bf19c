use Rattle.std.proofs.Common.{◌≡◌, ℕ, ◌+◌, ◌≤◌, Bool, ◌&&◌, eqb, sym, ap, ◌∙◌, ap₂, rules}
use Rattle.planes.specs.Planes.{PlaneModel}
use Rattle.survey.specs.Spans.{within}
use Rattle.survey.specs.RasterOutlines.{covers}
use Rattle.survey.specs.declared.raster.outlines.Outline.{Outline}
use Rattle.survey.proofs.RasterSweeps.{painted_none, painted_then, painted_same, row_apart, row_more, row_none, same_end, window_columns, cut_row}
use Rattle.survey.proofs.raster.sweeps.sweep_rows.Goals as goal

pub loop-row-init : goal.loop-row-init
loop-row-init g c = (
  painted_none (g.P.Plane.model c.args.plane.now) (λ k l. within c.args.rows.lo c.args.rows.lo l && covers c.args.outline.now k l) _ _
      (λ k l. row_none c.args.rows.lo l (covers c.args.outline.now k l)),
  search rules,
  search rules,
)

pub loop-row-preserved : goal.loop-row-preserved
loop-row-preserved g c =
    let m : PlaneModel = g.P.Plane.model c.args.plane.now in
    let n : PlaneModel = g.P.Plane.model c.loop-row.plane in
    let o : PlaneModel = g.P.Plane.model c.sweep_row.new.plane in
    let out : Outline = c.args.outline.now in
    let lo : ℕ = c.args.rows.lo in
    let j : ℕ = c.loop-row.row in
    let h : lo ≤ j = c.loop-row.auto.row in
    let x : (k : ℕ) → Bool = λ k. within c.cut-columns.result.lo c.cut-columns.result.hi k in
    let e : (k : ℕ) → x k ≡ (within n.c0 n.c1 k && covers out k j)
    = λ k. c.cut-columns.ensures k
    ∙ ap₂ (λ (a b : ℕ). within a b k && covers out k j) (c.window-window.ensures.c0 ∙ sym c.loop-row.invariant.0.shape.c0) (c.window-window.ensures.c1 ∙ sym c.loop-row.invariant.0.shape.c1) in (
      painted_then m n o (λ k l. within lo j l && covers out k l) (λ k l. eqb l j && covers out k l) (λ k l. within lo (j + 1) l && covers out k l)
          (g.B.Brush.lays c.args.brush) (g.B.Brush.adds c.args.brush)
          (λ k l. row_apart lo j l (covers out k l)) (λ k l. row_more lo j l (covers out k l) h) c.loop-row.invariant.0
          (painted_same n o (λ k l. eqb l j && x k) (λ k l. eqb l j && covers out k l) (g.B.Brush.lays c.args.brush) (g.B.Brush.adds c.args.brush)
          (λ k l w. cut_row j k l (within n.c0 n.c1 k) (x k) (covers out k) (window_columns n k l w) (e k))
          c.sweep_row.ensures.after),
      c.sweep_row.ensures.names ∙ c.loop-row.invariant.1,
      search rules,
    )

pub returns-clause-after : goal.returns-clause-after
returns-clause-after g c =
    let lo : ℕ = c.args.rows.lo in
    let out : Outline = c.args.outline.now in
    painted_same (g.P.Plane.model c.args.plane.now) (g.P.Plane.model c.loop-row.plane) (λ k l. within lo c.loop-row.row l && covers out k l) (λ k l. within lo c.args.rows.hi l && covers out k l)
    (g.B.Brush.lays c.args.brush) (g.B.Brush.adds c.args.brush)
    (λ k l _. ap (λ (b : Bool). b && covers out k l) (same_end lo c.loop-row.row c.args.rows.hi l c.loop-row-test.false c.loop-row.auto.row-end c.loop-row.invariant.2))
    c.loop-row.invariant.0
