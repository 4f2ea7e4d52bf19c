use Rattle.std.proofs.Common.{ℕ, cond, ℤ, pos, Some, None, Option, sym, ap}
use Rattle.planes.specs.Planes.{PlaneModel, is_height}
use Rattle.survey.specs.RasterTilts.{least_on}
use Rattle.survey.specs.declared.raster.brushes.Laying.{Laying}
use Rattle.survey.proofs.RasterSweeps.{raised, none_more}
use Rattle.survey.proofs.raster.brushes.LayingBrush.touch.Goals as goal

abbrev least : Laying → ℕ → ℕ → ℤ
least b i j = least_on b.tilt i j

abbrev lays : Laying → ℕ → ℕ → Option ℤ
lays b i j = cond (is_height (least b i j)) (Some (least b i j)) None

pub returns-clause-after : goal.returns-clause-after
returns-clause-after g c =
    let m : PlaneModel = g.P.Plane.model c.args.plane.now in
    let i : ℕ = c.args.column.0 in
    let j : ℕ = c.args.row.0 in
    raised m (g.P.Plane.model c.raise.new.self) i j (lays c.args.self.now) (λ _ _ _. pos 0) c.least_over.result.0 c.raise.ensures.after
    (ap (λ (v : ℤ). cond (is_height v) (Some v) None) (sym c.least_over.ensures))
    (none_more (m.count i j) m.modulus ((g.P.Plane.sound c.args.plane.now).counts i j))
