use Rattle.std.proofs.Common.{◌≡◌, ℕ, [], ◌∷◌, subst, arith}
use Rattle.survey.specs.Survey.{casting_of}
use Rattle.survey.specs.Picture.{row_below}
use Rattle.survey.specs.Pens.{Writes}
use Rattle.survey.proofs.Pictures.{length-row, writes_none, writes_pixel}
use Rattle.survey.proofs.pen.Pen.put_row.Goals as goal

pub put-requires : goal.put-requires
put-requires g c =
    let l = length-row (g.P.Plane.model c.args.scene.now.plane.now) (casting_of c.args.scene.now.survey.now).total c.args.row.0 c.loop-column.column in
    omega (arith, c.loop-column.invariant.written.place, c.loop-column.invariant.size, c.width-column-end.ensures, c.requires)

pub loop-column-init : goal.loop-column-init
loop-column-init g c = writes_none c.args.self.now

pub loop-column-preserved : goal.loop-column-preserved
loop-column-preserved g c =
    writes_pixel c.args.self.now c.loop-column.self c.put.new.self (g.P.Plane.model c.args.scene.now.plane.now) (casting_of c.args.scene.now.survey.now).total c.args.row.0 c.loop-column.column c.loop-column.invariant
    (subst (λ (b : ℕ). Writes c.loop-column.self (b ∷ []) c.put.new.self) c.grey_at.ensures c.put.ensures)

pub returns : goal.returns
returns g c =
    let m = g.P.Plane.model c.args.scene.now.plane.now in
    let e : c.loop-column.column ≡ m.width = omega (arith, c.width-column-end.ensures) in
    subst (λ (n : ℕ). Writes c.args.self.now (row_below m (casting_of c.args.scene.now.survey.now).total c.args.row.0 n) c.loop-column.self) e c.loop-column.invariant
