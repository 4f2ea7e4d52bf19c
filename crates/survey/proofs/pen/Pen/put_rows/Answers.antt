use Rattle.std.proofs.Common.{◌≡◌, ℕ, ◌+◌, ◌*◌, ◌<◌, ◌≤◌, length, subst, arith}
use Rattle.survey.specs.Survey.{casting_of}
use Rattle.survey.specs.Picture.{rows_below}
use Rattle.survey.specs.Pens.{Writes}
use Rattle.survey.proofs.Pictures.{length-rows, row_fits, writes_none, writes_row}
use Rattle.survey.proofs.pen.Pen.put_rows.Goals as goal

pub put_row-requires : goal.put_row-requires
put_row-requires g c =
    let m = g.P.Plane.model c.args.scene.now.plane.now in
    let p = c.args.self.now in
    let l = length-rows m (casting_of c.args.scene.now.survey.now).total c.loop-row.row in
    let h : c.loop-row.row < m.rows = omega (arith, c.rows-row-end.ensures) in
    let fits : p.at + c.loop-row.row * m.width + m.width ≤ length p.buffer.now = row_fits m.width m.rows c.loop-row.row p.at (length p.buffer.now) h c.requires in
    omega (arith, c.loop-row.invariant.written.place, c.loop-row.invariant.size)

pub loop-row-init : goal.loop-row-init
loop-row-init g c = writes_none c.args.self.now

pub loop-row-preserved : goal.loop-row-preserved
loop-row-preserved g c =
    writes_row c.args.self.now c.loop-row.self c.put_row.new.self (g.P.Plane.model c.args.scene.now.plane.now) (casting_of c.args.scene.now.survey.now).total c.loop-row.row c.loop-row.invariant c.put_row.ensures

pub returns : goal.returns
returns g c =
    let m = g.P.Plane.model c.args.scene.now.plane.now in
    let e : c.loop-row.row ≡ m.rows = omega (arith, c.rows-row-end.ensures) in
    subst (λ (n : ℕ). Writes c.args.self.now (rows_below m (casting_of c.args.scene.now.survey.now).total n) c.loop-row.self) e c.loop-row.invariant
