use Rattle.survey.specs.Survey.{casting_of}
use Rattle.survey.specs.Picture.{row_below}
use Rattle.survey.specs.Pens.{Writes}
use Rattle.survey.proofs.pen.Pen.put_row.Given as goal

-- the columns before this one are written
abbrev pub invariant-loop-column : goal.invariant-loop-column
invariant-loop-column g l = Writes l.initial.self (row_below (g.P.Plane.model l.scene.plane.now) (casting_of l.scene.survey.now).total l.row.0 l.column) l.self
