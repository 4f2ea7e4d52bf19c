use Rattle.survey.specs.Survey.{casting_of}
use Rattle.survey.specs.Picture.{rows_below}
use Rattle.survey.specs.Pens.{Writes}
use Rattle.survey.proofs.pen.Pen.put_rows.Given as goal

-- the rows before this one are written
abbrev pub invariant-loop-row : goal.invariant-loop-row
invariant-loop-row g l = Writes l.initial.self (rows_below (g.P.Plane.model l.scene.plane.now) (casting_of l.scene.survey.now).total l.row) l.self
