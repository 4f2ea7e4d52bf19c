use Rattle.std.proofs.Common.{Bool, cond, pos, sym, ap, ◌∙◌}
use lib.Signed.{lt_z}
use Rattle.volumes.specs.Faces.{Face}
use Rattle.volumes.specs.Machine.{face_of}
use Rattle.survey.specs.Drawing.{sample_of}
use Rattle.survey.specs.RasterOutlines.{covers}
use Rattle.survey.specs.RasterTilts.{value_on}
use Rattle.survey.specs.Tilts.{turn_of}
use Rattle.survey.proofs.RasterFaces.{other_none, level_up, level_down, below_by, drawn_by, drawn_none}
use Rattle.survey.proofs.raster.draw_face.Goals as goal

pub returns-in-Some-clause-after : goal.returns-in-Some-clause-after
returns-in-Some-clause-after g c =
    let f : Face = face_of c.args.face.now in
    let p = c.in-Some.seen in
    let is = c.in-Some.ensures in
    drawn_by (g.P.Plane.model c.args.plane.now) (g.P.Plane.model c.sweep.new.plane) f p.facing (covers p.outline)
    (λ k l h. cond (lt_z (pos 0) (value_on p.tilt k l h)) (turn_of p.facing) (pos 0))
    (g.P.Plane.sound c.args.plane.now) is.outline (other_none f p.facing c.requires is.facing)
    (λ k l h. ap (λ (b : Bool). cond b (turn_of p.facing) (pos 0)) (ap (lt_z (pos 0)) (is.values k l h) ∙ sym (below_by p.facing f (sample_of k l) h is.facing)))
    c.sweep.ensures.after

pub returns-in_default-clause-after : goal.returns-in_default-clause-after
returns-in_default-clause-after g c =
    let f : Face = face_of c.args.face.now in
    drawn_none (g.P.Plane.model c.args.plane.now) f (g.P.Plane.sound c.args.plane.now) (level_up f c.requires c.in_default.ensures) (level_down f c.requires c.in_default.ensures)
