use Rattle.std.proofs.Common.{◌^◌, ap, ◌∙◌, lit<}
use Rattle.volumes.specs.Faces.{Face}
use Rattle.volumes.specs.Machine.{face_of}
use Rattle.survey.specs.Tilts.{facing_of}
use Rattle.survey.proofs.TiltLaws.{read}
use Rattle.survey.proofs.RasterFaces.{rises}
use Rattle.survey.proofs.raster.projections.Projection.of.Goals as goal

pub facing-tilt-requires : goal.facing-tilt-requires
facing-tilt-requires c =
    let f : Face = face_of c.args.face.now in
    record {
      rises = rises f.normal.z c.in_ok-facing.facing (c.in_ok-facing.ensures ∙ ap facing_of (read f.normal.z (2 ^ 40) c.requires.normal.z (lit< tt)));
      normal = c.requires.normal;
      corner = c.requires.corners.0;
      offset = c.requires.offset;
    }

pub returns : goal.returns
returns c =
    let f : Face = face_of c.args.face.now in
    record {
      facing = c.in_ok-facing.ensures ∙ ap facing_of (read f.normal.z (2 ^ 40) c.requires.normal.z (lit< tt));
      outline = c.of-outline.ensures;
      height = c.facing-tilt.ensures.height;
      values = c.facing-tilt.ensures.is;
    }
