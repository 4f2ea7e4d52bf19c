use Rattle.std.proofs.Common.{◌≡◌, pos, None, sym, ap, ◌∙◌, subst}
use Rattle.geometry.specs.Vectors.{V3}
use Rattle.geometry.specs.Units.{point_of}
use Rattle.volumes.specs.Faces.{Face, triangle}
use Rattle.volumes.specs.Machine.{face_of}
use Rattle.survey.specs.Raster.{Drawable}
use Rattle.survey.specs.RasterOutlines.{covers}
use Rattle.survey.specs.RasterTilts.{least_on}
use Rattle.survey.specs.Tilts.{facing_of}
use Rattle.survey.specs.Projections.{Projects}
use Rattle.survey.proofs.RasterFaces.{other_none, level_up, level_down, least_is, laid_by, laid_none}
use Rattle.survey.proofs.RasterDrawable.{near_cap_drawable}
use Rattle.survey.proofs.raster.lay_triangle.Goals as goal

pub of-requires : goal.of-requires
of-requires g c =
    let r = c.requires in
    subst Drawable (sym (c.near_cap-face.ensures.exact r.a r.b r.c)) (near_cap_drawable (point_of c.args.facet.a) (point_of c.args.facet.b) (point_of c.args.facet.c) r.a r.b r.c)

pub returns-in-Some-clause-after : goal.returns-in-Some-clause-after
returns-in-Some-clause-after g c =
    let u : V3 = point_of c.args.facet.a in
    let v : V3 = point_of c.args.facet.b in
    let w : V3 = point_of c.args.facet.c in
    let r = c.requires in
    let f : Face = face_of c.near_cap-face.result in
    let p = c.in-Some.seen in
    let is : f ≡ triangle u v w = c.near_cap-face.ensures.exact r.a r.b r.c in
    let seen : Projects (triangle u v w) p = subst (λ (x : Face). Projects x p) is c.in-Some.ensures in
    laid_by (g.P.Plane.model c.args.plane.now) (g.P.Plane.model c.sweep.new.plane) u v w p.facing (covers p.outline) (least_on p.tilt)
    (g.P.Plane.sound c.args.plane.now) r.a r.b r.c seen.outline (other_none (triangle u v w) p.facing (near_cap_drawable u v w r.a r.b r.c) seen.facing)
    (λ k l. least_is p.facing (triangle u v w) p.tilt.base p.tilt.column p.tilt.row p.tilt.height k l seen.facing seen.height (seen.values k l (pos 0)))
    c.sweep.ensures.after

pub returns-in_default-clause-after : goal.returns-in_default-clause-after
returns-in_default-clause-after g c =
    let u : V3 = point_of c.args.facet.a in
    let v : V3 = point_of c.args.facet.b in
    let w : V3 = point_of c.args.facet.c in
    let r = c.requires in
    let d : Drawable (triangle u v w) = near_cap_drawable u v w r.a r.b r.c in
    let e : None ≡ facing_of (triangle u v w).normal.z = c.in_default.ensures ∙ ap (λ (x : Face). facing_of x.normal.z) (c.near_cap-face.ensures.exact r.a r.b r.c) in
    laid_none (g.P.Plane.model c.args.plane.now) u v w (level_up (triangle u v w) d e) (level_down (triangle u v w) d e)
