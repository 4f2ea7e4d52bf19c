use Rattle.std.proofs.Common.{◌∙◌}
use Rattle.geometry.specs.Signs.{is_negative}
use Rattle.geometry.specs.Strikes.{plane_side, normal}
use Rattle.geometry.specs.Units.{point_of}
use Rattle.geometry.proofs.Exact.{fits_as}
use Rattle.geometry.proofs.Sizes.{near_corner, near_receiver, fits_behind, exact_normal}
use Rattle.geometry.proofs.strike.ShadowRay.is_below.Goals as goal

pub is_behind-requires : goal.is_behind-requires
is_behind-requires c =
    let ray = c.args.self in
    let A = point_of ray.facet.a in
    let B = point_of ray.facet.b in
    let C = point_of ray.facet.c in
    let P = point_of ray.receiver in
    fits_as _ _ _ (normal A B C) A P (exact_normal c.normal.result A B C ray.a_in ray.b_in ray.c_in c.normal.ensures) c.into.ensures c.into-2.ensures
    (fits_behind A B C P (near_corner ray.a_in) (near_corner ray.b_in) (near_corner ray.c_in) (near_receiver ray.receiver_in))

pub returns : goal.returns
returns c =
    let ray = c.args.self in
    let n = exact_normal c.normal.result (point_of ray.facet.a) (point_of ray.facet.b) (point_of ray.facet.c) ray.a_in ray.b_in ray.c_in c.normal.ensures in
    let a = c.into.ensures in
    let p = c.into-2.ensures in
    c.is_behind.ensures ∙ (λ i. is_negative (plane_side (n i) (a i) (p i)))
