use Rattle.std.proofs.Common.{◌∙◌}
use Rattle.geometry.specs.Vectors.{minus, cross}
use Rattle.geometry.specs.Signs.{is_negative}
use Rattle.geometry.specs.Strikes.{plane_side}
use Rattle.geometry.specs.Units.{point_of}
use Rattle.geometry.specs.Light.{run_of}
use Rattle.geometry.proofs.Exact.{fits_as}
use Rattle.geometry.proofs.Sizes.{near_corner, near_receiver, near_run, fits_within, exact_along}
use Rattle.geometry.proofs.strike.ShadowRay.is_within.Goals as goal

pub is_behind-requires : goal.is_behind-requires
is_behind-requires c =
    let U = point_of c.args.u in
    let V = point_of c.args.v in
    let P = point_of c.args.self.receiver in
    let D = run_of c.args.self.run in
    let n = exact_along c.into-2.result c.from-u.result c.into.result c.difference-side.result c.cross.result D U V c.args.self.run_in c.requires.u c.requires.v
    c.into-2.ensures c.from-u.ensures c.into.ensures c.difference-side.ensures c.cross.ensures in
    fits_as _ _ _ (cross D (minus V U)) U P n c.from-u.ensures c.into-3.ensures
    (fits_within D U V P (near_run c.args.self.run_in) (near_corner c.requires.u) (near_corner c.requires.v) (near_receiver c.args.self.receiver_in))

pub returns : goal.returns
returns c =
    let n = exact_along c.into-2.result c.from-u.result c.into.result c.difference-side.result c.cross.result
    (run_of c.args.self.run) (point_of c.args.u) (point_of c.args.v) c.args.self.run_in c.requires.u c.requires.v
    c.into-2.ensures c.from-u.ensures c.into.ensures c.difference-side.ensures c.cross.ensures in
    let u = c.from-u.ensures in
    let p = c.into-3.ensures in
    c.is_behind.ensures ∙ (λ i. is_negative (plane_side (n i) (u i) (p i)))
