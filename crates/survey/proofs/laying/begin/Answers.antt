use Rattle.std.proofs.Common.{◌≡◌, true, sym, refl, ◌∙◌}
use Rattle.survey.specs.Refusals.{is_ground}
use Rattle.survey.proofs.Limits.{ground_is_height}
use Rattle.survey.proofs.Pixels.{window_inside}
use Rattle.survey.proofs.Accounts.{begun_stands}
use Rattle.survey.proofs.laying.begin.Goals as goal

pub returns-clause-stands : goal.returns-clause-stands
returns-clause-stands g c =
    let m = g.P.Plane.model c.args.plane.now in
    let ground : is_ground c.args.ground.0 ≡ true = sym c.is_ground.ensures ∙ c.if-not-is_ground.false in
    begun_stands m (g.P.Plane.model c.wipe.new.self) c.args.ground.0 _ (window_inside m (g.P.Plane.sound c.args.plane.now)) (ground_is_height c.args.ground.0 ground)
    record { wiped = c.wipe.ensures.after; shape = c.of-shape.ensures; total = refl }
