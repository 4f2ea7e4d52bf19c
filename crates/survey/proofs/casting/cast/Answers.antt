use Rattle.std.proofs.Common.{◌≡◌, ℕ, ◌+◌, refl, ap, ◌∙◌, subst}
use Rattle.geometry.specs.Light.{run_of}
use Rattle.geometry.specs.declared.light.Run.{Run}
use Rattle.volumes.specs.Volumes.{sunward_total}
use Rattle.survey.specs.Survey.{casting_of}
use Rattle.survey.specs.Changes.{Shadowed}
use Rattle.survey.proofs.Accounts.{cast_stands}
use Rattle.survey.proofs.casting.cast.Goals as goal

pub returns-clause-stands : goal.returns-clause-stands
returns-clause-stands g c =
    let m = g.P.Plane.model c.args.plane.now in
    let n = g.P.Plane.model c.cast_volume.new.plane in
    let S = g.S.Solid.model c.args.solid.now in
    let d = run_of c.args.run in
    let s = casting_of c.args.survey.now in
    let grown : s.total + c.count_sunward.result ≡ s.total + sunward_total S d
    = ap (λ (k : ℕ). s.total + k) c.count_sunward.ensures ∙ ap (λ (r : Run). s.total + sunward_total S (run_of r)) c.in_ok-light.ensures.0 in
    cast_stands m n S d s _ refl grown (subst (λ (r : Run). Shadowed m S (run_of r) n) c.in_ok-light.ensures.0 c.cast_volume.ensures.after)
