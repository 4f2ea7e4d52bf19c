use Rattle.std.proofs.Common.{refl}
use Rattle.survey.specs.Survey.{laying_of}
use Rattle.survey.proofs.Accounts.{laid_stands}
use Rattle.survey.proofs.laying.lay.Goals as goal

pub returns-clause-stands : goal.returns-clause-stands
returns-clause-stands g c =
    laid_stands (g.P.Plane.model c.args.plane.now) (g.P.Plane.model c.lay_triangles.new.plane) (g.S.Solid.model c.args.solid.now) (laying_of c.args.survey.now) refl c.lay_triangles.ensures.after
