use Rattle.std.proofs.Common.{◌≡◌, ℕ, true, sym, ap, ◌∙◌}
use Rattle.planes.specs.Planes.{in_window}
use Rattle.survey.specs.Survey.{casting_of, mark_of}
use Rattle.survey.proofs.Accounts.{told}
use Rattle.survey.proofs.reading.look.Goals as goal

pub returns-clause-stands : goal.returns-clause-stands
returns-clause-stands g c =
    let m = g.P.Plane.model c.args.plane.now in
    let s = casting_of c.args.survey.now in
    let k = c.args.column.0 in
    let l = c.args.row.0 in
    let within : in_window m k l ≡ true = sym c.is_in_window.ensures ∙ c.if-not-is_in_window.false in
    let mark : c.of-mark.result ≡ mark_of m.modulus c.count_at-count.result s.total
    = c.of-mark.ensures ∙ ap (λ (M : ℕ). mark_of M c.count_at-count.result s.total) c.modulus.ensures in
    λ a st. told a m s k l c.of-mark.result c.count_at-count.result st within c.count_at-count.ensures mark
