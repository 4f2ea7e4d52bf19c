use Rattle.std.proofs.Common.{rules}
use Rattle.solids.proofs.Verdicts.{unmatched_at}
use Rattle.std.proofs.lemmas.Result.{err_from_is_err_and}
use Rattle.solids.specs.Tables.{unmatched}
use Rattle.solids.proofs.Tables.{mispartnered_at}
use Rattle.solids.proofs.matching.Mesh.test_partners.Goals as goal

pub returns-in_err-test_counts : goal.returns-in_err-test_counts
returns-in_err-test_counts c =
    let p = err_from_is_err_and c.from_residual.result c.from_residual.ensures.1 in
    rw (p.1, p.2) (unmatched c.in_err-test_counts.ensures)

pub returns-in_err-match_sides : goal.returns-in_err-match_sides
returns-in_err-match_sides c =
    let p = err_from_is_err_and c.from_residual-in_err-match_sides.result c.from_residual-in_err-match_sides.ensures.1 in
    rw (p.1, p.2) (unmatched_at c.in_err-match_sides.ensures.0 (search rules))

pub returns-in-Some : goal.returns-in-Some
returns-in-Some c = rw c.new.ensures (mispartnered_at _ _ _ _ c.in_ok-match_sides.ensures (search rules) _ c.in-Some.ensures)
