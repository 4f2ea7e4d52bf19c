use Rattle.std.proofs.Common.{◌≡◌, Some, None, arith}
use Rattle.std.proofs.lemmas.Option.{MatchOption-at_some, MatchOption-at_none}
use Rattle.std.proofs.lemmas.Result.{err_from_is_err_and}
use Rattle.solids.proofs.Tables.{partnered_more}
use Rattle.solids.specs.Tables.{unpaired}
use Rattle.solids.proofs.matching.Mesh.pair_sides.Goals as goal

pub returns-in_err-partner : goal.returns-in_err-partner
returns-in_err-partner c =
    let n = c.in_ok-test_tables.ensures in
    let p = err_from_is_err_and c.from_residual-in_err-partner.result c.from_residual-in_err-partner.ensures.1 in
    let none : c.partner_of.result ≡ None = grind arith in
    let fails = rw c.link-chains.ensures at (MatchOption-at_none _ _ none c.partner_of.ensures) in
    let told : c.in_err-partner.field-0.0 ≡ c.new-misfit.result = grind arith in
    let long = n.inside.filled.counted.long in
    rw (p.1, p.2, told, c.new-misfit.ensures)
    (unpaired {q = c.loop-place.place} n (record { below = omega arith; fails = fails; before = λ q h. (_, c.loop-place.invariant q h) }))

pub loop-place-preserved : goal.loop-place-preserved
loop-place-preserved c =
    let some : c.partner_of.result ≡ Some c.in_ok-partner.field-0 = grind arith in
    let here = rw c.link-chains.ensures at (MatchOption-at_some _ _ c.in_ok-partner.field-0 some c.partner_of.ensures) in
    partnered_more _ c.loop-place.partners c.loop-place.place c.in_ok-partner.field-0 (omega arith) c.loop-place.invariant here
