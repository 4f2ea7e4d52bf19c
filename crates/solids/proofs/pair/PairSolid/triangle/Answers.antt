use Rattle.std.proofs.Common.{arith}
use Rattle.solids.proofs.Law.{number_small}
use Rattle.solids.proofs.pair.PairSolid.triangle.Goals as goal

pub overflow_add-result : goal.overflow_add-result
overflow_add-result g c =
    let low = number_small _ _ (g.A.Solid.lawful c.in_ok-first.first.now) (g.B.Solid.lawful c.in_ok-first.second.now) _ _ c.in_ok-a.ensures 0 (omega arith) in
    omega (arith, c.corners-corners.ensures)

pub overflow_add-result-2 : goal.overflow_add-result-2
overflow_add-result-2 g c =
    let low = number_small _ _ (g.A.Solid.lawful c.in_ok-first.first.now) (g.B.Solid.lawful c.in_ok-first.second.now) _ _ c.in_ok-a.ensures 1 (omega arith) in
    omega (arith, c.corners-corners.ensures)

pub overflow_add-result-3 : goal.overflow_add-result-3
overflow_add-result-3 g c =
    let low = number_small _ _ (g.A.Solid.lawful c.in_ok-first.first.now) (g.B.Solid.lawful c.in_ok-first.second.now) _ _ c.in_ok-a.ensures 2 (omega arith) in
    omega (arith, c.corners-corners.ensures)
