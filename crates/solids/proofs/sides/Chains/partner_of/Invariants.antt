use Rattle.solids.proofs.Chains.{Walked}
use Rattle.solids.proofs.sides.Chains.partner_of.Given as goal

abbrev pub invariant-loop-ahead : goal.invariant-loop-ahead
invariant-loop-ahead l = Walked l.self.triangles.now l.place l.ahead l.found

abbrev pub decreases-loop-ahead : goal.decreases-loop-ahead
decreases-loop-ahead l = l.ahead
