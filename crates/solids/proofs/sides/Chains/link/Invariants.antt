use Rattle.std.proofs.Common.{◌≡◌, length}
use Rattle.solids.specs.Chains.{Linked}
use Rattle.solids.proofs.sides.Chains.link.Given as goal

abbrev pub invariant-loop-place : goal.invariant-loop-place
invariant-loop-place l = (length l.heads ≡ 4096) × Linked l.triangles l.place l.heads l.links
