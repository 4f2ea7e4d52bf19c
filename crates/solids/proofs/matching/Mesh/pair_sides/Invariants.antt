use Rattle.std.proofs.Common.{ℕ, ◌<◌}
use Rattle.solids.specs.Tables.{PartneredAt}
use Rattle.solids.proofs.matching.Mesh.pair_sides.Given as goal

abbrev pub invariant-loop-place : goal.invariant-loop-place
invariant-loop-place l = (q : ℕ) → q < l.place → PartneredAt l.self.triangles.now l.partners q
