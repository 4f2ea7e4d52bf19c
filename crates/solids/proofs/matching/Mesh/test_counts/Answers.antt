use Rattle.std.proofs.Common.{arith}
use Rattle.solids.specs.Tables.{many_corners, many_triangles, other_length}
use Rattle.solids.proofs.matching.Mesh.test_counts.Goals as goal

pub returns-then-self-gt-MOST : goal.returns-then-self-gt-MOST
returns-then-self-gt-MOST c = rw c.new.ensures (many_corners (omega arith))

pub returns-then-self-gt-MOST-2 : goal.returns-then-self-gt-MOST-2
returns-then-self-gt-MOST-2 c = rw c.new-then-self-gt-MOST-2.ensures (many_triangles (omega arith) (omega arith))

pub returns-then-partners-self : goal.returns-then-partners-self
returns-then-partners-self c = rw c.new-then-partners-self.ensures (other_length (omega arith) (omega arith) (λ e. omega arith))
