use Rattle.std.proofs.Common.{rules}
use Rattle.solids.proofs.matching.Mesh.first_misnumbered.Goals as goal

pub returns : goal.returns
returns c = search rules
