use Rattle.volumes.proofs.Cases.{tetrahedron_stands}
use Rattle.volumes.proofs.theorems.tetrahedron_stands.Goals as goal

pub returns : goal.returns
returns c = tetrahedron_stands
