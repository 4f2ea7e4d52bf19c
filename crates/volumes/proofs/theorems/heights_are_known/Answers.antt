use Rattle.volumes.proofs.Heights.{heights_are_known}
use Rattle.volumes.proofs.theorems.heights_are_known.Goals as goal

pub returns : goal.returns
returns c = heights_are_known
