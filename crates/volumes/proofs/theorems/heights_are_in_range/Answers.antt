use Rattle.volumes.proofs.Heights.{heights_are_in_range}
use Rattle.volumes.proofs.theorems.heights_are_in_range.Goals as goal

pub returns : goal.returns
returns c = heights_are_in_range
