use Rattle.volumes.proofs.Solids.{count_is_right}
use Rattle.volumes.proofs.theorems.count_is_right.Goals as goal

pub returns : goal.returns
returns c = count_is_right
