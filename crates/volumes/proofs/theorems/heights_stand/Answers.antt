use Rattle.volumes.proofs.Cases.{heights_stand}
use Rattle.volumes.proofs.theorems.heights_stand.Goals as goal

pub returns : goal.returns
returns c = heights_stand
