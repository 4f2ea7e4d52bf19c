use Rattle.volumes.proofs.Cases.{points_stand}
use Rattle.volumes.proofs.theorems.points_stand.Goals as goal

pub returns : goal.returns
returns c = points_stand
