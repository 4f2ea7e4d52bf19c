use Rattle.volumes.proofs.Solids.{strikes_are_few}
use Rattle.volumes.proofs.theorems.strikes_are_few.Goals as goal

pub returns : goal.returns
returns c = strikes_are_few
