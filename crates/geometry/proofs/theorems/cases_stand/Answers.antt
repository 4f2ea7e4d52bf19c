use Rattle.geometry.proofs.Strikes.{cases}
use Rattle.geometry.proofs.theorems.cases_stand.Goals as goal

pub returns : goal.returns
returns c = cases
