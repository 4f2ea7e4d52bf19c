use Rattle.geometry.proofs.Strikes.{strikes_are_decided}
use Rattle.geometry.proofs.theorems.strikes_are_decided.Goals as goal

pub returns : goal.returns
returns c = strikes_are_decided
