use Rattle.geometry.proofs.Strikes.{length_is_free}
use Rattle.geometry.proofs.theorems.length_is_free.Goals as goal

pub returns : goal.returns
returns c = length_is_free
