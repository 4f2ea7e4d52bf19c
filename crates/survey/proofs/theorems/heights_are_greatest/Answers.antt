use Rattle.survey.proofs.Greatest.{heights_are_greatest}
use Rattle.survey.proofs.theorems.heights_are_greatest.Goals as goal

pub returns : goal.returns
returns c = heights_are_greatest
