use Rattle.solids.proofs.Verdicts.{one_verdict}
use Rattle.solids.proofs.theorems.verdicts_are_one.Goals as goal

pub returns : goal.returns
returns c = one_verdict
