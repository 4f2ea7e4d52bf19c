use Rattle.rules.proofs.OneVerdict.{one_verdict}
use Rattle.rules.proofs.theorems.one_verdict.Goals as goal

pub returns : goal.returns
returns c = one_verdict
