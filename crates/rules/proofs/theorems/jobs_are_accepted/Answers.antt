use Rattle.rules.proofs.Jobs.{jobs_are_accepted}
use Rattle.rules.proofs.theorems.jobs_are_accepted.Goals as goal

pub returns : goal.returns
returns c = jobs_are_accepted
