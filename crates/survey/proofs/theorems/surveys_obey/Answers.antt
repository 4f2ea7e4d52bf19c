use Rattle.survey.proofs.Surveys.{surveys_obey}
use Rattle.survey.proofs.theorems.surveys_obey.Goals as goal

pub returns : goal.returns
returns c = surveys_obey
