use Rattle.volumes.proofs.Faces.{faces_count}
use Rattle.volumes.proofs.theorems.faces_count.Goals as goal

pub returns : goal.returns
returns c = faces_count
