use Rattle.volumes.proofs.NearFaces.{faces_are_near}
use Rattle.volumes.proofs.theorems.faces_are_near.Goals as goal

pub returns : goal.returns
returns c = faces_are_near
