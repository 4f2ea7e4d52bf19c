use Rattle.volumes.proofs.Walls.{walls_turn}
use Rattle.volumes.proofs.theorems.walls_turn.Goals as goal

pub returns : goal.returns
returns c = walls_turn
