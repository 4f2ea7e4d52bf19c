use Rattle.std.proofs.Common.{refl}
use Rattle.geometry.proofs.Perturbed.{negative_is, positive_is}
use Rattle.geometry.proofs.theorems.sides_are_perturbed.Goals as goal

pub returns : goal.returns
returns c = record { is = λ n u p. refl; negative_is = negative_is; positive_is = positive_is }
