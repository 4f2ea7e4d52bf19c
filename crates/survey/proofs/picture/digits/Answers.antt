use Rattle.std.proofs.Common.{ℕ, ◌*◌, ◌^◌, ◌<◌, ◌≤◌, subst, arith}
use Rattle.survey.proofs.Pictures.{length-power}
use Rattle.survey.proofs.picture.digits.Goals as goal

pub returns : goal.returns
returns c =
    length-power c.args.number c.ilog10.result (omega arith) (subst (λ (n : ℕ). 10 ^ c.ilog10.result ≤ n) c.max.ensures c.ilog10.ensures.power_le)
    (subst (λ (n : ℕ). n < 10 * 10 ^ c.ilog10.result) c.max.ensures c.ilog10.ensures.next_power_gt)
