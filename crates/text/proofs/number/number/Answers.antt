use Rattle.std.proofs.Common.{suc, subst, arith}
use Rattle.text.proofs.Decimals.{behind_minus, first_and_rest, one_numeral}
use Rattle.text.proofs.number.number.Goals as goal
use Rattle.text.specs.Number.{Numeral}

pub returns-in_err-n-in-45 : goal.returns-in_err-n-in-45
returns-in_err-n-in-45 c =
    rw c.from_residual.ensures
    (λ z h.
    let m = behind_minus _ _ z (first_and_rest c.args.text.now (omega arith) (omega arith)) h in
    c.in_err-n-in-45.ensures (suc m.0) m.1)

pub returns-in-0 : goal.returns-in-0
returns-in-0 c =
    λ z h.
    let m = behind_minus _ _ z (first_and_rest c.args.text.now (omega arith) (omega arith)) h in
    one_numeral m.1 (subst (Numeral _) c.in-0.is c.in_ok-n-in-45.ensures)
