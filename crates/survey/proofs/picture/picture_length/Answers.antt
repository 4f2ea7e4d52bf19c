use Rattle.std.proofs.Common.{arith}
use Rattle.survey.proofs.Pictures.{few_digits, product_small, counted_length}
use Rattle.survey.proofs.picture.picture_length.Goals as goal

pub overflow_add-result : goal.overflow_add-result
overflow_add-result c = let few = few_digits c.args.width (omega arith) in omega (arith, c.digits.ensures)

pub overflow_add-result-2 : goal.overflow_add-result-2
overflow_add-result-2 c =
    let few = few_digits c.args.width (omega arith) in
    let also = few_digits c.args.rows (omega arith) in
    omega (arith, c.digits.ensures, c.digits-2.ensures)

pub overflow_add-result-3 : goal.overflow_add-result-3
overflow_add-result-3 c =
    let few = few_digits c.args.width (omega arith) in
    let also = few_digits c.args.rows (omega arith) in
    let small = product_small c.args.width c.args.rows (omega arith) (omega arith) in
    omega (arith, c.digits.ensures, c.digits-2.ensures)

pub returns : goal.returns
returns c = counted_length c.args.width c.args.rows c.digits.result c.digits-2.result c.digits.ensures c.digits-2.ensures
