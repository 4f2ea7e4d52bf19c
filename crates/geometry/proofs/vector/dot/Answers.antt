use Rattle.std.proofs.Common.{get_or, pos, ◌*ℤ◌, w64, rules}
use Rattle.std.proofs.lemmas.Int.{to_z-of_z}
use Rattle.geometry.proofs.Exact.{three}
use Rattle.geometry.proofs.vector.dot.Goals as goal

pub returns : goal.returns
returns c =
    let u = c.args.u in
    let v = c.args.v in
    let u0 = to_z-of_z w64 (get_or u 0 (pos 0)) (search rules) in
    let u1 = to_z-of_z w64 (get_or u 1 (pos 0)) (search rules) in
    let u2 = to_z-of_z w64 (get_or u 2 (pos 0)) (search rules) in
    let v0 = to_z-of_z w64 (get_or v 0 (pos 0)) (search rules) in
    let v1 = to_z-of_z w64 (get_or v 1 (pos 0)) (search rules) in
    let v2 = to_z-of_z w64 (get_or v 2 (pos 0)) (search rules) in
    three (get_or u 0 (pos 0) *ℤ get_or v 0 (pos 0)) (get_or u 1 (pos 0) *ℤ get_or v 1 (pos 0)) (get_or u 2 (pos 0) *ℤ get_or v 2 (pos 0))
    c.times-x.result c.times-y.result c.times-z.result c.plus.result c.plus-2.result
    (cc c.times-x.ensures) (cc c.times-y.ensures) (cc c.times-z.ensures) c.plus.ensures c.plus-2.ensures
