use Rattle.std.proofs.Common.{◌≡◌, true, pos, neg_ℤ, nat_abs, ◌∙◌, w64, rules}
use lib.Signed.{lt_z}
use Rattle.std.specs.Int.{int_wrap}
use Rattle.std.proofs.lemmas.Int.{to_z-of_z, wraps}
use Rattle.volumes.proofs.Computed.{ratio_down}
use Rattle.volumes.proofs.height.floor_ratio.Goals as goal

pub returns-then-by-lt0 : goal.returns-then-by-lt0
returns-then-by-lt0 c =
    let b = to_z-of_z w64 c.args.by c.ranges.by in
    let q = to_z-of_z w64 c.floor_quotient.result record { sfits = c.floor_quotient.type_inv } in
    let n : c.wrapping_neg.result ≡ int_wrap w64 (neg_ℤ c.args.number) = search (rules, wraps) in
    let k = to_z-of_z w64 c.wrapping_neg.result record { sfits = c.wrapping_neg.type_inv } in
    let t : lt_z c.args.by (pos 0) ≡ true = cc c.if-by-lt0.true in
    let m : c.unsigned_abs.result ≡ nat_abs c.args.by = cc c.unsigned_abs.ensures.value in
    q ∙ ratio_down c.args.number c.args.by c.floor_quotient.result c.unsigned_abs.result t m (cc c.floor_quotient.ensures)
