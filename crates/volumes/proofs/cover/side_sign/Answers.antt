use Rattle.std.proofs.Common.{◌≡◌, pos, neg_ℤ, ap, ◌∙◌, rules}
use Rattle.geometry.specs.Vectors.{minus}
use Rattle.geometry.specs.Machine.{vector_of, wrapped3, sign_is}
use Rattle.geometry.specs.Signs.{sign_of, ◌or_else◌}
use Rattle.volumes.specs.Faces.{receiver}
use Rattle.volumes.specs.Machine.{sample_of}
use Rattle.volumes.proofs.Computed.{side_sign_lem}
use Rattle.volumes.proofs.Exact.{side_exact}
use Rattle.volumes.proofs.cover.side_sign.Goals as goal

pub returns : goal.returns
returns c =
    let u = vector_of c.args.u in
    let v = vector_of c.args.v in
    let p = sample_of c.args.sample in
    let S = vector_of c.difference-side.result in
    let P = vector_of c.difference.result in
    let C = vector_of c.cross-across.result in
    let e : vector_of c.receiver.result ≡ receiver p (pos 0) = search rules in
    let to : P ≡ wrapped3 (minus (receiver p (pos 0)) u) = c.difference.ensures ∙ ap (λ x. wrapped3 (minus x u)) e in
    let s : sign_is c.of.result ≡ sign_of C.z = search rules in
    let t : sign_is c.of_negative.result ≡ sign_of (neg_ℤ S.y) = search rules in
    let r : sign_is c.of-2.result ≡ sign_of S.x = search rules in
    let o : sign_is c.or_else-2.result ≡ (sign_is c.of.result or_else sign_is c.of_negative.result) or_else sign_is c.of-2.result
    = cc (c.or_else-2.ensures, c.or_else.ensures) in
    let w = o ∙ side_sign_lem u v p S P C (sign_is c.of.result) (sign_is c.of_negative.result) (sign_is c.of-2.result) c.difference-side.ensures to c.cross-across.ensures s t r in
    record { wrapped = w; exact = λ h k l. w ∙ side_exact u v p h k l }
