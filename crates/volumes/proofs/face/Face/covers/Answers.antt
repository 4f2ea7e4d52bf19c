use Rattle.std.proofs.Common.{◌≡◌, ap, ◌∙◌, rules}
use Rattle.geometry.specs.Machine.{vector_of, sign_is}
use Rattle.volumes.specs.Machine.{face_of, sample_of, cover_by}
use Rattle.volumes.specs.Wrapped.{wrapped_side_sign}
use Rattle.volumes.proofs.Computed.{cover_of_four}
use Rattle.volumes.proofs.Exact.{signs_exact}
use Rattle.volumes.proofs.face.Face.covers.Goals as goal

pub returns-in-Some : goal.returns-in-Some
returns-in-Some c =
    let f = c.args.self.now in
    let p = sample_of c.args.sample in
    let v = c.in-Some.fourth in
    let a : sign_is c.side_sign-first.result ≡ wrapped_side_sign (vector_of f.first) (vector_of f.second) p = search rules in
    let b : sign_is c.side_sign-second.result ≡ wrapped_side_sign (vector_of f.second) (vector_of f.third) p = search rules in
    let d : sign_is c.side_sign-in-Some.result ≡ wrapped_side_sign (vector_of f.third) (vector_of v) p = search rules in
    let e : sign_is c.side_sign-in-Some-2.result ≡ wrapped_side_sign (vector_of v) (vector_of f.first) p = search rules in
    let w = cover_of_four f p (sign_is c.side_sign-first.result) (sign_is c.side_sign-second.result) c.from.result c.along-cover.result a b c.from.ensures c.along-cover.ensures
    v (sign_is c.side_sign-in-Some.result) (sign_is c.side_sign-in-Some-2.result) c.along-in-Some.result c.along-in-Some-2.result c.in-Some.is d e c.along-in-Some.ensures c.along-in-Some-2.ensures in
    record { wrapped = w; exact = λ n s. w ∙ ap cover_by (signs_exact (face_of f) p n s) }
