use Rattle.std.proofs.Common.{◌≡◌, ap, ◌∙◌, rules}
use Rattle.geometry.specs.Vectors.{minus}
use Rattle.geometry.specs.Machine.{vector_of, wrapped3}
use Rattle.geometry.specs.Signs.{sign_of, alike}
use Rattle.volumes.specs.Faces.{receiver}
use Rattle.volumes.specs.Machine.{face_of, sample_of}
use Rattle.volumes.proofs.Computed.{plane_at}
use Rattle.volumes.proofs.Exact.{below_exact}
use Rattle.volumes.proofs.face.Face.is_below.Goals as goal

pub returns : goal.returns
returns c =
    let f = face_of c.args.self.now in
    let p = sample_of c.args.sample in
    let z = c.args.z.0 in
    let e : vector_of c.receiver.result ≡ receiver p z = search rules in
    let d : vector_of c.difference.result ≡ wrapped3 (minus (receiver p z) f.first) = c.difference.ensures ∙ ap (λ x. wrapped3 (minus x f.first)) e in
    let a = plane_at f.normal f.first (receiver p z) c.dot-above.result (vector_of c.difference.result) d c.dot-above.ensures in
    let l : c.are_alike.result ≡ alike (sign_of c.dot-above.result) (sign_of f.normal.z) = search rules in
    let w = l ∙ ap (λ x. alike (sign_of x) (sign_of f.normal.z)) a in
    record { wrapped = w; exact = λ n s h. w ∙ below_exact f p n s z h }
