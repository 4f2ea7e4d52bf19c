use Rattle.std.proofs.Common.{◌≡◌, ◌∙◌, w64, rules}
use Rattle.std.proofs.lemmas.Int.{to_z-of_z}
use Rattle.volumes.specs.Machine.{face_of, sample_of, cover_by}
use Rattle.volumes.specs.Wrapped.{wrapped_side_signs, wrapped_below}
use Rattle.volumes.proofs.Computed.{counted_below}
use Rattle.volumes.proofs.Exact.{contribution_exact}
use Rattle.volumes.proofs.face.Face.contribution.Goals as goal

pub returns-then-is_below : goal.returns-then-is_below
returns-then-is_below c =
    let f = face_of c.args.self.now in
    let p = sample_of c.args.sample in
    let z = c.args.z.0 in
    let b : c.is_below.result ≡ wrapped_below f p z = search rules in
    let k : c.covers.result ≡ cover_by (wrapped_side_signs f p) = search rules in
    let w = to_z-of_z w64 c.weight.result record { sfits = c.weight.type_inv } ∙ counted_below f p c.covers.result k z c.weight.result c.is_below.result c.if-is_below.true b c.weight.ensures in
    record { wrapped = w; exact = λ n s h. w ∙ contribution_exact f p n s z h }
