use Rattle.std.proofs.Common.{◌≡◌, pos, ap, ◌∙◌, w64, SFits, rules}
use Rattle.std.proofs.lemmas.Int.{wrapping_add_is}
use Rattle.geometry.specs.Vectors.{minus}
use Rattle.geometry.specs.Machine.{vector_of, wrapped3}
use Rattle.volumes.specs.Faces.{receiver}
use Rattle.volumes.specs.Machine.{face_of, sample_of}
use Rattle.volumes.specs.Wrapped.{wrapped_ratio}
use Rattle.volumes.proofs.Computed.{plane_at, raised_by_lem}
use Rattle.volumes.proofs.face.Face.next_above.Goals as goal

pub returns : goal.returns
returns c =
    let f = face_of c.args.self.now in
    let p = sample_of c.args.sample in
    let e : vector_of c.receiver.result ≡ receiver p (pos 0) = search rules in
    let d : vector_of c.difference.result ≡ wrapped3 (minus f.first (receiver p (pos 0))) = c.difference.ensures ∙ ap (λ x. wrapped3 (minus f.first x)) e in
    let s = plane_at f.normal (receiver p (pos 0)) f.first c.dot-scaled.result (vector_of c.difference.result) d c.dot-scaled.ensures in
    let q : c.floor_ratio.result ≡ wrapped_ratio c.dot-scaled.result f.normal.z = search rules in
    let one : SFits w64 (pos 1) = search rules in
    raised_by_lem f p c.dot-scaled.result c.floor_ratio.result _ s q (wrapping_add_is w64 c.floor_ratio.result (pos 1) record { sfits = c.floor_ratio.type_inv } one)
