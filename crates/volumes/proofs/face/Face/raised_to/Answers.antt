use Rattle.std.proofs.Common.{◌≡◌, ◌∙◌, rules}
use Rattle.volumes.specs.Machine.{face_of, sample_of, cover_by}
use Rattle.volumes.specs.Wrapped.{wrapped_side_signs, wrapped_raised_to}
use Rattle.volumes.proofs.Computed.{raised_covered, raised_beside}
use Rattle.volumes.proofs.Exact.{raised_at_exact}
use Rattle.volumes.proofs.face.Face.raised_to.Goals as goal

pub returns-in-Up : goal.returns-in-Up
returns-in-Up c =
    let f = face_of c.args.self.now in
    let p = sample_of c.args.sample in
    let k : c.covers.result ≡ cover_by (wrapped_side_signs f p) = search rules in
    let r : c.next_above.result.0 ≡ wrapped_raised_to f p = search rules in
    let w = raised_covered f p c.covers.result k c.next_above.result.0 c.in-Up.is r in
    record { wrapped = w; exact = λ n s. w ∙ raised_at_exact f p n s }

pub returns-in-Beside : goal.returns-in-Beside
returns-in-Beside c =
    let f = face_of c.args.self.now in
    let p = sample_of c.args.sample in
    let k : c.covers.result ≡ cover_by (wrapped_side_signs f p) = search rules in
    let w = raised_beside f p c.covers.result k c.in-Beside.is in
    record { wrapped = w; exact = λ n s. w ∙ raised_at_exact f p n s }
