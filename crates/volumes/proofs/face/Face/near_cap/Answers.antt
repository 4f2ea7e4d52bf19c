use Rattle.std.proofs.Common.{◌≡◌, ◌∙◌, rules}
use Rattle.geometry.specs.Machine.{vector_of, wrapped3}
use Rattle.geometry.specs.Units.{point_of}
use Rattle.geometry.specs.Strikes.{normal}
use Rattle.geometry.proofs.Exact.{Fits3}
use Rattle.volumes.proofs.Made.{near_made, near_exact}
use Rattle.volumes.proofs.face.Face.near_cap.Goals as goal

pub returns : goal.returns
returns c =
    let a = point_of c.args.facet.a in
    let b = point_of c.args.facet.b in
    let d = point_of c.args.facet.c in
    let fa : Fits3 a = record { x = search rules; y = search rules; z = search rules } in
    let fb : Fits3 b = record { x = search rules; y = search rules; z = search rules } in
    let fc : Fits3 d = record { x = search rules; y = search rules; z = search rules } in
    let p : vector_of c.into.result ≡ a = search rules in
    let q : vector_of c.into-2.result ≡ b = search rules in
    let r : vector_of c.into-3.result ≡ d = search rules in
    let n : vector_of c.normal.result ≡ wrapped3 (normal a b d) = search rules in
    let w = near_made a b d c.into.result c.into-2.result c.into-3.result c.normal.result fa fb fc p q r n in
    record { wrapped = w; exact = λ h k l. w ∙ near_exact a b d h k l }
