use Rattle.std.proofs.Common.{◌≡◌, ◌∙◌, rules}
use Rattle.geometry.specs.Vectors.{plus, minus}
use Rattle.geometry.specs.Machine.{vector_of, wrapped3}
use Rattle.geometry.specs.Units.{point_of}
use Rattle.geometry.proofs.Exact.{Fits3}
use Rattle.volumes.proofs.Made.{wall_made, wall_exact}
use Rattle.volumes.proofs.face.Face.wall.Goals as goal

pub returns : goal.returns
returns c =
    let u = point_of c.args.u in
    let v = point_of c.args.v in
    let e = vector_of c.args.extent in
    let fu : Fits3 u = record { x = search rules; y = search rules; z = search rules } in
    let fv : Fits3 v = record { x = search rules; y = search rules; z = search rules } in
    let p : vector_of c.into.result ≡ u = search rules in
    let q : vector_of c.swept.result ≡ wrapped3 (plus u e) = search rules in
    let r : vector_of c.swept-2.result ≡ wrapped3 (plus v e) = search rules in
    let s : vector_of c.from-end.result ≡ v = search rules in
    let o : vector_of c.into-2.result ≡ u = search rules in
    let d : vector_of c.difference.result ≡ wrapped3 (minus v u) = cc c.difference.ensures in
    let w = wall_made u v e c.into.result c.swept.result c.swept-2.result c.from-end.result c.cross.result c.difference.result fu fv p q r s d c.cross.ensures in
    record { wrapped = w; exact = λ x l i h k. w ∙ wall_exact u v e x l i h k }
