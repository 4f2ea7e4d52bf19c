use Rattle.std.proofs.Common.{◌≡◌, ◌∙◌, rules}
use Rattle.geometry.specs.Vectors.{plus}
use Rattle.geometry.specs.Machine.{vector_of, wrapped3}
use Rattle.geometry.specs.Units.{point_of}
use Rattle.geometry.specs.Strikes.{normal}
use Rattle.volumes.proofs.Made.{far_made, far_exact}
use Rattle.volumes.proofs.face.Face.far_cap.Goals as goal

pub returns : goal.returns
returns c =
    let a = point_of c.args.facet.a in
    let b = point_of c.args.facet.b in
    let d = point_of c.args.facet.c in
    let e = vector_of c.args.extent in
    let p : vector_of c.swept.result ≡ wrapped3 (plus d e) = search rules in
    let q : vector_of c.swept-2.result ≡ wrapped3 (plus b e) = search rules in
    let r : vector_of c.swept-3.result ≡ wrapped3 (plus a e) = search rules in
    let n : vector_of c.normal.result ≡ wrapped3 (normal d b a) = search rules in
    let w = far_made a b d e c.swept-3.result c.swept-2.result c.swept.result c.normal.result p q r n in
    record { wrapped = w; exact = λ u l i h k m. w ∙ far_exact a b d e u l i h k m }
