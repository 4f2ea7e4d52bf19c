use Rattle.std.proofs.Common.{◌≡◌, ◌∙◌, ap₂}
use Rattle.geometry.specs.Vectors.{V3, minus, cross}
use Rattle.geometry.specs.Machine.{vector_of, wrapped3}
use Rattle.geometry.specs.Units.{point_of}
use Rattle.geometry.proofs.Exact.{cross_wrapped}
use Rattle.geometry.proofs.facet.Facet.normal.Goals as goal

pub returns : goal.returns
returns c =
    let A = point_of c.args.self.a in
    let B = point_of c.args.self.b in
    let C = point_of c.args.self.c in
    let ab : vector_of c.difference.result ≡ wrapped3 (minus B A) = c.difference.ensures ∙ ap₂ (λ (x y : V3). wrapped3 (minus x y)) c.into.ensures c.from-a.ensures in
    let ac : vector_of c.difference-2.result ≡ wrapped3 (minus C A) = c.difference-2.ensures ∙ ap₂ (λ (x y : V3). wrapped3 (minus x y)) c.into-2.ensures c.from-a.ensures in
    c.cross.ensures ∙ ap₂ (λ (x y : V3). wrapped3 (cross x y)) ab ac ∙ cross_wrapped (minus B A) (minus C A)
