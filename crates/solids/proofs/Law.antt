-- What the law says of an answer of a solid.
use Rattle.std.proofs.Common.{◌≡◌, ℕ, ◌+◌, ◌<◌, true, ltb, sym, subst, arith, ltb-true}
use Rattle.solids.specs.Solids.{SolidModel, Lawful, corners_of, pick}
use Rattle.solids.specs.declared.solid.Triangle.{Triangle}

-- the corner numbers of a triangle stay small behind the corners of another solid
pub number_small :
    (A B : SolidModel) → Lawful A → Lawful B → (k : ℕ) (t : Triangle) → (ltb k B.triangles ≡ true) × (corners_of t ≡ B.triangle k) → (s : ℕ) → s < 3
    → A.corners + pick (corners_of t) s < 65536
number_small A B a b k t e s h =
    let low : pick (B.triangle k) s < B.corners = b.numbers_in_range k s (ltb-true k B.triangles e.0) h in
    let same : pick (corners_of t) s < B.corners = subst (λ u. pick u s < B.corners) (sym e.1) low in
    let few = a.corners_few in
    let more = b.corners_few in
    omega arith
