use Rattle.std.proofs.Common.{List, ◌∷◌, ℤ, Option, sym, ap, ◌∙◌}
use Rattle.geometry.specs.Machine.{vector_of}
use Rattle.volumes.specs.Machine.{face_of, fourth_of}
use Rattle.survey.specs.Drawing.{sample_of}
use Rattle.survey.specs.Sides.{seen, left_of, right_of}
use Rattle.survey.specs.Tilts.{covers_by}
use Rattle.survey.specs.declared.raster.facing.Facing.{Facing}
use Rattle.survey.proofs.RasterFrames.{triangle_turned, quadrilateral_turned}
use Rattle.survey.proofs.RasterFaces.{right_of_three, right_of_four, left_of_three, left_of_four}
use Rattle.survey.proofs.raster.outlines.Outline.of.Goals as goal

pub returns-in-None-Up : goal.returns-in-None-Up
returns-in-None-Up c =
    let f = c.args.face.now in
    λ i j.
    c.triangle.ensures i j
    ∙ left_of_three c.under-a.result c.under-b.result c.under-c.result (vector_of f.first) (vector_of f.second) (vector_of f.third) (sample_of i j)
    c.under-a.ensures.x c.under-a.ensures.y c.under-b.ensures.x c.under-b.ensures.y c.under-c.ensures.x c.under-c.ensures.y
    ∙ ap (λ (o : Option (List ℤ)). left_of (vector_of f.first) (vector_of f.second ∷ vector_of f.third ∷ fourth_of o) (sample_of i j)) (sym c.in-None-Up.is-0)
    ∙ ap (λ (s : Facing). covers_by s (face_of f) (sample_of i j)) (sym c.in-None-Up.is-1)

pub returns-in-None-Down : goal.returns-in-None-Down
returns-in-None-Down c =
    let f = c.args.face.now in
    λ i j.
    c.triangle-in-None-Down.ensures i j
    ∙ triangle_turned (seen c.under-a.result) (seen c.under-b.result) (seen c.under-c.result) (sample_of i j)
    ∙ right_of_three c.under-a.result c.under-b.result c.under-c.result (vector_of f.first) (vector_of f.second) (vector_of f.third) (sample_of i j)
    c.under-a.ensures.x c.under-a.ensures.y c.under-b.ensures.x c.under-b.ensures.y c.under-c.ensures.x c.under-c.ensures.y
    ∙ ap (λ (o : Option (List ℤ)). right_of (vector_of f.first) (vector_of f.second ∷ vector_of f.third ∷ fourth_of o) (sample_of i j)) (sym c.in-None-Down.is-0)
    ∙ ap (λ (s : Facing). covers_by s (face_of f) (sample_of i j)) (sym c.in-None-Down.is-1)

pub returns-in-Some-Up : goal.returns-in-Some-Up
returns-in-Some-Up c =
    let f = c.args.face.now in
    λ i j.
    c.quadrilateral.ensures i j
    ∙ left_of_four c.under-a.result c.under-b.result c.under-c.result c.under.result (vector_of f.first) (vector_of f.second) (vector_of f.third) (vector_of c.in-Some-Up.d) (sample_of i j)
    c.under-a.ensures.x c.under-a.ensures.y c.under-b.ensures.x c.under-b.ensures.y c.under-c.ensures.x c.under-c.ensures.y
    c.under.ensures.x c.under.ensures.y
    ∙ ap (λ (o : Option (List ℤ)). left_of (vector_of f.first) (vector_of f.second ∷ vector_of f.third ∷ fourth_of o) (sample_of i j)) (sym c.in-Some-Up.is-0)
    ∙ ap (λ (s : Facing). covers_by s (face_of f) (sample_of i j)) (sym c.in-Some-Up.is-1)

pub returns-in-Some-Down : goal.returns-in-Some-Down
returns-in-Some-Down c =
    let f = c.args.face.now in
    λ i j.
    c.quadrilateral-in-Some-Down.ensures i j
    ∙ quadrilateral_turned (seen c.under-a.result) (seen c.under-b.result) (seen c.under-c.result) (seen c.under-in-Some-Down.result) (sample_of i j)
    ∙ right_of_four c.under-a.result c.under-b.result c.under-c.result c.under-in-Some-Down.result (vector_of f.first) (vector_of f.second) (vector_of f.third) (vector_of c.in-Some-Down.d) (sample_of i j)
    c.under-a.ensures.x c.under-a.ensures.y c.under-b.ensures.x c.under-b.ensures.y c.under-c.ensures.x c.under-c.ensures.y
    c.under-in-Some-Down.ensures.x c.under-in-Some-Down.ensures.y
    ∙ ap (λ (o : Option (List ℤ)). right_of (vector_of f.first) (vector_of f.second ∷ vector_of f.third ∷ fourth_of o) (sample_of i j)) (sym c.in-Some-Down.is-0)
    ∙ ap (λ (s : Facing). covers_by s (face_of f) (sample_of i j)) (sym c.in-Some-Down.is-1)
