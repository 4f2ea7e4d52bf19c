use Rattle.std.proofs.Common.{◌≡◌, ℕ, [], ◌∷◌}
use Rattle.survey.specs.Drawing.{sample_of}
use Rattle.survey.specs.Sides.{seen, left_of}
use Rattle.survey.specs.RasterFrames.{enclosed}
use Rattle.survey.proofs.SideTests.{everywhere_is}
use Rattle.survey.proofs.RasterFrames.{three_sides, framed, le_trans, least, greatest}
use Rattle.survey.proofs.raster.outlines.Outline.triangle.Goals as goal

pub invariant_of-result : goal.invariant_of-result
invariant_of-result c =
    let a = c.args.a in
    let b = c.args.b in
    let d = c.args.c in
    let e : (i j : ℕ) → enclosed c.new.result c.new-2.result c.new-3.result c.everywhere.result i j ≡ left_of (seen a) (seen b ∷ seen d ∷ []) (sample_of i j)
    = λ i j. three_sides _ _ _ _ _ _ _ (c.new.ensures i j) (c.new-2.ensures i j) (c.new-3.ensures i j)
    (everywhere_is c.everywhere.result.column c.everywhere.result.row c.everywhere.result.constant i j c.everywhere.ensures.column c.everywhere.ensures.row c.everywhere.ensures.constant) in
    let s = least a.y b.y c.min.result a.y_near b.y_near c.min.ensures.value in
    let t = least c.min.result d.y c.min-2.result s.0.near d.y_near c.min-2.ensures.value in
    let u = greatest a.y b.y c.max.result a.y_near b.y_near c.max.ensures.value in
    let v = greatest c.max.result d.y c.max-2.result u.0.near d.y_near c.max-2.ensures.value in
    record {
      top_near = t.0.read_near;
      bottom_near = v.0.read_near;
      framed =
          framed _ _ _ _ c.min-2.result c.max-2.result _ _ (seen a) (seen b ∷ seen d ∷ []) t.0.is v.0.is e (
            (le_trans _ _ _ t.1.0 s.1.0, le_trans _ _ _ u.1.0 v.1.0),
            ((le_trans _ _ _ t.1.0 s.1.1, le_trans _ _ _ u.1.1 v.1.0), ((t.1.1, v.1.1), tt)),
          );
    }

pub returns : goal.returns
returns c i j =
    three_sides _ _ _ _ _ _ _ (c.new.ensures i j) (c.new-2.ensures i j) (c.new-3.ensures i j)
    (everywhere_is c.everywhere.result.column c.everywhere.result.row c.everywhere.result.constant i j c.everywhere.ensures.column c.everywhere.ensures.row c.everywhere.ensures.constant)
