use Rattle.std.proofs.Common.{◌≡◌, ℕ, [], ◌∷◌}
use Rattle.survey.specs.Drawing.{sample_of}
use Rattle.survey.specs.Sides.{seen, left_of}
use Rattle.survey.specs.RasterFrames.{enclosed}
use Rattle.survey.proofs.RasterFrames.{four_sides, framed, le_trans, least, greatest}
use Rattle.survey.proofs.raster.outlines.Outline.quadrilateral.Goals as goal

pub invariant_of-result : goal.invariant_of-result
invariant_of-result c =
    let p = c.args.a in
    let q = c.args.b in
    let r = c.args.c in
    let s = c.args.d in
    let e : (i j : ℕ) → enclosed c.new.result c.new-2.result c.new-3.result c.new-4.result i j ≡ left_of (seen p) (seen q ∷ seen r ∷ seen s ∷ []) (sample_of i j)
    = λ i j. four_sides _ _ _ _ _ _ _ _ (c.new.ensures i j) (c.new-2.ensures i j) (c.new-3.ensures i j) (c.new-4.ensures i j) in
    let t = least p.y q.y c.min.result p.y_near q.y_near c.min.ensures.value in
    let t2 = least c.min.result r.y c.min-2.result t.0.near r.y_near c.min-2.ensures.value in
    let t3 = least c.min-2.result s.y c.min-3.result t2.0.near s.y_near c.min-3.ensures.value in
    let b = greatest p.y q.y c.max.result p.y_near q.y_near c.max.ensures.value in
    let b2 = greatest c.max.result r.y c.max-2.result b.0.near r.y_near c.max-2.ensures.value in
    let b3 = greatest c.max-2.result s.y c.max-3.result b2.0.near s.y_near c.max-3.ensures.value in
    let top = le_trans c.min-3.result c.min-2.result c.min.result t3.1.0 t2.1.0 in
    let bottom = le_trans c.max.result c.max-2.result c.max-3.result b2.1.0 b3.1.0 in
    record {
      top_near = t3.0.read_near;
      bottom_near = b3.0.read_near;
      framed =
          framed _ _ _ _ c.min-3.result c.max-3.result _ _ (seen p) (seen q ∷ seen r ∷ seen s ∷ []) t3.0.is b3.0.is e (
            (le_trans _ _ _ top t.1.0, le_trans _ _ _ b.1.0 bottom),
            ((le_trans _ _ _ top t.1.1, le_trans _ _ _ b.1.1 bottom), ((le_trans _ _ _ t3.1.0 t2.1.1, le_trans _ _ _ b2.1.1 b3.1.0), ((t3.1.1, b3.1.1), tt))),
          );
    }

pub returns : goal.returns
returns c i j = four_sides _ _ _ _ _ _ _ _ (c.new.ensures i j) (c.new-2.ensures i j) (c.new-3.ensures i j) (c.new-4.ensures i j)
