use Rattle.std.proofs.Common.{◌≡◌, ◌^◌, ◌≤◌, pos, nat_abs, ◌<ℤ◌, sym, ap, ◌∙◌, subst}
use Rattle.geometry.specs.Vectors.{V3, minus, dot}
use Rattle.geometry.specs.Machine.{vector_of}
use Rattle.volumes.specs.Faces.{receiver}
use Rattle.survey.specs.Drawing.{sample_of}
use Rattle.survey.specs.Raster.{Near, origin}
use Rattle.survey.specs.Tilts.{turned_by}
use Rattle.survey.specs.declared.raster.facing.Facing.{Facing}
use Rattle.survey.proofs.TiltLaws.{opposite, opposite_exact, opposite_near, opposite_dot, opposite_offset, opposite_rises, opposite_height}
use Rattle.survey.proofs.raster.tilts.Tilt.facing.Goals as goal

pub new-requires-in-Down : goal.new-requires-in-Down
new-requires-in-Down c =
    let n : V3 = vector_of c.args.n in
    let u : V3 = vector_of c.args.u in
    let e : vector_of c.difference.result ≡ opposite n = opposite_exact n _ c.requires.normal c.difference.ensures in
    record {
      rises = subst (λ (v : V3). pos 0 <ℤ v.z) (sym e) (opposite_rises n.z (subst (λ (s : Facing). pos 0 <ℤ turned_by s n.z) c.in-Down.is c.requires.rises));
      normal = subst (Near (2 ^ 40)) (sym e) (opposite_near n c.requires.normal);
      corner = c.requires.corner;
      offset = subst (λ (v : V3). nat_abs (dot v (minus origin u)) ≤ 2 ^ 58) (sym e) (opposite_offset n (minus origin u) c.requires.offset);
    }

pub returns-in-Down : goal.returns-in-Down
returns-in-Down c =
    let n : V3 = vector_of c.args.n in
    let u : V3 = vector_of c.args.u in
    let e : vector_of c.difference.result ≡ opposite n = opposite_exact n _ c.requires.normal c.difference.ensures in
    record {
      height = c.new-in-Down.ensures.height ∙ ap (λ (v : V3). v.z) e ∙ opposite_height n.z ∙ ap (λ (s : Facing). turned_by s n.z) (sym c.in-Down.is);
      is = λ i j h.
          c.new-in-Down.ensures.is i j h
          ∙ ap (λ (v : V3). dot v (minus (receiver (sample_of i j) h) u)) e
          ∙ opposite_dot n (minus (receiver (sample_of i j) h) u)
          ∙ ap (λ (s : Facing). turned_by s (dot n (minus (receiver (sample_of i j) h) u))) (sym c.in-Down.is);
    }
