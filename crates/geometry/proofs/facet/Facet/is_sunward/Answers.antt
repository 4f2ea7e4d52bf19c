use Rattle.std.proofs.Common.{◌≡◌, ℤ, pos, ap, ◌∙◌, ap₂, w64, to_z, of_z}
use lib.Signed.{lt_z}
use Rattle.std.specs.Int.{int_wrap}
use Rattle.std.proofs.lemmas.Int.{int_wrap_fits}
use Rattle.geometry.specs.Vectors.{V3, dot}
use Rattle.geometry.specs.Strikes.{normal}
use Rattle.geometry.specs.Units.{point_of}
use Rattle.geometry.specs.Light.{run_of}
use Rattle.geometry.proofs.Exact.{dot_wrapped_left, passed}
use Rattle.geometry.proofs.Sizes.{near_corner, near_run, fits_light}
use Rattle.geometry.proofs.facet.Facet.is_sunward.Goals as goal

pub returns : goal.returns
returns c =
    let A = point_of c.args.self.a in
    let B = point_of c.args.self.b in
    let C = point_of c.args.self.c in
    let D = run_of c.args.run in
    let e : c.dot.result ≡ int_wrap w64 (dot (normal A B C) D) = c.dot.ensures ∙ ap₂ (λ (x y : V3). int_wrap w64 (dot x y)) c.normal.ensures c.into.ensures ∙ dot_wrapped_left (normal A B C) D in
    let p : lt_z (to_z w64 (of_z w64 c.dot.result)) (pos 0) ≡ lt_z (int_wrap w64 (dot (normal A B C) D)) (pos 0) = ap (λ (x : ℤ). lt_z x (pos 0)) (passed _ _ e) in
    record {
      wrapped = p;
      exact = λ ha hb hc hd.
          p ∙ ap (λ (x : ℤ). lt_z x (pos 0)) (int_wrap_fits w64 (dot (normal A B C) D) (fits_light A B C D (near_corner ha) (near_corner hb) (near_corner hc) (near_run hd)));
    }
