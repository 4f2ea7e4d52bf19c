use Rattle.std.proofs.Common.{◌≡◌, ℤ, neg_ℤ, ap, ◌∙◌, ap₂, w64, to_z, of_z, rules}
use Rattle.std.specs.Int.{int_wrap}
use Rattle.std.proofs.lemmas.Int.{to_z-of_z, int_wrap_fits}
use Rattle.geometry.specs.Vectors.{V3, minus, dot}
use Rattle.geometry.specs.Signs.{sign_of, ◌or_else◌}
use Rattle.geometry.specs.Machine.{vector_of, sign_is}
use Rattle.geometry.proofs.Exact.{dot_wrapped_right, passed}
use Rattle.geometry.proofs.strike.plane_side.Goals as goal

pub returns : goal.returns
returns c =
    let N = vector_of c.args.n in
    let P = minus (vector_of c.args.p) (vector_of c.args.u) in
    let x : to_z w64 (of_z w64 N.x) ≡ N.x = to_z-of_z w64 N.x (search rules) in
    let y : to_z w64 (of_z w64 N.y) ≡ N.y = to_z-of_z w64 N.y (search rules) in
    let z : to_z w64 (of_z w64 N.z) ≡ N.z = to_z-of_z w64 N.z (search rules) in
    let e : c.dot-value.result ≡ int_wrap w64 (dot N P) = c.dot-value.ensures ∙ ap (λ (q : V3). int_wrap w64 (dot N q)) c.difference.ensures ∙ dot_wrapped_right N P in
    let below : sign_is c.of_negative.result ≡ sign_of (neg_ℤ N.z) = c.of_negative.ensures ∙ ap (λ (q : ℤ). sign_of (neg_ℤ q)) z in
    let right : sign_is c.of.result ≡ sign_of N.x = c.of.ensures ∙ ap sign_of x in
    let down : sign_is c.of-2.result ≡ sign_of N.y = c.of-2.ensures ∙ ap sign_of y in
    let value : sign_is c.of-3.result ≡ sign_of (int_wrap w64 (dot N P)) = c.of-3.ensures ∙ ap sign_of (passed _ _ e) in
    let plane = c.or_else-in_plane.ensures ∙ ap₂ ◌or_else◌ below (c.or_else.ensures ∙ ap₂ ◌or_else◌ right down) in
    let all = c.or_else-2.ensures ∙ ap₂ ◌or_else◌ value plane in
    record { wrapped = all; exact = λ f. all ∙ ap (λ (q : ℤ). sign_of q or_else sign_of (neg_ℤ N.z) or_else sign_of N.x or_else sign_of N.y) (int_wrap_fits w64 (dot N P) f) }
