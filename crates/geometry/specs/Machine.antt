-- Vectors as the code holds them: three machine numbers of 64 bits, a list of three.
use Rattle.std.specs.Prelude.{List, ℤ, pos, neg_ℤ, slice_index_or}
use Rattle.std.specs.Int.{int_wrap, w64}
use Rattle.geometry.specs.Vectors.{V3, vector, minus, dot}
use Rattle.geometry.specs.Signs.{Sign, Negative, Zero, Positive, sign_of, ◌or_else◌}
use Rattle.geometry.specs.declared.sign.Sign.TheVariants as code
use Rattle.geometry.specs.declared.sign.Sign as codes

abbrev pub vector_of : List ℤ → V3
vector_of u = vector (slice_index_or u 0 (pos 0)) (slice_index_or u 1 (pos 0)) (slice_index_or u 2 (pos 0))

-- what 64 bits keep of each part
abbrev pub wrapped3 : V3 → V3
wrapped3 u = vector (int_wrap w64 u.x) (int_wrap w64 u.y) (int_wrap w64 u.z)

-- ---- signs as the code answers them
abbrev pub sign_is : codes.Sign → Sign
sign_is code.Negative = Negative
sign_is code.Zero = Zero
sign_is code.Positive = Positive

-- the first of two signs that is not zero
abbrev pub first_sign : Sign → Sign → Sign
first_sign s t = s or_else t

-- the side of p at the plane through u with the normal n, where n · (p − u) is kept to 64 bits
abbrev pub wrapped_side : V3 → V3 → V3 → Sign
wrapped_side n u p = sign_of (int_wrap w64 (dot n (minus p u))) or_else sign_of (neg_ℤ n.z) or_else sign_of n.x or_else sign_of n.y
