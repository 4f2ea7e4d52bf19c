-- What the code computes of faces: the definitions of Faces and Heights with each number kept to 64 bits. Of near faces (Near) they are the same.
use Rattle.std.specs.Prelude.{suc, Bool, cond, ◌||◌, List, map, ℤ, pos, negsuc, ◌+ℤ◌, ◌-ℤ◌, ◌*ℤ◌, neg_ℤ, Some, None, Option}
use Rattle.std.specs.Int.{int_wrap, w64}
use Rattle.algebra.specs.Division.{floor_div}
use Rattle.geometry.specs.Vectors.{V3, minus, dot}
use Rattle.geometry.specs.Machine.{wrapped3}
use Rattle.geometry.specs.Signs.{Sign, sign_of, ◌or_else◌, alike}
use Rattle.volumes.specs.Faces.{Sample, Face, receiver, sides_from, all_positive, all_negative, tally}
use Rattle.volumes.specs.Heights.{scaled_height}

abbrev pub wrapped_face : Face → Face
wrapped_face f = record { first = wrapped3 f.first; others = map wrapped3 f.others; normal = wrapped3 f.normal }

-- ---- what it covers
abbrev pub wrapped_side_sign : V3 → V3 → Sample → Sign
wrapped_side_sign u v p =
    sign_of (int_wrap w64 ((v.x -ℤ u.x) *ℤ (p.y -ℤ u.y) -ℤ (v.y -ℤ u.y) *ℤ (p.x -ℤ u.x)))
    or_else sign_of (neg_ℤ (int_wrap w64 (v.y -ℤ u.y)))
    or_else sign_of (int_wrap w64 (v.x -ℤ u.x))

abbrev pub wrapped_side_signs : Face → Sample → List Sign
wrapped_side_signs f p = sides_from wrapped_side_sign f.first f.first f.others p

-- ---- where it lies
abbrev pub wrapped_below : Face → Sample → ℤ → Bool
wrapped_below f p z = alike (sign_of (int_wrap w64 (dot f.normal (minus (receiver p z) f.first)))) (sign_of f.normal.z)

abbrev pub wrapped_ratio : ℤ → ℤ → ℤ
wrapped_ratio a (pos m) = floor_div (int_wrap w64 a) m
wrapped_ratio a (negsuc m) = floor_div (int_wrap w64 (neg_ℤ a)) (suc m)

abbrev pub wrapped_raised_to : Face → Sample → ℤ
wrapped_raised_to f p = int_wrap w64 (wrapped_ratio (scaled_height f p) f.normal.z +ℤ pos 1)

abbrev pub wrapped_raised_at : Face → Sample → Option ℤ
wrapped_raised_at f p = cond (all_positive (wrapped_side_signs f p) || all_negative (wrapped_side_signs f p)) (Some (wrapped_raised_to f p)) None

-- ---- what it counts
abbrev pub wrapped_contribution : Face → Sample → ℤ → ℤ
wrapped_contribution f p z = tally (wrapped_below f p z) (all_positive (wrapped_side_signs f p)) (all_negative (wrapped_side_signs f p))
