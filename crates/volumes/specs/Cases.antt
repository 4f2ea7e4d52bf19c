-- Worked cases: strikes, counts, reaches and heights at points that were worked out apart from these definitions, by another program.
use Rattle.std.specs.Prelude.{◌≡◌, ℕ, Bool, true, false, List, [], ◌∷◌, ℤ, pos, negsuc, neg_ℤ, Some, None, slice_index, slice_index_or}
use Rattle.geometry.specs.Vectors.{V3, vector}
use Rattle.geometry.specs.Strikes.{strikes}
use Rattle.solids.specs.Solids.{SolidModel, Corners, Lawful}
use Rattle.volumes.specs.Faces.{Sample, Face, triangle, near_cap, far_cap, wall, covers_up, covers_down, contribution, pixel_sample}
use Rattle.volumes.specs.Extent.{reach}
use Rattle.volumes.specs.Volumes.{depth_fail, sunward_total}
use Rattle.volumes.specs.Heights.{raised_at}

abbrev pub at : ℕ → ℕ → ℕ → V3
at x y z = vector (pos x) (pos y) (pos z)

-- down by z
abbrev pub light : ℤ → ℤ → ℕ → V3
light x y z = vector x y (neg_ℤ (pos z))

-- ---- how far a triangle is swept, and to what a covered pixel is raised
abbrev level : Face
level = triangle (at 0 0 160) (at 160 0 160) (at 0 160 160)

abbrev sloping : Face
sloping = triangle (at 0 0 0) (vector (pos 160) (pos 0) (neg_ℤ (pos 10))) (at 0 160 0)

pub record Heights : Type 0 where
  pub longest_reach : reach (light (pos 0) (pos 0) 1) ≡ 16385
  pub shortest_reach : reach (light (pos 0) (pos 0) 1024) ≡ 17
  pub level_covers : covers_up level (pixel_sample 2 1) ≡ true
  pub level_raises : raised_at level (pixel_sample 2 1) ≡ Some (pos 161)
  -- a sample on the slanting side is not covered, either way
  pub edge_not_up : covers_up level (pixel_sample 9 0) ≡ false
  pub edge_not_down : covers_down level (pixel_sample 9 0) ≡ false
  pub edge_stays : raised_at level (pixel_sample 9 0) ≡ None
  -- its height of −2.5 is rounded downwards, to −3
  pub sloping_raises : raised_at sloping (pixel_sample 2 1) ≡ Some (neg_ℤ (pos 2))

-- ---- one triangle, swept along the light itself: whether it strikes, and what its near cap, its far cap and its three walls count.
-- The theorems hold for a hair in any direction. These points pin the one that is meant: for each other order or direction of its three moves some point is struck
-- otherwise, for each other order or direction of the last two some face counts otherwise, and so if a face through the receiver counted as below it.
abbrev takes : ℤ
takes = neg_ℤ (pos 1)

abbrev none : ℤ
none = pos 0

abbrev adds : ℤ
adds = pos 1

pub record At (d a b c P : V3) (s : Bool) (xs : List ℤ) : Type 0 where
  pub strike : strikes d a b c P ≡ s
  pub counts : (let p : Sample = record { x = P.x; y = P.y } in
      contribution (near_cap a b c) p P.z ∷ contribution (far_cap a b c d) p P.z
      ∷ contribution (wall a b d) p P.z ∷ contribution (wall b c d) p P.z ∷ contribution (wall c a d) p P.z ∷ []) ≡ xs

pub record Points : Type 0 where
  pub point0 : At (light (pos 0) (pos 0) 1) (at 3 3 2) (at 4 4 4) (at 1 3 4) (at 1 3 4) true (none ∷ adds ∷ none ∷ none ∷ none ∷ [])
  pub point1 : At (light (pos 0) (pos 0) 2) (at 2 4 1) (at 0 1 3) (at 1 1 0) (at 0 1 3) true (none ∷ adds ∷ none ∷ none ∷ none ∷ [])
  pub point2 : At (light (pos 1) (pos 1) 1) (at 2 2 2) (at 2 1 2) (at 3 0 2) (at 2 2 3) false (none ∷ none ∷ adds ∷ none ∷ takes ∷ [])
  pub point3 : At (light (pos 0) (negsuc 0) 1) (at 2 1 2) (at 2 2 1) (at 1 3 1) (at 1 2 3) false (none ∷ none ∷ none ∷ adds ∷ takes ∷ [])
  pub point4 : At (light (pos 0) (pos 1) 1) (at 1 3 1) (at 1 2 0) (at 3 2 2) (at 2 2 2) false (takes ∷ none ∷ none ∷ adds ∷ none ∷ [])
  pub point5 : At (light (negsuc 0) (pos 0) 1) (at 2 4 2) (at 3 1 2) (at 2 2 1) (at 1 2 3) false (none ∷ takes ∷ none ∷ none ∷ adds ∷ [])
  pub point6 : At (light (negsuc 0) (pos 1) 1) (at 2 3 2) (at 2 0 3) (at 2 1 2) (at 1 2 3) false (none ∷ none ∷ takes ∷ none ∷ adds ∷ [])
  pub point7 : At (light (negsuc 0) (pos 0) 1) (at 4 1 1) (at 2 4 2) (at 3 1 2) (at 3 2 2) false (takes ∷ none ∷ adds ∷ none ∷ none ∷ [])
  pub point8 : At (light (pos 0) (pos 1) 1) (at 4 1 1) (at 2 2 3) (at 1 4 2) (at 2 2 4) false (adds ∷ none ∷ takes ∷ none ∷ none ∷ [])
  pub point9 : At (light (negsuc 0) (pos 0) 1) (at 1 2 0) (at 3 4 1) (at 3 2 3) (at 2 2 4) false (adds ∷ none ∷ none ∷ takes ∷ none ∷ [])
  pub point10 : At (light (pos 0) (pos 1) 1) (at 2 2 2) (at 4 2 3) (at 2 3 2) (at 3 3 4) false (none ∷ adds ∷ none ∷ takes ∷ none ∷ [])
  pub point11 : At (light (pos 0) (pos 1) 1) (at 3 1 4) (at 2 1 2) (at 4 2 4) (at 2 2 2) false (none ∷ takes ∷ none ∷ adds ∷ none ∷ [])

-- ---- a solid: a tetrahedron in the air, under slanting light, over the ground
abbrev numbers : ℕ → ℕ → ℕ → Corners
numbers i j k = record { first = i; second = j; third = k }

abbrev pub tetrahedron : SolidModel
tetrahedron = record {
  corners = 4;
  corner = λ i. slice_index_or (at 0 0 32 ∷ at 32 0 32 ∷ at 0 32 32 ∷ at 0 0 16 ∷ []) i (at 0 0 0);
  triangles = 4;
  triangle = λ k. slice_index_or (numbers 0 1 2 ∷ numbers 1 0 3 ∷ numbers 2 1 3 ∷ numbers 0 2 3 ∷ []) k (numbers 0 0 0);
  partner = λ q. slice_index (3 ∷ 6 ∷ 9 ∷ 0 ∷ 11 ∷ 7 ∷ 1 ∷ 5 ∷ 10 ∷ 2 ∷ 8 ∷ 4 ∷ []) q;
}

abbrev slanting : V3
slanting = light (pos 1) (pos 0) 1

-- it has two sunward triangles, and of the first four pixels of a row on the ground all but the first are struck once
pub record Tetrahedron : Type 0 where
  pub lawful : Lawful tetrahedron
  pub sunward : sunward_total tetrahedron slanting ≡ 2
  pub lit : depth_fail tetrahedron slanting (pixel_sample 0 0) (pos 0) ≡ pos 0
  pub shaded_first : depth_fail tetrahedron slanting (pixel_sample 1 0) (pos 0) ≡ pos 1
  pub shaded_second : depth_fail tetrahedron slanting (pixel_sample 2 0) (pos 0) ≡ pos 1
  pub shaded_third : depth_fail tetrahedron slanting (pixel_sample 3 0) (pos 0) ≡ pos 1
