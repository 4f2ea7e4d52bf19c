-- What the code holds and answers, in the words of the other specs.
use Rattle.std.specs.Prelude.{cond, List, [], ◌∷◌, ℤ, pos, negsuc, Some, None, Ok, Err, Option, Result}
use Rattle.geometry.specs.Vectors.{V3}
use Rattle.geometry.specs.Machine.{vector_of}
use Rattle.geometry.specs.Limits.{in_run_limits}
use Rattle.geometry.specs.Light.{run_of}
use Rattle.geometry.specs.Signs.{Sign, Negative, Zero, Positive}
use Rattle.geometry.specs.declared.light.Run.{Run}
use Rattle.geometry.specs.declared.units.Step.{Step}
use Rattle.geometry.specs.declared.refusal.Refusal.{Refusal}
use Rattle.geometry.specs.declared.refusal.Refusal.TheVariants as refusal
use Rattle.volumes.specs.Faces as faces
use Rattle.volumes.specs.Extent.{reach, extent}
use Rattle.volumes.specs.declared.cover.Cover.{Cover}
use Rattle.volumes.specs.declared.cover.Cover.TheVariants.{Up, Down, Beside}
use Rattle.volumes.specs.declared.cover.Sample.{Sample}
use Rattle.volumes.specs.declared.face.Face.{Face}

-- ---- faces and samples
abbrev pub fourth_of : Option (List ℤ) → List V3
fourth_of None = []
fourth_of (Some u) = vector_of u ∷ []

abbrev pub face_of : Face → faces.Face
face_of f = record { first = vector_of f.first; others = vector_of f.second ∷ vector_of f.third ∷ fourth_of f.fourth; normal = vector_of f.normal }

abbrev pub sample_of : Sample → faces.Sample
sample_of p = record { x = p.x.0; y = p.y.0 }

-- a height, where there is one
abbrev pub step_of : Option Step → Option ℤ
step_of None = None
step_of (Some z) = Some z.0

-- ---- how a face covers a sample, by its side signs
abbrev pub cover_by : List Sign → Cover
cover_by ss = cond (faces.all_positive ss) Up (cond (faces.all_negative ss) Down Beside)

-- the same with one more side
abbrev pub cover_along : Cover → Sign → Cover
cover_along Up Negative = Beside
cover_along Up Zero = Beside
cover_along Up Positive = Up
cover_along Down Negative = Down
cover_along Down Zero = Beside
cover_along Down Positive = Beside
cover_along Beside s = Beside

-- what a face that covers so adds to the count of a receiver above it
abbrev pub weight_of : Cover → ℤ
weight_of Up = negsuc 0
weight_of Down = pos 1
weight_of Beside = pos 0

-- ---- how far a triangle is swept, or a refusal where the run is outside its limits
abbrev pub reach_of : Run → Result ℤ Refusal
reach_of d = cond (in_run_limits (run_of d)) (Ok (pos (reach (run_of d)))) (Err refusal.Run)

-- the vector as the code holds it
abbrev pub list_of : V3 → List ℤ
list_of u = u.x ∷ u.y ∷ u.z ∷ []

abbrev pub extent_of : Run → Result (List ℤ) Refusal
extent_of d = cond (in_run_limits (run_of d)) (Ok (list_of (extent (run_of d)))) (Err refusal.Run)
