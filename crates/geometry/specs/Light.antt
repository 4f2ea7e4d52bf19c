-- The light: runs, the way it travels, and bearings, the way to the sun.
use Rattle.std.specs.Prelude.{cond, neg_ℤ, Ok, Err, Result}
use Rattle.geometry.specs.Vectors.{V3, vector}
use Rattle.geometry.specs.Limits.{in_run_limits}
use Rattle.geometry.specs.declared.light.Run.{Run}
use Rattle.geometry.specs.declared.light.Bearing.{Bearing}
use Rattle.geometry.specs.declared.refusal.Refusal.{Refusal}
use Rattle.geometry.specs.declared.refusal.Refusal.TheVariants as refusal

abbrev pub run_of : Run → V3
run_of d = vector d.dx d.dy d.dz

-- ---- turning the way to the sun into the way of the light
abbrev pub opposite : Bearing → Run
opposite b = record { dx = neg_ℤ b.dx; dy = neg_ℤ b.dy; dz = neg_ℤ b.dz }

abbrev pub turned : Bearing → Result Run Refusal
turned b = cond (in_run_limits (run_of (opposite b))) (Ok (opposite b)) (Err refusal.Run)
