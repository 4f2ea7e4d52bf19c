-- Fourteen worked cases: strikes, heights and marks.
use Rattle.std.specs.Prelude.{◌≡◌, pos, neg_ℤ, Some, None}
use Rattle.geometry.specs.Vectors.{vector}
use Rattle.geometry.specs.Cases as strike
use Rattle.survey.specs.Drawing.{sample_of, laid_at}
use Rattle.survey.specs.Survey.{mark_of}
use Rattle.survey.specs.declared.mark.Mark.TheVariants.{Shaded, Unsure, Lit}

pub record FourteenCases : Type 0 where
  -- eight of the strike test
  pub strikes : strike.Cases
  -- what a level triangle lays on a sample that it covers, and on one beside it; and what a slanting one lays, rounded downwards below 0
  pub level : laid_at (vector (pos 0) (pos 0) (pos 160)) (vector (pos 160) (pos 0) (pos 160)) (vector (pos 0) (pos 160) (pos 160)) (sample_of 2 1) ≡ Some (pos 161)
  pub beside : laid_at (vector (pos 0) (pos 0) (pos 160)) (vector (pos 160) (pos 0) (pos 160)) (vector (pos 0) (pos 160) (pos 160)) (sample_of 9 0) ≡ None
  pub below_zero : laid_at (vector (pos 0) (pos 0) (pos 0)) (vector (pos 160) (pos 0) (neg_ℤ (pos 10))) (vector (pos 0) (pos 160) (pos 0)) (sample_of 2 1) ≡ Some (neg_ℤ (pos 2))
  -- a count of 0 below the modulus and at it, and another count
  pub lit : mark_of 256 0 255 ≡ Lit
  pub in_doubt : mark_of 256 0 256 ≡ Unsure
  pub shaded : mark_of 256 1 300 ≡ Shaded
