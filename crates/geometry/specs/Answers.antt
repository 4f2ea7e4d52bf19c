-- What the strike call answers.
use Rattle.std.specs.Prelude.{ℕ, Bool, true, false, cond, ◌&&◌, Ok, Err, Result}
use Rattle.geometry.specs.Vectors.{V3}
use Rattle.geometry.specs.Limits.{in_limits, in_receiver_limits, in_run_limits}
use Rattle.geometry.specs.Strikes.{strikes}
use Rattle.geometry.specs.Refusals.{number_of}
use Rattle.geometry.specs.declared.refusal.Refusal.{Refusal}
use Rattle.geometry.specs.declared.refusal.Refusal.TheVariants as refusal

-- the coordinates of a triangle and a receiver are within their limits
abbrev pub in_strike_limits : V3 → V3 → V3 → V3 → Bool
in_strike_limits a b c p = in_limits a && in_limits b && in_limits c && in_receiver_limits p

-- first the coordinates are tested, then the run; else the answer is whether the triangle a b c strikes p
abbrev pub struck_or_refused : V3 → V3 → V3 → V3 → V3 → Result Bool Refusal
struck_or_refused d a b c p =
    cond (in_strike_limits a b c p) (cond (in_run_limits d) (Ok (strikes d a b c p)) (Err refusal.Run)) (Err refusal.Coordinate)

-- what a caller in C is told: 0 for no, 1 for yes, else the refusal's number
abbrev pub told_in_c : Result Bool Refusal → ℕ
told_in_c (Ok false) = 0
told_in_c (Ok true) = 1
told_in_c (Err e) = number_of e
