-- What the tests of limits say, as facts.
use Rattle.std.proofs.Common.{◌≡◌, true, ◌&&◌, ℤ, pos, neg_ℤ, ◌≤ℤ◌, arith}
use borrow.Author.Differences.{ints}
use lib.Signed.{le_z}
use Rattle.std.proofs.lemmas.Bool.{and_parts}
use Rattle.geometry.specs.Vectors.{V3}
use Rattle.geometry.specs.Limits.{between, in_limits, in_receiver_limits, in_run_limits, InLimits, InReceiverLimits, LawfulRun}
use Rattle.geometry.specs.Answers.{in_strike_limits}

pub between_low : (low high a : ℤ) → between low high a ≡ true → low ≤ℤ a
between_low low high a h = let p = and_parts (le_z low a) (le_z a high) h in grind (arith, ints)

pub between_high : (low high a : ℤ) → between low high a ≡ true → a ≤ℤ high
between_high low high a h = let p = and_parts (le_z low a) (le_z a high) h in grind (arith, ints)

-- ---- the tests of limits as records of facts
pub in_limits_lem : (u : V3) → in_limits u ≡ true → InLimits u
in_limits_lem u h =
    let p = and_parts (between (neg_ℤ (pos 8192)) (pos 8192) u.x && between (neg_ℤ (pos 8192)) (pos 8192) u.y) _ h in
    let q = and_parts (between (neg_ℤ (pos 8192)) (pos 8192) u.x) _ p.0 in
    record {
      x_low = between_low (neg_ℤ (pos 8192)) (pos 8192) u.x q.0;
      x_high = between_high (neg_ℤ (pos 8192)) (pos 8192) u.x q.0;
      y_low = between_low (neg_ℤ (pos 8192)) (pos 8192) u.y q.1;
      y_high = between_high (neg_ℤ (pos 8192)) (pos 8192) u.y q.1;
      z_low = between_low (neg_ℤ (pos 8192)) (pos 8192) u.z p.1;
      z_high = between_high (neg_ℤ (pos 8192)) (pos 8192) u.z p.1;
    }

pub in_receiver_limits_lem : (u : V3) → in_receiver_limits u ≡ true → InReceiverLimits u
in_receiver_limits_lem u h =
    let p = and_parts (between (neg_ℤ (pos 8192)) (pos 8192) u.x && between (neg_ℤ (pos 8192)) (pos 8192) u.y) _ h in
    let q = and_parts (between (neg_ℤ (pos 8192)) (pos 8192) u.x) _ p.0 in
    record {
      x_low = between_low (neg_ℤ (pos 8192)) (pos 8192) u.x q.0;
      x_high = between_high (neg_ℤ (pos 8192)) (pos 8192) u.x q.0;
      y_low = between_low (neg_ℤ (pos 8192)) (pos 8192) u.y q.1;
      y_high = between_high (neg_ℤ (pos 8192)) (pos 8192) u.y q.1;
      z_low = between_low (neg_ℤ (pos 8192)) (pos 8193) u.z p.1;
      z_high = between_high (neg_ℤ (pos 8192)) (pos 8193) u.z p.1;
    }

pub in_run_limits_lem : (d : V3) → in_run_limits d ≡ true → LawfulRun d
in_run_limits_lem d h =
    let p = and_parts (between (neg_ℤ (pos 1024)) (pos 1024) d.x && between (neg_ℤ (pos 1024)) (pos 1024) d.y) _ h in
    let q = and_parts (between (neg_ℤ (pos 1024)) (pos 1024) d.x) _ p.0 in
    record {
      x_low = between_low (neg_ℤ (pos 1024)) (pos 1024) d.x q.0;
      x_high = between_high (neg_ℤ (pos 1024)) (pos 1024) d.x q.0;
      y_low = between_low (neg_ℤ (pos 1024)) (pos 1024) d.y q.1;
      y_high = between_high (neg_ℤ (pos 1024)) (pos 1024) d.y q.1;
      z_low = between_low (neg_ℤ (pos 1024)) (neg_ℤ (pos 1)) d.z p.1;
      z_high = between_high (neg_ℤ (pos 1024)) (neg_ℤ (pos 1)) d.z p.1;
    }

-- all that the strike call tests
pub record StrikeLimits (a b c p : V3) : Type 0 where
  pub first : InLimits a
  pub second : InLimits b
  pub third : InLimits c
  pub receiver : InReceiverLimits p

pub strike_limits : (a b c p : V3) → in_strike_limits a b c p ≡ true → StrikeLimits a b c p
strike_limits a b c p h =
    let s = and_parts (in_limits a && in_limits b && in_limits c) (in_receiver_limits p) h in
    let t = and_parts (in_limits a && in_limits b) (in_limits c) s.0 in
    let u = and_parts (in_limits a) (in_limits b) t.0 in
    record { first = in_limits_lem a u.0; second = in_limits_lem b u.1; third = in_limits_lem c t.1; receiver = in_receiver_limits_lem p s.1 }
