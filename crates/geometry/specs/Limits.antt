-- The limits of coordinates and runs, as tests that the code makes and as facts that the proofs use.
use Rattle.std.specs.Prelude.{Bool, ◌&&◌, ℤ, pos, neg_ℤ, ◌≤ℤ◌, int_le}
use Rattle.geometry.specs.Vectors.{V3}

abbrev pub between : ℤ → ℤ → ℤ → Bool
between low high a = int_le low a && int_le a high

-- ---- coordinates: from −8192 to 8192; the z of a receiver, which may lie one step above a corner, up to 8193
abbrev pub in_limits_under : ℤ → V3 → Bool
in_limits_under top u =
    between (neg_ℤ (pos 8192)) (pos 8192) u.x && between (neg_ℤ (pos 8192)) (pos 8192) u.y && between (neg_ℤ (pos 8192)) top u.z

abbrev pub in_limits : V3 → Bool
in_limits = in_limits_under (pos 8192)

abbrev pub in_receiver_limits : V3 → Bool
in_receiver_limits = in_limits_under (pos 8193)

-- a corner's coordinates are within their limits
pub record InLimits (u : V3) : Type 0 where
  pub x_low : neg_ℤ (pos 8192) ≤ℤ u.x
  pub x_high : u.x ≤ℤ pos 8192
  pub y_low : neg_ℤ (pos 8192) ≤ℤ u.y
  pub y_high : u.y ≤ℤ pos 8192
  pub z_low : neg_ℤ (pos 8192) ≤ℤ u.z
  pub z_high : u.z ≤ℤ pos 8192

-- ---- runs: the light always falls
abbrev pub in_run_limits : V3 → Bool
in_run_limits d =
    between (neg_ℤ (pos 1024)) (pos 1024) d.x && between (neg_ℤ (pos 1024)) (pos 1024) d.y && between (neg_ℤ (pos 1024)) (neg_ℤ (pos 1)) d.z

-- the way the light travels, within its limits
pub record LawfulRun (d : V3) : Type 0 where
  pub x_low : neg_ℤ (pos 1024) ≤ℤ d.x
  pub x_high : d.x ≤ℤ pos 1024
  pub y_low : neg_ℤ (pos 1024) ≤ℤ d.y
  pub y_high : d.y ≤ℤ pos 1024
  pub z_low : neg_ℤ (pos 1024) ≤ℤ d.z
  pub z_high : d.z ≤ℤ neg_ℤ (pos 1)

-- the same of a receiver, which may lie one step higher than a corner
pub record InReceiverLimits (u : V3) : Type 0 where
  pub x_low : neg_ℤ (pos 8192) ≤ℤ u.x
  pub x_high : u.x ≤ℤ pos 8192
  pub y_low : neg_ℤ (pos 8192) ≤ℤ u.y
  pub y_high : u.y ≤ℤ pos 8192
  pub z_low : neg_ℤ (pos 8192) ≤ℤ u.z
  pub z_high : u.z ≤ℤ pos 8193
