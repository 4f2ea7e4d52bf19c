-- The plane that a list of heights and a list of counts hold.
use Rattle.std.specs.Prelude.{◌≡◌, ℕ, ◌%◌, ◌≤◌, min, Bool, ◌&&◌, List, length, ℤ, pos, neg_ℤ, ◌≤ℤ◌, ◌==◌, slice_index, slice_index_or}
use Rattle.std.proofs.Common.{arith}
use Rattle.std.specs.Int.{int_max, int_min}
use Rattle.std.proofs.lemmas.Int.{ints, clamps}
use Rattle.planes.specs.Planes.{PlaneModel, Sound}
use Rattle.planes.specs.Stores.{StoreModel, SoundStore}
use Rattle.planes.specs.Rowwise.{fits, stored, stored_sound}

-- whether the lists hold a plane of width w and h rows
abbrev pub linear_fits : ℕ → ℕ → List ℤ → List ℕ → Bool
linear_fits w h hs cs = fits w h (length hs) && fits w h (length cs)

-- the height nearest to a number
abbrev pub clamped : ℤ → ℤ
clamped z = int_max (neg_ℤ (pos 8192)) (int_min z (pos 8193))

-- A number that is no height reads as the nearest height. A count is the number that is stored, which is below 65536.
abbrev pub height_at : List ℤ → ℕ → ℤ
height_at hs at = clamped (slice_index_or hs at (pos 0))

abbrev pub count_at : List ℕ → ℕ → ℕ
count_at cs at = slice_index cs at % 65536

-- what the lists keep at the places that both have
abbrev pub lists : List ℤ → List ℕ → StoreModel
lists hs cs = record { places = min (length hs) (length cs); modulus = 65536; height = height_at hs; count = count_at cs }

abbrev pub linear : ℕ → ℕ → List ℤ → List ℕ → PlaneModel
linear w h hs cs = stored (lists hs cs) w h

-- ---- it keeps the limits
pub clamped_low : (z : ℤ) → neg_ℤ (pos 8192) ≤ℤ clamped z
clamped_low z = omega (arith, ints, clamps)

pub clamped_high : (z : ℤ) → clamped z ≤ℤ pos 8193
clamped_high z = omega (arith, ints, clamps)

pub lists_sound : (hs : List ℤ) (cs : List ℕ) → SoundStore (lists hs cs)
lists_sound hs cs = record {
  modulus_low = omega arith;
  modulus_high = omega arith;
  heights_low = λ n. clamped_low (slice_index_or hs n (pos 0));
  heights_high = λ n. clamped_high (slice_index_or hs n (pos 0));
  counts = λ n. omega arith;
}

pub linear_sound : (w h : ℕ) (hs : List ℤ) (cs : List ℕ) → w ≤ 256 → h ≤ 256 → (w == 0) ≡ (h == 0) → Sound (linear w h hs cs)
linear_sound w h hs cs narrow short whole = stored_sound (lists hs cs) w h (lists_sound hs cs) narrow short whole
