-- The plane that one list holds, a pixel in each number of 32 bits: the low 15 bits are its height plus 8192, the other 17 its count.
use Rattle.std.specs.Prelude.{◌≡◌, ℕ, ◌/◌, ◌%◌, ◌≤◌, min, Bool, List, length, ℤ, pos, ◌-ℤ◌, ◌==◌, slice_index}
use Rattle.std.proofs.Common.{arith}
use Rattle.std.proofs.lemmas.Int.{ints}
use Rattle.planes.specs.Planes.{PlaneModel, Sound}
use Rattle.planes.specs.Stores.{StoreModel, SoundStore}
use Rattle.planes.specs.Rowwise.{fits, stored, stored_sound}

-- whether the list holds a plane of width w and h rows
abbrev pub packed_fits : ℕ → ℕ → List ℕ → Bool
packed_fits w h ps = fits w h (length ps)

-- Bits above those of the highest height read as the highest height.
abbrev pub height_in : ℕ → ℤ
height_in pixel = pos (min (pixel % 32768) 16385) -ℤ pos 8192

abbrev pub count_in : ℕ → ℕ
count_in pixel = pixel / 32768 % 131072

-- what the list keeps
abbrev pub pixels : List ℕ → StoreModel
pixels ps = record {
  places = length ps;
  modulus = 131072;
  height = λ at. height_in (slice_index ps at);
  count = λ at. count_in (slice_index ps at);
}

abbrev pub packed : ℕ → ℕ → List ℕ → PlaneModel
packed w h ps = stored (pixels ps) w h

-- ---- it keeps the limits
pub pixels_sound : (ps : List ℕ) → SoundStore (pixels ps)
pixels_sound ps = record {
  modulus_low = omega arith;
  modulus_high = omega arith;
  heights_low = λ n. omega (arith, ints);
  heights_high = λ n. omega (arith, ints);
  counts = λ n. omega arith;
}

pub packed_sound : (w h : ℕ) (ps : List ℕ) → w ≤ 256 → h ≤ 256 → (w == 0) ≡ (h == 0) → Sound (packed w h ps)
packed_sound w h ps narrow short whole = stored_sound (pixels ps) w h (pixels_sound ps) narrow short whole
