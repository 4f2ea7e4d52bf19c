-- Planes whose pixels lie row by row, each at the place of its row and column. The whole plane is the window.
use Rattle.std.specs.Prelude.{◌≡◌, ℕ, zero, suc, ◌+◌, ◌*◌, ◌<◌, ◌≤◌, Bool, true, false, cond, ◌&&◌, ◌⊎◌, ℤ, pos, neg_ℤ, ◌≤ℤ◌, Some, None, Ok, Err, Option, Result, ◌==◌, nat_le, nat_lt, refl}
use Rattle.std.proofs.Common.{sym, ◌∙◌, inl, inr, arith}
use Rattle.std.proofs.lemmas.Int.{ints}
use Rattle.std.proofs.lemmas.Bool.{true≢false, ne_eqb}
use Rattle.geometry.specs.declared.refusal.Refusal.{Refusal}
use Rattle.geometry.specs.declared.refusal.Refusal.TheVariants as refusal
use Rattle.planes.specs.Planes.{PlaneModel, Sound}
use Rattle.planes.specs.Stores.{StoreModel, SoundStore}

-- whether a list of n places holds the pixels of a plane of width w and h rows, one at each place
abbrev pub fits : ℕ → ℕ → ℕ → Bool
fits w h n = (nat_le 1 w && nat_le w 256) && ((nat_le 1 h && nat_le h 256) && n == w * h)

-- what a check of the lists answers
abbrev pub verdict : Bool → Result (Unit {0}) Refusal
verdict fit = cond fit (Ok tt) (Err refusal.Plane)

-- the place of the pixel in column i and row j; none outside the plane
abbrev pub place_of : ℕ → ℕ → ℕ → ℕ → Option ℕ
place_of w h i j = cond (nat_lt i w && nat_lt j h) (Some (j * w + i)) None

-- what the place of a pixel holds; d outside the plane
abbrev pub seen : {A : Type 0} → ℕ → ℕ → A → (ℕ → A) → ℕ → ℕ → A
seen w h d held i j = cond (nat_lt i w && nat_lt j h) (held (j * w + i)) d

-- the plane of which each place holds a height and a count
abbrev pub rowwise : ℕ → ℕ → ℕ → (ℕ → ℤ) → (ℕ → ℕ) → PlaneModel
rowwise modulus w h heights counts = record {
  width = w;
  rows = h;
  modulus = modulus;
  c0 = 0;
  r0 = 0;
  c1 = w;
  r1 = h;
  height = seen w h (pos 0) heights;
  count = seen w h 0 counts;
}

-- the plane that a store keeps
abbrev pub stored : StoreModel → ℕ → ℕ → PlaneModel
stored s w h = rowwise s.modulus w h s.height s.count

-- ---- it keeps the limits
-- both sides are 0, or neither
sides : (w h : ℕ) → (w == 0) ≡ (h == 0) → ((0 < w) × (0 < h)) ⊎ ((◌≡◌ {A = ℕ} 0 0) × (◌≡◌ {A = ℕ} 0 0) × (w ≡ 0) × (h ≡ 0))
sides zero zero e = inr (refl, refl, refl, refl)
sides (suc w) (suc h) e = inl (omega arith, omega arith)
sides zero (suc h) e = absurd (true≢false (e ∙ ne_eqb (suc h) 0 (λ p. omega arith)))
sides (suc w) zero e = absurd (true≢false (sym e ∙ ne_eqb (suc w) 0 (λ p. omega arith)))

pub rowwise_sound : (modulus w h : ℕ) (heights : ℕ → ℤ) (counts : ℕ → ℕ) → 2 ≤ modulus → modulus ≤ 1048576 → w ≤ 256 → h ≤ 256
    → (w == 0) ≡ (h == 0) → ((n : ℕ) → neg_ℤ (pos 8192) ≤ℤ heights n) → ((n : ℕ) → heights n ≤ℤ pos 8193) → ((n : ℕ) → counts n < modulus)
    → Sound (rowwise modulus w h heights counts)
rowwise_sound modulus w h heights counts low high narrow short whole heights_low heights_high below = record {
  narrow = narrow;
  short = short;
  modulus_low = low;
  modulus_high = high;
  columns = omega arith;
  lines = omega arith;
  window = sides w h whole;
  heights_low = λ i j.
      elim (nat_lt i w && nat_lt j h) as (λ b. neg_ℤ (pos 8192) ≤ℤ cond b (heights (j * w + i)) (pos 0)) [ true ↦ heights_low (j * w + i) | false ↦ omega (arith, ints) ];
  heights_high = λ i j.
      elim (nat_lt i w && nat_lt j h) as (λ b. cond b (heights (j * w + i)) (pos 0) ≤ℤ pos 8193) [ true ↦ heights_high (j * w + i) | false ↦ omega (arith, ints) ];
  counts = λ i j. elim (nat_lt i w && nat_lt j h) as (λ b. cond b (counts (j * w + i)) 0 < modulus) [ true ↦ below (j * w + i) | false ↦ omega arith ];
}

pub stored_sound : (s : StoreModel) (w h : ℕ) → SoundStore s → w ≤ 256 → h ≤ 256 → (w == 0) ≡ (h == 0) → Sound (stored s w h)
stored_sound s w h good narrow short whole =
    rowwise_sound s.modulus w h s.height s.count good.modulus_low good.modulus_high narrow short whole good.heights_low good.heights_high good.counts
