-- A plane seen through a cutout: only the part of its window that lies in the cutout may be drawn on.
use Rattle.std.specs.Prelude.{◌≡◌, ℕ, ◌<◌, ◌≤◌, min, max, Bool, true, false, cond, ◌&&◌, ◌⊎◌, ℤ, pos, negsuc, int_le, int_lt, nat_lt, refl}
use Rattle.std.proofs.Common.{sym, inl, inr, arith}
use Rattle.std.proofs.lemmas.Bool.{and_parts, ltb-true}
use Rattle.planes.specs.Planes.{PlaneModel, Sound, SameShape}
use Rattle.planes.specs.declared.frame.Cutout.{Cutout}
use Rattle.planes.specs.declared.frame.Frame.{Frame}

-- a cutout is any four numbers: columns c0 to c1 − 1 and rows r0 to r1 − 1. Whether a pixel lies in it
abbrev pub in_cutout : Cutout → ℕ → ℕ → Bool
in_cutout cut i j = (int_le cut.c0 (pos i) && int_lt (pos i) cut.c1) && (int_le cut.r0 (pos j) && int_lt (pos j) cut.r1)

-- no pixel has a negative number, so a cutout may as well begin, and end, at 0
abbrev pub at_least0 : ℤ → ℕ
at_least0 (pos n) = n
at_least0 (negsuc n) = 0

-- where the numbers that are in both ranges begin and end
abbrev pub beginning : ℤ → ℕ → ℕ
beginning c w = max (at_least0 c) w

abbrev pub ending : ℤ → ℕ → ℕ
ending c w = min (at_least0 c) w

-- whether a cutout and a window (its columns a0 to a1 − 1, its rows b0 to b1 − 1) have a pixel in common
abbrev pub shared : Cutout → ℕ → ℕ → ℕ → ℕ → Bool
shared cut a0 b0 a1 b1 = nat_lt (beginning cut.c0 a0) (ending cut.c1 a1) && nat_lt (beginning cut.r0 b0) (ending cut.r1 b1)

abbrev pub open_to : PlaneModel → Cutout → Bool
open_to m cut = shared cut m.c0 m.r0 m.c1 m.r1

-- the plane below, whose window is now what it has in common with the cutout: four zeros if that is nothing
abbrev pub framed : PlaneModel → Cutout → PlaneModel
framed m cut = record {
  width = m.width;
  rows = m.rows;
  modulus = m.modulus;
  c0 = cond (open_to m cut) (beginning cut.c0 m.c0) 0;
  r0 = cond (open_to m cut) (beginning cut.r0 m.r0) 0;
  c1 = cond (open_to m cut) (ending cut.c1 m.c1) 0;
  r1 = cond (open_to m cut) (ending cut.r1 m.r1) 0;
  height = m.height;
  count = m.count;
}

-- what no change alters: the cutout, and the shape of the plane below
pub record KeepsFrame {P : Type 0} (model : P → PlaneModel) (f g : Frame P) : Type 0 where
  pub cutout : g.cutout ≡ f.cutout
  pub below : SameShape (model f.below) (model g.below)

-- ---- it keeps the limits
at_most : (s : Bool) (a b w : ℕ) → b ≤ w → cond s (min a b) 0 ≤ w
at_most true a b w h = omega arith
at_most false a b w h = omega arith

window_of : (s : Bool) (b0 b1 e0 e1 : ℕ) → s ≡ (nat_lt b0 e0 && nat_lt b1 e1)
    → ((cond s b0 0 < cond s e0 0) × (cond s b1 0 < cond s e1 0)) ⊎ ((cond s b0 0 ≡ 0) × (cond s b1 0 ≡ 0) × (cond s e0 0 ≡ 0) × (cond s e1 0 ≡ 0))
window_of true b0 b1 e0 e1 e = let p = and_parts (nat_lt b0 e0) (nat_lt b1 e1) (sym e) in inl (ltb-true b0 e0 p.0, ltb-true b1 e1 p.1)
window_of false b0 b1 e0 e1 e = inr (refl, refl, refl, refl)

pub framed_sound : (m : PlaneModel) (cut : Cutout) → Sound m → Sound (framed m cut)
framed_sound m cut s = record {
  narrow = s.narrow;
  short = s.short;
  modulus_low = s.modulus_low;
  modulus_high = s.modulus_high;
  columns = at_most (open_to m cut) (at_least0 cut.c1) m.c1 m.width s.columns;
  lines = at_most (open_to m cut) (at_least0 cut.r1) m.r1 m.rows s.lines;
  window = window_of (open_to m cut) (beginning cut.c0 m.c0) (beginning cut.r0 m.r0) (ending cut.c1 m.c1) (ending cut.r1 m.r1) refl;
  heights_low = s.heights_low;
  heights_high = s.heights_high;
  counts = s.counts;
}
