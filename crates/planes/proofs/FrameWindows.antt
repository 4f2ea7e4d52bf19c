-- The window of a frame.
use Rattle.std.proofs.Common.{◌≡◌, ℕ, Bool, true, false, cond, ◌&&◌, ltb, leb, ℤ, pos, negsuc, refl, ◌∙◌, arith}
use lib.Signed.{lt_z, le_z}
use Rattle.std.proofs.lemmas.Bool.Decides.{nat_tests}
use Rattle.planes.specs.Planes.{PlaneModel, in_window}
use Rattle.planes.specs.declared.frame.Cutout.{Cutout}
use Rattle.planes.specs.Frames.{in_cutout, beginning, ending, open_to, framed}

-- ---- one direction: a number is in both ranges where it is from their later beginning to their earlier end
begins : (c : ℤ) (w i : ℕ) → leb (beginning c w) i ≡ (le_z c (pos i) && leb w i)
begins (pos n) w i = grind (arith, nat_tests)
begins (negsuc n) w i = grind (arith, nat_tests)

ends : (c : ℤ) (w i : ℕ) → ltb i (ending c w) ≡ (lt_z (pos i) c && ltb i w)
ends (pos n) w i = grind (arith, nat_tests)
ends (negsuc n) w i = grind (arith, nat_tests)

-- ranges that have nothing in common leave four zeros, between which there is nothing either
emptied : (s : Bool) (b0 e0 b1 e1 i j : ℕ) → s ≡ (ltb b0 e0 && ltb b1 e1)
    → ((leb (cond s b0 0) i && ltb i (cond s e0 0)) && (leb (cond s b1 0) j && ltb j (cond s e1 0))) ≡ ((leb b0 i && ltb i e0) && (leb b1 j && ltb j e1))
emptied true b0 e0 b1 e1 i j e = refl
emptied false b0 e0 b1 e1 i j e = grind (arith, nat_tests)

-- A pixel is in the window of a frame where it is in the cutout and in the window below.
pub window_framed : (m : PlaneModel) (cut : Cutout) (i j : ℕ) → in_window (framed m cut) i j ≡ (in_cutout cut i j && in_window m i j)
window_framed m cut i j =
    emptied (open_to m cut) (beginning cut.c0 m.c0) (ending cut.c1 m.c1) (beginning cut.r0 m.r0) (ending cut.r1 m.r1) i j refl
    ∙ rw (begins cut.c0 m.c0 i, ends cut.c1 m.c1 i, begins cut.r0 m.r0 j, ends cut.r1 m.r1 j)
    (grind arith)
