use Rattle.std.proofs.Common.{◌≡◌, ◌^◌, ◌≤◌, true, false, ℤ, pos, ◌+ℤ◌, neg_ℤ, nat_abs, ◌≤ℤ◌, ◌<ℤ◌, sym, ap, ◌∙◌, arith, lit<, w64}
use lib.Signed.{lt_z}
use Rattle.std.proofs.lemmas.Int.{ints}
use Rattle.algebra.proofs.Machine.{back}
use Rattle.volumes.specs.Heights.{floor_ratio}
use Rattle.survey.specs.declared.raster.tilts.Tilt.{Tilt}
use Rattle.survey.proofs.TiltLaws.{read, least_above, least_under}
use Rattle.survey.proofs.raster.tilts.Tilt.least_over.Goals as goal

read_ground : (z : ℤ) → nat_abs z ≤ 2 ^ 62 → back w64 z ≡ z
read_ground z h = read z (2 ^ 62) h (lit< tt)

read_height : (t : Tilt) → back w64 t.height ≡ t.height
read_height t = read t.height (2 ^ 40) t.height_near (lit< tt)

above : (z : ℤ) → nat_abs z ≤ 2 ^ 62 → lt_z (pos 0) (back w64 z) ≡ true → pos 0 <ℤ z
above z h e = told z (ap (lt_z (pos 0)) (sym (read_ground z h)) ∙ e)
  where
    told : (z : ℤ) → lt_z (pos 0) z ≡ true → pos 0 <ℤ z
    told z e = omega (arith, ints)

under : (z : ℤ) → nat_abs z ≤ 2 ^ 62 → lt_z (pos 0) (back w64 z) ≡ false → z ≤ℤ pos 0
under z h e = told z (ap (lt_z (pos 0)) (sym (read_ground z h)) ∙ e)
  where
    told : (z : ℤ) → lt_z (pos 0) z ≡ false → z ≤ℤ pos 0
    told z e = omega (arith, ints)

pub returns-then-ground-gt0 : goal.returns-then-ground-gt0
returns-then-ground-gt0 c =
    let t : Tilt = c.args.self.now in
    let z : ℤ = c.ground-ground.result in
    let n : nat_abs z ≤ 2 ^ 62 = c.ground-ground.ensures.near in
    least_above z t.height c.unsigned_abs.result c.unsigned_abs-rise.result n (above z n c.if-ground-gt0.true) t.rises
    (c.unsigned_abs.ensures.value ∙ ap nat_abs (read_ground z n)) (c.unsigned_abs-rise.ensures.value ∙ ap nat_abs (read_height t))
    ∙ ap (λ (x : ℤ). floor_ratio (neg_ℤ x) t.height +ℤ pos 1) c.ground-ground.ensures.is

pub returns-else-ground-gt0 : goal.returns-else-ground-gt0
returns-else-ground-gt0 c =
    let t : Tilt = c.args.self.now in
    let z : ℤ = c.ground-ground.result in
    let n : nat_abs z ≤ 2 ^ 62 = c.ground-ground.ensures.near in
    least_under z t.height c.unsigned_abs-else-ground-gt0.result c.unsigned_abs-rise.result n (under z n c.if-ground-gt0.false) t.rises
    (c.unsigned_abs-else-ground-gt0.ensures.value ∙ ap nat_abs (read_ground z n)) (c.unsigned_abs-rise.ensures.value ∙ ap nat_abs (read_height t))
    ∙ ap (λ (x : ℤ). floor_ratio (neg_ℤ x) t.height +ℤ pos 1) c.ground-ground.ensures.is
