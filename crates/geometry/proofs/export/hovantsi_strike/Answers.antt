use Rattle.std.proofs.Common.{◌≡◌, ℤ, ap, ◌∙◌, w64, SFits, to_z, of_z}
use Rattle.std.proofs.lemmas.Int.{to_z-of_z}
use Rattle.geometry.specs.Vectors.{vector}
use Rattle.geometry.specs.Answers.{struck_or_refused, told_in_c}
use Rattle.geometry.proofs.export.hovantsi_strike.Goals as goal

-- three numbers that are passed on are a vector
passed : (x y z : ℤ) → SFits w64 x → SFits w64 y → SFits w64 z → vector (to_z w64 (of_z w64 x)) (to_z w64 (of_z w64 y)) (to_z w64 (of_z w64 z)) ≡ vector x y z
passed x y z f g h = λ i. vector (to_z-of_z w64 x f i) (to_z-of_z w64 y g i) (to_z-of_z w64 z h i)

pub returns : goal.returns
returns c =
    let d = passed _ _ _ c.ranges.dx c.ranges.dy c.ranges.dz in
    let a = c.new-a.ensures ∙ passed _ _ _ c.ranges.ax c.ranges.ay c.ranges.az in
    let b = c.new-b.ensures ∙ passed _ _ _ c.ranges.bx c.ranges.by c.ranges.bz in
    let t = c.new-c.ensures ∙ passed _ _ _ c.ranges.cx c.ranges.cy c.ranges.cz in
    let p = c.new.ensures ∙ passed _ _ _ c.ranges.px c.ranges.py c.ranges.pz in
    c.told.ensures ∙ ap told_in_c (c.strike.ensures ∙ (λ i. struck_or_refused (d i) (a i) (b i) (t i) (p i)))
