use Rattle.std.proofs.Common.{true, false, sym, ◌∙◌, add-zero, arith}
use Rattle.geometry.specs.Light.{run_of}
use Rattle.survey.proofs.Volumes.{sunward_more}
use Rattle.survey.proofs.light.Light.count_sunward.Goals as goal
use Rattle.survey.proofs.light.Light.count_sunward.Goals.{then-is_sunward, else-is_sunward}

pub loop-number-preserved : goal.loop-number-preserved
loop-number-preserved g c =
    let S = g.S.Solid.model c.args.solid.now in
    let d = run_of c.args.self.run in
    let e = c.loop-number.invariant.0 in
    let low = c.loop-number.invariant.1 in
    elim c.if-is_sunward.branch [
      | then-is_sunward w ↦ (w.sunward-is ∙ sunward_more S d c.loop-number.number c.loop-number.sunward true w.if-is_sunward.ensures e, omega (arith, w.sunward-is))
      | else-is_sunward w ↦
          (w.sunward-is ∙ sym (add-zero c.loop-number.sunward) ∙ sunward_more S d c.loop-number.number c.loop-number.sunward false w.if-is_sunward.ensures e, omega (arith, w.sunward-is))
    ]
