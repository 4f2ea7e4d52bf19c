use Rattle.std.proofs.Common.{◌≡◌, ◌≤◌}
use Rattle.geometry.specs.Light.{run_of}
use Rattle.survey.specs.Changes.{sunward_below}
use Rattle.survey.proofs.light.Light.count_sunward.Given as goal

-- those below `number` are counted
abbrev pub invariant-loop-number : goal.invariant-loop-number
invariant-loop-number g l = (l.sunward ≡ sunward_below (g.S.Solid.model l.solid) (run_of l.self.run) l.number) × (l.sunward ≤ l.number)
