use Rattle.std.proofs.Common.{◌≡◌, ℤ, Ok, Err, Result, w64, SFits, rules}
use Rattle.std.proofs.lemmas.Result.{err_from_is_err_and}
use Rattle.geometry.specs.declared.refusal.Refusal.{Refusal}
use Rattle.volumes.specs.Machine.{reach_of}
use Rattle.volumes.proofs.Sweep.{refused, near, part_fits, answered}
use Rattle.volumes.proofs.reach.extent.Goals as goal

pub returns-in_err-times : goal.returns-in_err-times
returns-in_err-times c =
    let h : ◌≡◌ {A = Result ℤ Refusal} (Err c.in_err-times.field-0.0) (reach_of c.args.run) = search rules in
    let p = err_from_is_err_and c.from_residual.result c.from_residual.ensures.1 in
    rw (p.1, p.2) (refused c.args.run c.in_err-times.field-0.0 h)

pub overflow_mul-result : goal.overflow_mul-result
overflow_mul-result c =
    let k = c.in_ok-times.times in
    let h : ◌≡◌ {A = Result ℤ Refusal} (Ok k) (reach_of c.args.run) = search rules in
    let f : SFits w64 k = search rules in
    let g : SFits w64 c.args.run.dx = search rules in
    part_fits c.args.run k h f c.args.run.dx g (near c.args.run k h).x

pub overflow_mul-result-2 : goal.overflow_mul-result-2
overflow_mul-result-2 c =
    let k = c.in_ok-times.times in
    let h : ◌≡◌ {A = Result ℤ Refusal} (Ok k) (reach_of c.args.run) = search rules in
    let f : SFits w64 k = search rules in
    let g : SFits w64 c.args.run.dy = search rules in
    part_fits c.args.run k h f c.args.run.dy g (near c.args.run k h).y

pub overflow_mul-result-3 : goal.overflow_mul-result-3
overflow_mul-result-3 c =
    let k = c.in_ok-times.times in
    let h : ◌≡◌ {A = Result ℤ Refusal} (Ok k) (reach_of c.args.run) = search rules in
    let f : SFits w64 k = search rules in
    let g : SFits w64 c.args.run.dz = search rules in
    part_fits c.args.run k h f c.args.run.dz g (near c.args.run k h).z

pub returns : goal.returns
returns c =
    let k = c.in_ok-times.times in
    let h : ◌≡◌ {A = Result ℤ Refusal} (Ok k) (reach_of c.args.run) = search rules in
    let f : SFits w64 k = search rules in
    let x : SFits w64 c.args.run.dx = search rules in
    let y : SFits w64 c.args.run.dy = search rules in
    let z : SFits w64 c.args.run.dz = search rules in
    answered c.args.run k h f x y z
