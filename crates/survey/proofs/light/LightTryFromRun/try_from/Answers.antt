use Rattle.std.proofs.Common.{◌≡◌, ℕ, Bool, true, false, cond, Ok, Err, Result, sym, refl, ◌∙◌, arith}
use Rattle.std.proofs.lemmas.Grind.{common_steps}
use Rattle.geometry.specs.Light.{run_of}
use Rattle.geometry.specs.Limits.{in_run_limits}
use Rattle.geometry.specs.declared.refusal.Refusal.{Refusal}
use Rattle.geometry.specs.declared.refusal.Refusal.TheVariants as refusal
use Rattle.volumes.specs.Machine.{extent_of}
use Rattle.survey.proofs.light.LightTryFromRun.try_from.Goals as goal

-- a test that gave an Err
tested : {X : Type 0} (b : Bool) (x : X) (why other : Refusal) → cond {A = Result X Refusal} b (Ok x) (Err why) ≡ Err other → (b ≡ false) × (other ≡ why)
tested true x why other e = let z : ◌≡◌ {A = ℕ} 0 1 = cc in absurd (omega arith)
tested false x why other e = (refl, cc)

pub returns-in_err-extent : goal.returns-in_err-extent
returns-in_err-extent c =
    let is : extent_of c.args.run ≡ Err c.in_err-extent.field-0.0 = sym c.extent.ensures ∙ c.in_err-extent.was in
    let r : (in_run_limits (run_of c.args.run) ≡ false) × (c.in_err-extent.field-0.0 ≡ refusal.Run) = tested (in_run_limits (run_of c.args.run)) _ refusal.Run _ is in
    grind (arith, common_steps, r)
