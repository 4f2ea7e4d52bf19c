use Rattle.std.proofs.Common.{◌≡◌, ℕ, length, ap, arith}
use Rattle.std.proofs.lemmas.List.{length-set}
use Rattle.solids.specs.Chains.{key_at}
use Rattle.solids.proofs.Chains.{linked_none, linked_more}
use Rattle.solids.proofs.sides.Chains.link.Goals as goal

pub loop-place-init : goal.loop-place-init
loop-place-init c = (ap length c.requires.clear, rw c.requires.clear (linked_none c.args.triangles.now _))

pub loop-place-preserved : goal.loop-place-preserved
loop-place-preserved c =
    let e : c.key-key.result ≡ key_at c.args.triangles.now c.loop-place.place = cc in
    let full = c.loop-place.invariant.0 in (
      omega (arith, length-set {A = ℕ}),
      rw e (linked_more c.args.triangles.now c.loop-place.place c.loop-place.heads c.loop-place.links full (omega arith) c.loop-place.invariant.1),
    )
