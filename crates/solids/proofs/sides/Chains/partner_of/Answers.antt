use Rattle.std.proofs.Common.{◌≡◌, ℕ, suc, ◌-◌, sym, ◌∙◌, arith}
use Rattle.solids.specs.Tables.{Same, Reverse}
use Rattle.solids.proofs.Chains.{walk_ends, walk_passes, walk_finds, twice_back, alike, unlike, none_left, some_there}
use Rattle.solids.proofs.sides.Chains.partner_of.Goals as goal
use Rattle.solids.proofs.sides.Chains.partner_of.Goals.{else-eq-via-then-eq+else-here-place, else-eq-via-else-eq, then-eq-2+else-is_some, else-eq-2}

pub returns-then-is_some : goal.returns-then-is_some
returns-then-is_some c =
    let ts = c.args.self.now.triangles.now in
    let q = c.args.place in
    let p : ℕ = c.loop-ahead.ahead - 1 in
    let one_more : c.loop-ahead.ahead ≡ suc p = omega arith in
    let walked = rw one_more at c.loop-ahead.invariant in
    let b = alike c.at-other.result c.reversed-reverse.result (sym c.eq-in-loop-ahead.ensures ∙ c.if-eq-2.true) in
    let back : Reverse ts p q = (cc, cc) in
    let x = some_there c.loop-ahead.found (sym c.if-is_some.ensures) in
    twice_back ts _ _ c.args.self.now.linked q p c.loop-ahead.found walked x.0 x.1 back

pub returns : goal.returns
returns c =
    let ends : c.loop-ahead.ahead ≡ 0 = omega arith in
    walk_ends c.args.self.now.triangles.now c.args.place c.loop-ahead.found (rw ends at c.loop-ahead.invariant)

pub loop-ahead-preserved : goal.loop-ahead-preserved
loop-ahead-preserved c =
    let ts = c.args.self.now.triangles.now in
    let q = c.args.place in
    let p : ℕ = c.loop-ahead.ahead - 1 in
    let one_more : c.loop-ahead.ahead ≡ suc p = omega arith in
    let walked = rw one_more at c.loop-ahead.invariant in
    let own : Same ts p q → p ≡ q =
    elim c.else-eq.branch [
      | else-eq-via-then-eq+else-here-place w ↦ λ _. w.if-here-place.false
      | else-eq-via-else-eq w ↦ λ s. absurd (unlike c.at-other.result c.at-side.result (sym c.eq.ensures ∙ w.if-eq.false) (cc, cc))
    ] in
    elim c.if-eq-2.branch [
      | then-eq-2+else-is_some w ↦
          let b = alike c.at-other.result c.reversed-reverse.result (sym c.eq-in-loop-ahead.ensures ∙ w.if-eq-2.true) in
          let back : Reverse ts p q = (cc, cc) in
          rw w.found-is (walk_finds ts _ _ c.args.self.now.linked q p c.loop-ahead.found walked own back (none_left _ (sym w.if-is_some.ensures)))
      | else-eq-2 w ↦
          let not_back : Reverse ts p q → ⊥ = λ s. unlike c.at-other.result c.reversed-reverse.result (sym c.eq-in-loop-ahead.ensures ∙ w.if-eq-2.false) (cc, cc) in
          rw w.found-is (walk_passes ts _ _ c.args.self.now.linked q p c.loop-ahead.found walked own not_back)
    ]
