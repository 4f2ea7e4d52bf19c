use Rattle.std.proofs.Common.{◌≡◌, ℕ, ℤ, nat_abs, ap, ◌∙◌, arith, w64, SFits, to_z, of_z}
use Rattle.std.proofs.lemmas.Int.{ints, to_z-of_z}
use Rattle.survey.proofs.SpanCuts.{rising, falling, all_after_lem, some_after, none_after, some_before, all_before}
use Rattle.survey.proofs.raster.spans.Span.cut.Goals as goal

size : (z : ℤ) (n : ℕ) → SFits w64 z → n ≡ nat_abs (to_z w64 (of_z w64 z)) → n ≡ nat_abs z
size z n f e = e ∙ ap nat_abs (to_z-of_z w64 z f)

pub returns-then-last_out-self : goal.returns-then-last_out-self
returns-then-last_out-self c i =
    all_after_lem _ _ i _ _
    (rising c.args.slope c.args.start i _ _ (omega (arith, ints)) (omega (arith, ints)) (size _ _ c.ranges.slope c.unsigned_abs-then-slope-gt0.ensures.value) (size _ _ c.ranges.start c.unsigned_abs.ensures.value))
    c.if-last_out-self.true

pub returns-then-last_out-self-2 : goal.returns-then-last_out-self-2
returns-then-last_out-self-2 c i =
    some_after c.args.self.lo _ i _ _
    (rising c.args.slope c.args.start i _ _ (omega (arith, ints)) (omega (arith, ints)) (size _ _ c.ranges.slope c.unsigned_abs-then-slope-gt0.ensures.value) (size _ _ c.ranges.start c.unsigned_abs.ensures.value))
    c.if-last_out-self.false

pub returns-else-last_out-self-2 : goal.returns-else-last_out-self-2
returns-else-last_out-self-2 c i =
    none_after c.args.self.lo c.args.self.hi i _ _
    (rising c.args.slope c.args.start i _ _ (omega (arith, ints)) (omega (arith, ints)) (size _ _ c.ranges.slope c.unsigned_abs-then-slope-gt0.ensures.value) (size _ _ c.ranges.start c.unsigned_abs.ensures.value))
    c.if-last_out-self-2.false

pub returns-then-last_in-self : goal.returns-then-last_in-self
returns-then-last_in-self c i =
    some_before _ c.args.self.hi i _ _
    (falling c.args.slope c.args.start i _ _ (omega (arith, ints)) (omega (arith, ints)) (size _ _ c.ranges.slope c.unsigned_abs-else-slope-eq0-2.ensures.value) (size _ _ c.ranges.start c.unsigned_abs-else-slope-eq0.ensures.value))
    c.if-last_in-self.true

pub returns-else-last_in-self : goal.returns-else-last_in-self
returns-else-last_in-self c i =
    all_before _ c.args.self.hi i _ _
    (falling c.args.slope c.args.start i _ _ (omega (arith, ints)) (omega (arith, ints)) (size _ _ c.ranges.slope c.unsigned_abs-else-slope-eq0-2.ensures.value) (size _ _ c.ranges.start c.unsigned_abs-else-slope-eq0.ensures.value))
    c.if-last_in-self.false
