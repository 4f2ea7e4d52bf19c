use Rattle.std.proofs.Common.{◌≡◌, ◌+◌, ◌*◌, ◌<◌, ◌≤◌, length, take, ap, ◌∙◌, subst, sym, ⊎_elim, arith}
use Rattle.std.proofs.lemmas.Int.Digits.{digits_more, digits_value_more}
use Rattle.std.proofs.lemmas.List.{take_all}
use Rattle.text.proofs.Decimals.{numeral_some, numeral_few, numeral_plain, numeral_from, below, digit_below}
use Rattle.text.proofs.number.numeral.Goals as goal
use Rattle.std.specs.Char.{digit_value}
use Rattle.std.specs.Str.Parse.{AllDigits, digits_value}
use Rattle.text.specs.Number.{Numeral}

pub returns-then-is_empty : goal.returns-then-is_empty
returns-then-is_empty c =
    λ n h.
    let some : 0 < length c.args.text.now = numeral_some _ n h in
    let few : length c.args.text.now ≤ 6 = numeral_few _ n h in
    ⊎_elim (λ e. grind arith) (λ e. omega arith) c.then-is_empty.either

pub returns-then-text-gt1 : goal.returns-then-text-gt1
returns-then-text-gt1 c = λ n h. omega (arith, numeral_plain _ n h c.if-text-eq48.true)

pub overflow_mul-value : goal.overflow_mul-value
overflow_mul-value c = let b = below _ c.loop-b.b-index c.loop-b.invariant.0 (omega arith) in omega (arith, c.loop-b.invariant.1)

pub overflow_add-value : goal.overflow_add-value
overflow_add-value c =
    let b = below _ c.loop-b.b-index c.loop-b.invariant.0 (omega arith) in
    omega (arith, c.loop-b.invariant.1, c.in_ok-value.ensures.value.0, c.in_ok-value.ensures.value.1)

pub returns-in_err-value : goal.returns-in_err-value
returns-in_err-value c =
    rw c.from_residual.ensures
    (λ n h. c.in_err-value.ensures.value (subst (λ d. digit_value d < 10) (sym c.from.ensures) (digit_below _ n c.loop-b.b-index h c.loop-b-test.true)))

pub loop-b-preserved : goal.loop-b-preserved
loop-b-preserved c =
    let text = c.args.text.now in
    let i = c.loop-b.b-index in
    let digit = c.in_ok-value.ensures.value in (
      digits_more 10 text i c.loop-b-test.true c.loop-b.invariant.0 (subst (λ d. digit_value d < 10) c.from.ensures digit.0),
      ap (λ v. v * 10 + c.in_ok-value.field-0) c.loop-b.invariant.1 ∙ ap (λ d. digits_value 10 (take i text) * 10 + d) (digit.1 ∙ ap digit_value c.from.ensures) ∙ sym (digits_value_more 10 text i c.loop-b-test.true),
    )

pub returns : goal.returns
returns c =
    let text = c.args.text.now in
    let all : take c.loop-b.b-index text ≡ text = take_all _ _ c.loop-b-test.false in
    let digits : AllDigits 10 text = subst (AllDigits 10) all c.loop-b.invariant.0 in
    let is : digits_value 10 text ≡ c.loop-b.value = ap (digits_value 10) (sym all) ∙ sym c.loop-b.invariant.1 in
    let some : 0 < length text = grind arith in
    subst (Numeral text) is
    (numeral_from text digits some c.if-text-gt6.false (λ e. ⊎_elim (λ h. omega arith) (λ h. absurd (h e)) c.else-text-eq48.either))
