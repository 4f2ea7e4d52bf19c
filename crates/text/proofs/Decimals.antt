-- Which texts are numerals of one to six digits.
use Rattle.std.proofs.Common.{◌≡◌, ℕ, suc, ◌-◌, ◌<◌, ◌≤◌, List, ◌∷◌, length, get_or, take, drop, ℤ, pos, negsuc, decimal, sym, ap, ◌∙◌, subst, ⊎_elim, arith}
use Rattle.std.specs.Str.Parse.{AllDigits, digits_value}
use Rattle.std.proofs.lemmas.Str.Parse.{IsNumeralModel, numerals_by_value, tells_digits, digit_at, digits_value_short}
use Rattle.std.proofs.lemmas.Fmt.{digits_decimal, decimal_nonempty, length-decimal-le, first_decimal, decimal_digit, decimal-digits_value, decimal_injective}
use Rattle.std.specs.Char.{digit_value}
use Rattle.std.proofs.lemmas.Str.{digit_value_digit}
use Rattle.std.proofs.lemmas.Slice.{first_rest}
use Rattle.std.proofs.lemmas.Bool.{cases_eq}
use Rattle.std.proofs.lemmas.List.{length-take}
use Rattle.text.specs.Number.{Numeral, Spells}

own : IsNumeralModel (AllDigits 10) (digits_value 10)
own = numerals_by_value (AllDigits 10) tells_digits

pub numeral_digits : (bs : List ℕ) (n : ℕ) → Numeral bs n → AllDigits 10 bs
numeral_digits bs n h = subst (AllDigits 10) (sym h.text) (digits_decimal own n (omega (arith, h.few)))

pub numeral_some : (bs : List ℕ) (n : ℕ) → Numeral bs n → 0 < length bs
numeral_some bs n h = subst (λ (l : List ℕ). 0 < length l) (sym h.text) (decimal_nonempty n (omega (arith, h.few)))

pub numeral_few : (bs : List ℕ) (n : ℕ) → Numeral bs n → length bs ≤ 6
numeral_few bs n h =
    subst (λ (l : List ℕ). length l ≤ 6) (sym h.text) (length-decimal-le 6 n (omega arith) h.few (omega (arith, h.few)))

pub numeral_plain : (bs : List ℕ) (n : ℕ) → Numeral bs n → get_or bs 0 0 ≡ 48 → length bs ≡ 1
numeral_plain bs n h z =
    ⊎_elim
    (λ (e : n ≡ 0). ap length (h.text ∙ ap decimal e ∙ decimal_digit 0 (omega arith)))
    (λ (ne : n ≡ 0 → ⊥).
    let big : 48 < get_or (decimal n) 0 0 = first_decimal n (omega arith) (omega (arith, h.few)) in
    let same : get_or bs 0 0 ≡ get_or (decimal n) 0 0 = ap (λ (l : List ℕ). get_or l 0 0) h.text in
    absurd (omega arith))
    (cases_eq n 0)

pub numeral_from : (bs : List ℕ) → AllDigits 10 bs → 0 < length bs → length bs ≤ 6 → (get_or bs 0 0 ≡ 48 → length bs ≡ 1) → Numeral bs (digits_value 10 bs)
numeral_from bs d some few plain =
    let below : digits_value 10 bs < 1000000 = digits_value_short own bs 6 d few in
    record { few = below; text = sym (decimal-digits_value own bs d some plain (omega arith)) }

pub digit_below : (bs : List ℕ) (n i : ℕ) → Numeral bs n → i < length bs → digit_value (get_or bs i 0) < 10
digit_below bs n i h lt = omega (arith, digit_value_digit (get_or bs i 0) (digit_at bs i (numeral_digits bs n h) lt), (digit_at bs i (numeral_digits bs n h) lt).1)

-- what fewer than six digits write
pub below : (bs : List ℕ) (i : ℕ) → AllDigits 10 (take i bs) → i ≤ 6 → digits_value 10 (take i bs) < 1000000
below bs i d h = digits_value_short own (take i bs) 6 d (simp length-take (omega arith))

-- the digits behind a minus
pub behind_minus : (bs ds : List ℕ) (z : ℤ) → bs ≡ 45 ∷ ds → Spells bs z → (m : ℕ) × Numeral ds (suc m)
behind_minus bs ds (pos n) e h =
    let h' : Numeral (45 ∷ ds) n = record { few = h.few; text = sym e ∙ h.text } in
    let d = digit_at (45 ∷ ds) 0 (numeral_digits _ n h') (omega arith) in
    absurd (omega (arith, d.0))
behind_minus bs ds (negsuc n) e h = (n, record { few = omega (arith, h.few); text = ap (λ (l : List ℕ). drop 1 l) (sym e ∙ h.text) })

pub first_and_rest : (bs : List ℕ) → 0 < length bs → get_or bs 0 0 ≡ 45 → bs ≡ 45 ∷ take (length bs - 1) (drop 1 bs)
first_and_rest bs some e = first_rest bs 0 some ∙ ap (λ (c : ℕ). c ∷ take (length bs - 1) (drop 1 bs)) e

-- no text is a numeral of 0 and of a greater number
pub one_numeral : {bs : List ℕ} {m : ℕ} → Numeral bs (suc m) → Numeral bs 0 → ⊥
one_numeral {bs} {m} h z =
    let same : suc m ≡ 0 = decimal_injective (suc m) 0 (omega (arith, h.few)) (omega arith) (sym h.text ∙ z.text) in
    omega arith
