-- Where a·i + b is positive, by a quotient of naturals.
use Rattle.std.proofs.Common.{◌≡◌, ℕ, suc, ◌+◌, ◌-◌, ◌*◌, ◌/◌, ◌<◌, ◌≤◌, Bool, ◌&&◌, ltb, leb, ℤ, pos, negsuc, ◌+ℤ◌, ◌*ℤ◌, nat_abs, ◌≤ℤ◌, ◌<ℤ◌, sym, ap, ◌∙◌, ⊎_elim, mul_comm, arith}
use lib.Signed.{lt_z}
use Rattle.std.proofs.lemmas.Nat.{div_below, le-div}
use Rattle.std.proofs.lemmas.Int.{ints}
use Rattle.std.proofs.lemmas.Bool.Decides.{nat_tests}
use Rattle.std.proofs.lemmas.Bool.{cases_lt, lt-ltb, le-ltb, le-leb, lt-leb}
use Rattle.survey.specs.Spans.{within, positive}

-- B / A < i just where B < A * i
pub quotient_under : (A B i : ℕ) → 0 < A → ltb (B / A) i ≡ ltb B (A * i)
quotient_under A B i h =
    ⊎_elim
    (λ (l : B < A * i). lt-ltb (B / A) i (div_below B A i h (omega (arith, mul_comm A i))) ∙ sym (lt-ltb B (A * i) l))
    (λ (l : A * i ≤ B). le-ltb (B / A) i (le-div i B A h (omega (arith, mul_comm A i))) ∙ sym (le-ltb B (A * i) l))
    (cases_lt B (A * i))

-- i ≤ (B - 1) / A just where A * i < B
pub under_quotient : (A B i : ℕ) → 0 < A → 0 < B → leb i ((B - 1) / A) ≡ ltb (A * i) B
under_quotient A B i h k =
    ⊎_elim
    (λ (l : A * i < B). le-leb i ((B - 1) / A) (le-div i (B - 1) A h (omega (arith, mul_comm A i))) ∙ sym (lt-ltb (A * i) B l))
    (λ (l : B ≤ A * i). lt-leb i ((B - 1) / A) (div_below (B - 1) A i h (omega (arith, mul_comm A i))) ∙ sym (le-ltb (A * i) B l))
    (cases_lt (A * i) B)

rising_is : (A B i : ℕ) (x : ℤ) → x +ℤ pos B ≡ pos (A * i) → lt_z (pos 0) x ≡ ltb B (A * i)
rising_is A B i (pos n) e = grind (arith, ints, nat_tests)
rising_is A B i (negsuc n) e = grind (arith, ints, nat_tests)

minus_abs : (b : ℤ) (B : ℕ) → b ≤ℤ pos 0 → B ≡ nat_abs b → b +ℤ pos B ≡ pos 0
minus_abs (pos n) B h e = omega (arith, ints)
minus_abs (negsuc n) B h e = omega (arith, ints)

plus_abs : (b : ℤ) (B : ℕ) → pos 0 <ℤ b → B ≡ nat_abs b → (b ≡ pos B) × (0 < B)
plus_abs (pos n) B h e = (omega (arith, ints), omega (arith, ints))
plus_abs (negsuc n) B h e = absurd h.lt

pub rising : (a b : ℤ) (i A B : ℕ) → pos 0 <ℤ a → b ≤ℤ pos 0 → A ≡ nat_abs a → B ≡ nat_abs b → positive a b i ≡ ltb (B / A) i
rising (pos m) b i A B h k e f =
    let h' : 0 < A = omega (arith, ints) in
    let k' : b +ℤ pos B ≡ pos 0 = minus_abs b B k f in
    let e' : A * i ≡ m * i = ap (λ n. n * i) e in
    let t : (pos (m * i) +ℤ b) +ℤ pos B ≡ pos (A * i) = omega (arith, ints) in
    rising_is A B i (pos m *ℤ pos i +ℤ b) t ∙ sym (quotient_under A B i h')
rising (negsuc m) b i A B h k e f = absurd h.lt

falling_is : (A B i : ℕ) (x : ℤ) → x +ℤ pos (A * i) ≡ pos B → lt_z (pos 0) x ≡ ltb (A * i) B
falling_is A B i (pos n) e = grind (arith, ints, nat_tests)
falling_is A B i (negsuc n) e = grind (arith, ints, nat_tests)

turned : (m i : ℕ) → negsuc m *ℤ pos i +ℤ pos (suc m * i) ≡ pos 0
turned m i = omega (arith, ints)

pub falling : (a b : ℤ) (i A B : ℕ) → a <ℤ pos 0 → pos 0 <ℤ b → A ≡ nat_abs a → B ≡ nat_abs b → positive a b i ≡ leb i ((B - 1) / A)
falling (pos m) b i A B h k e f = absurd (omega (arith, ints))
falling (negsuc m) b i A B h k e f =
    let h' : 0 < A = omega arith in
    let k' = plus_abs b B k f in
    let e' : A * i ≡ suc m * i = ap (λ n. n * i) e in
    let t : (negsuc m *ℤ pos i +ℤ b) +ℤ pos (A * i) ≡ pos B = omega (arith, ints, turned m i, k'.0) in
    falling_is A B i (negsuc m *ℤ pos i +ℤ b) t ∙ sym (under_quotient A B i h' k'.1)

-- ---- the five ways out of `cut`: p is `positive a b i`
module _ (lo hi i q : ℕ) (p : Bool) where
  pub all_after_lem : p ≡ ltb q i → q < lo → within lo hi i ≡ (within lo hi i && p)
  all_after_lem e h = grind (arith, nat_tests)

  pub some_after : p ≡ ltb q i → lo ≤ q → within (q + 1) hi i ≡ (within lo hi i && p)
  some_after e h = grind (arith, nat_tests)

  pub none_after : p ≡ ltb q i → hi ≤ q → within 0 0 i ≡ (within lo hi i && p)
  none_after e h = grind (arith, nat_tests)

  pub some_before : p ≡ leb i q → q < hi → within lo (q + 1) i ≡ (within lo hi i && p)
  some_before e h = grind (arith, nat_tests)

  pub all_before : p ≡ leb i q → hi ≤ q → within lo hi i ≡ (within lo hi i && p)
  all_before e h = grind (arith, nat_tests)
