-- Two solids as one: the second's numbers stand behind the first's.
use Rattle.std.specs.Prelude.{◌≡◌, ℕ, zero, suc, ◌+◌, ◌-◌, ◌/◌, ◌%◌, ◌<◌, ◌≤◌, Bool, true, false, cond, ◌&&◌, T, ltb, ◌⊎◌, nat_le, nat_lt, refl}
use Rattle.std.proofs.Common.{sym, ap, subst, ◌∙◌, inl, inr, ⊎_elim, arith, ltb-true, ltb-false, leb-true, lt-ltb, le-ltb}
use Rattle.geometry.specs.Limits.{InLimits}
use Rattle.solids.specs.Solids.{SolidModel, Lawful, Corners, pick, places, start_of, end_of}
use Rattle.solids.specs.Tables.{empty_solid}
use Rattle.solids.specs.TableLaw.{empty_lawful}

-- whether the pair keeps within the limits of a solid
abbrev pub fit : SolidModel → SolidModel → Bool
fit A B = nat_le (A.corners + B.corners) 32768 && nat_le (A.triangles + B.triangles) 32768

abbrev pub moved_up : ℕ → Corners → Corners
moved_up n t = record { first = n + t.first; second = n + t.second; third = n + t.third }

-- corner numbers of the second move up by the corners of the first, and places by the places of the first
abbrev pub joined : SolidModel → SolidModel → SolidModel
joined A B =
    record {
      corners = A.corners + B.corners;
      corner = λ i. cond (nat_lt i A.corners) (A.corner i) (B.corner (i - A.corners));
      triangles = A.triangles + B.triangles;
      triangle = λ k. cond (nat_lt k A.triangles) (A.triangle k) (moved_up A.corners (B.triangle (k - A.triangles)));
      partner = λ q. cond (nat_lt q (places A)) (A.partner q) (places A + B.partner (q - places A));
    }

-- two solids that do not fit make the empty one
abbrev pub paired : SolidModel → SolidModel → SolidModel
paired A B = cond (fit A B) (joined A B) empty_solid

-- ---- the pair keeps the law
cases : (b : Bool) → (b ≡ true) ⊎ (b ≡ false)
cases true = inl refl
cases false = inr refl

-- a number lies before a bound, or behind it
halves : (n i : ℕ) → (i < n) ⊎ (n ≤ i)
halves n i = ⊎_elim (λ (e : ltb i n ≡ true). inl (ltb-true i n e)) (λ (e : ltb i n ≡ false). inr (ltb-false i n e)) (cases (nat_lt i n))

before : {X : Type 0} (i n : ℕ) (x y : X) → i < n → cond (nat_lt i n) x y ≡ x
before i n x y h = ap (λ b. cond b x y) (lt-ltb i n h)

behind : {X : Type 0} (i n : ℕ) (x y : X) → n ≤ i → cond (nat_lt i n) x y ≡ y
behind i n x y h = ap (λ b. cond b x y) (le-ltb i n h)

pick_up : (n : ℕ) (t : Corners) (s : ℕ) → pick (moved_up n t) s ≡ n + pick t s
pick_up n t zero = refl
pick_up n t (suc zero) = refl
pick_up n t (suc (suc s)) = refl

sub_back : (m n : ℕ) → (m + n) - m ≡ n
sub_back m n = omega arith

add_back : (m n : ℕ) → m ≤ n → m + (n - m) ≡ n
add_back m n h = omega arith

module _ (A B : SolidModel) where
  triangle_before : (k : ℕ) → k < A.triangles → (joined A B).triangle k ≡ A.triangle k
  triangle_before k h = before k A.triangles (A.triangle k) _ h

  triangle_behind : (k : ℕ) → A.triangles ≤ k → (joined A B).triangle k ≡ moved_up A.corners (B.triangle (k - A.triangles))
  triangle_behind k h = behind k A.triangles (A.triangle k) _ h

  partner_before : (q : ℕ) → q < places A → (joined A B).partner q ≡ A.partner q
  partner_before q h = before q (places A) (A.partner q) _ h

  partner_behind : (q : ℕ) → places A ≤ q → (joined A B).partner q ≡ places A + B.partner (q - places A)
  partner_behind q h = behind q (places A) (A.partner q) _ h

  start_before : (q : ℕ) → q < places A → start_of (joined A B) q ≡ start_of A q
  start_before q h = ap (λ t. pick t (q % 3)) (triangle_before (q / 3) (omega arith))

  end_before : (q : ℕ) → q < places A → end_of (joined A B) q ≡ end_of A q
  end_before q h = ap (λ t. pick t ((q % 3 + 1) % 3)) (triangle_before (q / 3) (omega arith))

  quotient : (q : ℕ) → places A ≤ q → q / 3 - A.triangles ≡ (q - places A) / 3
  quotient q h = omega arith

  remainder : (q : ℕ) → places A ≤ q → q % 3 ≡ (q - places A) % 3
  remainder q h = omega arith

  start_behind : (q : ℕ) → places A ≤ q → start_of (joined A B) q ≡ A.corners + start_of B (q - places A)
  start_behind q h =
      ap (λ t. pick t (q % 3)) (triangle_behind (q / 3) (omega arith))
      ∙ pick_up A.corners (B.triangle (q / 3 - A.triangles)) (q % 3)
      ∙ ap (λ k. A.corners + pick (B.triangle k) (q % 3)) (quotient q h)
      ∙ ap (λ s. A.corners + pick (B.triangle ((q - places A) / 3)) s) (remainder q h)

  end_behind : (q : ℕ) → places A ≤ q → end_of (joined A B) q ≡ A.corners + end_of B (q - places A)
  end_behind q h =
      ap (λ t. pick t ((q % 3 + 1) % 3)) (triangle_behind (q / 3) (omega arith))
      ∙ pick_up A.corners (B.triangle (q / 3 - A.triangles)) ((q % 3 + 1) % 3)
      ∙ ap (λ k. A.corners + pick (B.triangle k) ((q % 3 + 1) % 3)) (quotient q h)
      ∙ ap (λ s. A.corners + pick (B.triangle ((q - places A) / 3)) ((s + 1) % 3)) (remainder q h)

  -- the partner of a side behind the first's lies behind them too, and is as far behind them as in the second
  partner_far : (q : ℕ) → places A ≤ q → places A ≤ (joined A B).partner q
  partner_far q h = rw (partner_behind q h) (omega arith)

  partner_there : (q : ℕ) → places A ≤ q → (joined A B).partner q - places A ≡ B.partner (q - places A)
  partner_there q h = ap (λ n. n - places A) (partner_behind q h) ∙ sub_back (places A) (B.partner (q - places A))

  module _ (a : Lawful A) (b : Lawful B) (corners_few : A.corners + B.corners ≤ 32768) (triangles_few : A.triangles + B.triangles ≤ 32768) where
    in_second : (q : ℕ) → q < places (joined A B) → places A ≤ q → q - places A < places B
    in_second q h l = omega arith

    -- what is so of each number of the first, and of each of the second, is so of each of the pair
    corner_inside : (i : ℕ) → i < A.corners + B.corners → InLimits ((joined A B).corner i)
    corner_inside i h =
        ⊎_elim
        (λ (l : i < A.corners). subst InLimits (sym (before i A.corners (A.corner i) _ l)) (a.corners_in_limits i l))
        (λ (l : A.corners ≤ i). subst InLimits (sym (behind i A.corners (A.corner i) _ l)) (b.corners_in_limits (i - A.corners) (omega arith)))
        (halves A.corners i)

    number_below : (k s : ℕ) → k < A.triangles + B.triangles → s < 3 → pick ((joined A B).triangle k) s < A.corners + B.corners
    number_below k s h l =
        ⊎_elim
        (λ (f : k < A.triangles).
        let e : pick ((joined A B).triangle k) s ≡ pick (A.triangle k) s = ap (λ t. pick t s) (triangle_before k f) in
        omega (arith, a.numbers_in_range k s f l))
        (λ (f : A.triangles ≤ k).
        let e : pick ((joined A B).triangle k) s ≡ A.corners + pick (B.triangle (k - A.triangles)) s =
        ap (λ t. pick t s) (triangle_behind k f) ∙ pick_up A.corners (B.triangle (k - A.triangles)) s in
        omega (arith, b.numbers_in_range (k - A.triangles) s (omega arith) l))
        (halves A.triangles k)

    number_once :
        (k s t : ℕ) → k < A.triangles + B.triangles → s < 3 → t < 3 → pick ((joined A B).triangle k) s ≡ pick ((joined A B).triangle k) t
        → s ≡ t
    number_once k s t h ls lt e =
        ⊎_elim
        (λ (f : k < A.triangles). a.numbers_differ k s t f ls lt (subst (λ u. pick u s ≡ pick u t) (triangle_before k f) e))
        (λ (f : A.triangles ≤ k).
        let u = B.triangle (k - A.triangles) in
        let d : pick (moved_up A.corners u) s ≡ pick (moved_up A.corners u) t =
        subst (λ v. pick v s ≡ pick v t) (triangle_behind k f) e in
        let i = pick_up A.corners u s in
        let j = pick_up A.corners u t in
        b.numbers_differ (k - A.triangles) s t (omega arith) ls lt (omega arith))
        (halves A.triangles k)

    partner_below : (q : ℕ) → q < places (joined A B) → (joined A B).partner q < places (joined A B)
    partner_below q h =
        ⊎_elim
        (λ (l : q < places A). let e = partner_before q l in omega (arith, a.partner_in_range q l))
        (λ (l : places A ≤ q). let e = partner_behind q l in omega (arith, b.partner_in_range (q - places A) (in_second q h l)))
        (halves (places A) q)

    partner_starting : (q : ℕ) → q < places (joined A B) → start_of (joined A B) ((joined A B).partner q) ≡ end_of (joined A B) q
    partner_starting q h =
        ⊎_elim
        (λ (l : q < places A).
        ap (start_of (joined A B)) (partner_before q l) ∙ start_before (A.partner q) (a.partner_in_range q l) ∙ a.partner_starts q l
        ∙ sym (end_before q l))
        (λ (l : places A ≤ q).
        start_behind ((joined A B).partner q) (partner_far q l)
        ∙ ap (λ p. A.corners + start_of B p) (partner_there q l)
        ∙ ap (λ n. A.corners + n) (b.partner_starts (q - places A) (in_second q h l))
        ∙ sym (end_behind q l))
        (halves (places A) q)

    partner_ending : (q : ℕ) → q < places (joined A B) → end_of (joined A B) ((joined A B).partner q) ≡ start_of (joined A B) q
    partner_ending q h =
        ⊎_elim
        (λ (l : q < places A).
        ap (end_of (joined A B)) (partner_before q l) ∙ end_before (A.partner q) (a.partner_in_range q l) ∙ a.partner_ends q l
        ∙ sym (start_before q l))
        (λ (l : places A ≤ q).
        end_behind ((joined A B).partner q) (partner_far q l)
        ∙ ap (λ p. A.corners + end_of B p) (partner_there q l)
        ∙ ap (λ n. A.corners + n) (b.partner_ends (q - places A) (in_second q h l))
        ∙ sym (start_behind q l))
        (halves (places A) q)

    partner_returns : (q : ℕ) → q < places (joined A B) → (joined A B).partner ((joined A B).partner q) ≡ q
    partner_returns q h =
        ⊎_elim
        (λ (l : q < places A).
        ap (joined A B).partner (partner_before q l) ∙ partner_before (A.partner q) (a.partner_in_range q l) ∙ a.partner_back q l)
        (λ (l : places A ≤ q).
        partner_behind ((joined A B).partner q) (partner_far q l)
        ∙ ap (λ p. places A + B.partner p) (partner_there q l)
        ∙ ap (λ n. places A + n) (b.partner_back (q - places A) (in_second q h l))
        ∙ add_back (places A) q l)
        (halves (places A) q)

    joined_lawful : Lawful (joined A B)
    joined_lawful =
        record {
          corners_few = corners_few;
          triangles_few = triangles_few;
          corners_in_limits = corner_inside;
          numbers_in_range = number_below;
          numbers_differ = number_once;
          partner_in_range = partner_below;
          partner_starts = partner_starting;
          partner_ends = partner_ending;
          partner_back = partner_returns;
        }

conjuncts : (x y : Bool) → (x && y) ≡ true → (x ≡ true) × (y ≡ true)
conjuncts true y e = (refl, e)
conjuncts false y e = absurd (subst T (sym e) tt)

pub paired_lawful : (A B : SolidModel) → Lawful A → Lawful B → Lawful (paired A B)
paired_lawful A B a b =
    ⊎_elim
    (λ (e : fit A B ≡ true).
    let both = conjuncts (nat_le (A.corners + B.corners) 32768) (nat_le (A.triangles + B.triangles) 32768) e in
    subst (λ f. Lawful (cond f (joined A B) empty_solid)) (sym e)
    (joined_lawful A B a b (leb-true _ _ both.0) (leb-true _ _ both.1)))
    (λ (e : fit A B ≡ false). subst (λ f. Lawful (cond f (joined A B) empty_solid)) (sym e) empty_lawful)
    (cases (fit A B))
