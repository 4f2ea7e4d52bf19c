-- Why tables that pass their tests keep the law of solids.
use Rattle.std.specs.Prelude.{◌≡◌, ℕ, zero, suc, ◌<◌, ◌≤◌, Bool, true, false, not, ◌&&◌, T, List, [], length, ℤ, ◌≤ℤ◌, ◌==◌, ◌≢◌, int_le, slice_index, slice_index_or, refl}
use Rattle.std.proofs.Common.{sym, subst, arith, ltb-true}
use Rattle.std.proofs.lemmas.Bool.{eqb-false, not-true}
use Rattle.std.specs.Int.Signed.{le_z_yes}
use Rattle.geometry.specs.Vectors.{V3}
use Rattle.geometry.specs.Limits.{InLimits, in_limits}
use Rattle.geometry.specs.Units.{point_of}
use Rattle.geometry.specs.declared.units.Point.{Point}
use Rattle.solids.specs.Solids.{Lawful, Corners, corners_of, pick}
use Rattle.solids.specs.declared.solid.Triangle.{Triangle}
use Rattle.solids.specs.Tables.{tabled, empty_solid, blank_point, blank_triangle, sides, Reverse, InsideAt, are_numbers, NumberedAt}

-- ---- what a table solid keeps, each a fact of its own
abbrev pub AllInside : List Point → Type 0
AllInside cs = (i : ℕ) → i < length cs → InsideAt cs i

abbrev pub AllNumbered : ℕ → List Triangle → Type 0
AllNumbered n ts = (k : ℕ) → k < length ts → NumberedAt n ts k

-- the partner of each side is a side, joins the same corners the other way, and has that side as its partner
abbrev pub AllWithin : List Triangle → List ℕ → Type 0
AllWithin ts ps = (q : ℕ) → q < sides ts → slice_index ps q < sides ts

abbrev pub AllReverse : List Triangle → List ℕ → Type 0
AllReverse ts ps = (q : ℕ) → q < sides ts → Reverse ts (slice_index ps q) q

abbrev pub AllBack : List Triangle → List ℕ → Type 0
AllBack ts ps = (q : ℕ) → q < sides ts → slice_index ps (slice_index ps q) ≡ q

-- ---- tests as facts
never : false ≡ true → ⊥
never e = subst T (sym e) tt

both : (x y : Bool) → (x && y) ≡ true → (x ≡ true) × (y ≡ true)
both true y e = (refl, e)
both false y e = absurd (never e)

at_most : (a b : ℤ) → int_le a b ≡ true → a ≤ℤ b
at_most a b e = le_z_yes (subst T (sym e) tt)

in_limits_lem : (u : V3) → in_limits u ≡ true → InLimits u
in_limits_lem u e =
    let xy = both _ _ e in
    let x = both _ _ (both _ _ xy.0).0 in
    let y = both _ _ (both _ _ xy.0).1 in
    let z = both _ _ xy.1 in
    record {
      x_low = at_most _ _ x.0;
      x_high = at_most _ _ x.1;
      y_low = at_most _ _ y.0;
      y_high = at_most _ _ y.1;
      z_low = at_most _ _ z.0;
      z_high = at_most _ _ z.1;
    }

differ : (a b : ℕ) → not (a == b) ≡ true → a ≢ b
differ a b e = eqb-false a b (not-true (a == b) e)

pub record Apart (n : ℕ) (t : Corners) : Type 0 where
  pub low_first : t.first < n
  pub low_second : t.second < n
  pub low_third : t.third < n
  pub first_second : t.first ≡ t.second → ⊥
  pub second_third : t.second ≡ t.third → ⊥
  pub third_first : t.third ≡ t.first → ⊥

pub apart : (n : ℕ) (t : Corners) → are_numbers n t ≡ true → Apart n t
apart n t e =
    let f = both _ _ e in
    let d = both _ _ f.0 in
    let c = both _ _ d.0 in
    let b = both _ _ c.0 in
    let a = both _ _ b.0 in
    record {
      low_first = ltb-true _ _ a.0;
      low_second = ltb-true _ _ a.1;
      low_third = ltb-true _ _ b.1;
      first_second = differ _ _ c.1;
      second_third = differ _ _ d.1;
      third_first = differ _ _ f.1;
    }

in_range : (n : ℕ) (t : Corners) → Apart n t → (s : ℕ) → pick t s < n
in_range n t a zero = a.low_first
in_range n t a (suc zero) = a.low_second
in_range n t a (suc (suc s)) = a.low_third

all_differ : (n : ℕ) (t : Corners) → Apart n t → (s u : ℕ) → s < 3 → u < 3 → pick t s ≡ pick t u → s ≡ u
all_differ n t a zero zero hs hu e = refl
all_differ n t a zero (suc zero) hs hu e = absurd (a.first_second e)
all_differ n t a zero (suc (suc u)) hs hu e = absurd (a.third_first (sym e))
all_differ n t a (suc zero) zero hs hu e = absurd (a.first_second (sym e))
all_differ n t a (suc zero) (suc zero) hs hu e = refl
all_differ n t a (suc zero) (suc (suc u)) hs hu e = absurd (a.second_third e)
all_differ n t a (suc (suc s)) zero hs hu e = absurd (a.third_first e)
all_differ n t a (suc (suc s)) (suc zero) hs hu e = absurd (a.second_third (sym e))
all_differ n t a (suc (suc s)) (suc (suc u)) hs hu e = omega arith

pub tabled_lawful :
    (cs : List Point) (ts : List Triangle) (ps : List ℕ)
    → length cs ≤ 4096
    → length ts ≤ 4096
    → AllInside cs
    → AllNumbered (length cs) ts
    → AllWithin ts ps
    → AllReverse ts ps
    → AllBack ts ps
    → Lawful (tabled cs ts ps)
tabled_lawful cs ts ps few-corners few-triangles inside numbered within reverse back =
    record {
      corners_few = omega arith;
      triangles_few = omega arith;
      corners_in_limits = λ i h. in_limits_lem (point_of (slice_index_or cs i blank_point)) (inside i h);
      numbers_in_range = λ k s h _. in_range (length cs) (corners_of (slice_index_or ts k blank_triangle)) (apart _ _ (numbered k h)) s;
      numbers_differ = λ k s u h. all_differ (length cs) (corners_of (slice_index_or ts k blank_triangle)) (apart _ _ (numbered k h)) s u;
      partner_in_range = within;
      partner_starts = λ q h. (reverse q h).0;
      partner_ends = λ q h. (reverse q h).1;
      partner_back = back;
    }

pub empty_lawful : Lawful empty_solid
empty_lawful =
    tabled_lawful [] [] [] (omega arith) (omega arith) (λ i h. absurd (omega arith)) (λ k h. absurd (omega arith)) (λ q h. absurd (omega arith)) (λ q h. absurd (omega arith)) (λ q h. absurd (omega arith))
