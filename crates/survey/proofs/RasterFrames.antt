-- Outlines of triangles and quadrilaterals: what they cover, and between which rows.
use Rattle.std.proofs.Common.{◌≡◌, ℕ, ◌*◌, ◌^◌, ◌≤◌, Bool, true, false, ◌&&◌, List, [], ◌∷◌, ℤ, pos, negsuc, ◌+ℤ◌, ◌-ℤ◌, ◌*ℤ◌, neg_ℤ, nat_abs, ◌≤ℤ◌, ◌<ℤ◌, sym, refl, ◌∙◌, subst, ap₂, ⊎_elim, arith, lit<, w64}
use lib.Signed.{lt_z}
use Rattle.std.specs.Int.{int_min, int_max}
use Rattle.std.proofs.lemmas.Int.{ints}
use Rattle.std.proofs.lemmas.Bool.{true≢false, and_cases}
use Rattle.geometry.specs.Vectors.{V3}
use Rattle.geometry.specs.Units.{sample_at}
use Rattle.volumes.specs.Faces.{Sample}
use Rattle.survey.specs.Drawing.{sample_of}
use Rattle.survey.specs.Spans.{positive}
use Rattle.survey.specs.Sides.{left_of, right_of}
use Rattle.survey.specs.RasterFrames.{enclosed, Framed}
use Rattle.survey.specs.RasterOutlines.{covers}
use Rattle.survey.specs.declared.raster.sides.Side.{Side}
use Rattle.survey.specs.declared.raster.outlines.Outline.{Outline}
use Rattle.algebra.proofs.Machine.{back}
use Rattle.survey.proofs.TiltLaws.{read}
use Rattle.survey.proofs.SideTests.{side_turned}
use Rattle.survey.proofs.RasterExtent.{Between, none_over, none_under}

-- ---- what is covered
pub three_sides : (x y z w x' y' z' : Bool) → x ≡ x' → y ≡ y' → z ≡ z' → w ≡ true → x && (y && (z && w)) ≡ x' && (y' && (z' && true))
three_sides x y z w x' y' z' e f g h = cc

pub four_sides : (x y z w x' y' z' w' : Bool) → x ≡ x' → y ≡ y' → z ≡ z' → w ≡ w' → x && (y && (z && w)) ≡ x' && (y' && (z' && (w' && true)))
four_sides x y z w x' y' z' w' e f g h = ap₂ ◌&&◌ e (ap₂ ◌&&◌ f (ap₂ ◌&&◌ g (h ∙ sym (unit w'))))
  where
    unit : (b : Bool) → b && true ≡ b
    unit true = refl
    unit false = refl

-- ---- between which rows: `top` and `bottom` are what the code reads of t and b
pub framed : (p q r s : Side) (t b top bottom : ℤ) (u : V3) (vs : List V3) → top ≡ t → bottom ≡ b → ((i j : ℕ) → enclosed p q r s i j ≡ left_of u vs (sample_of i j)) → Between t b (u ∷ vs)
    → Framed p q r s top bottom
framed p q r s t b top bottom u vs et eb e h =
    subst (λ (x : ℤ). Framed p q r s x bottom) (sym et)
    (subst (λ (x : ℤ). Framed p q r s t x) (sym eb) record {
      over_top = λ i j k. e i j ∙ none_over t b u vs (sample_of i j) h k;
      under_bottom = λ i j k. e i j ∙ none_under t b u vs (sample_of i j) h k;
    })

pub le_trans : (x y z : ℤ) → x ≤ℤ y → y ≤ℤ z → x ≤ℤ z
le_trans x y z h k = omega (arith, ints)

-- z is a number that is near, and so is what the code reads of it
pub record Read (z : ℤ) : Type 0 where
  pub near : nat_abs z ≤ 2 ^ 25
  pub is : back w64 z ≡ z
  pub read_near : nat_abs (back w64 z) ≤ 2 ^ 25

reads : (z : ℤ) → nat_abs z ≤ 2 ^ 25 → Read z
reads z h = let e = read z (2 ^ 25) h (lit< tt) in record { near = h; is = e; read_near = subst (λ (x : ℤ). nat_abs x ≤ 2 ^ 25) (sym e) h }

-- the least, and the greatest, of two numbers that are near
pub least : (x y z : ℤ) → nat_abs x ≤ 2 ^ 25 → nat_abs y ≤ 2 ^ 25 → z ≡ int_min (back w64 x) (back w64 y) → Read z × ((z ≤ℤ x) × (z ≤ℤ y))
least x y z h k e =
    let f : z ≡ int_min x y = e ∙ ap₂ int_min (reads x h).is (reads y k).is in
    (reads z (near x y z h k f), (below x y z f, other x y z f))
  where
    near : (x y z : ℤ) → nat_abs x ≤ 2 ^ 25 → nat_abs y ≤ 2 ^ 25 → z ≡ int_min x y → nat_abs z ≤ 2 ^ 25
    near x y z h k e = grind (arith, ints)

    below : (x y z : ℤ) → z ≡ int_min x y → z ≤ℤ x
    below x y z e = grind (arith, ints)

    other : (x y z : ℤ) → z ≡ int_min x y → z ≤ℤ y
    other x y z e = grind (arith, ints)

pub greatest : (x y z : ℤ) → nat_abs x ≤ 2 ^ 25 → nat_abs y ≤ 2 ^ 25 → z ≡ int_max (back w64 x) (back w64 y) → Read z × ((x ≤ℤ z) × (y ≤ℤ z))
greatest x y z h k e =
    let f : z ≡ int_max x y = e ∙ ap₂ int_max (reads x h).is (reads y k).is in
    (reads z (near x y z h k f), (above x y z f, other x y z f))
  where
    near : (x y z : ℤ) → nat_abs x ≤ 2 ^ 25 → nat_abs y ≤ 2 ^ 25 → z ≡ int_max x y → nat_abs z ≤ 2 ^ 25
    near x y z h k e = grind (arith, ints)

    above : (x y z : ℤ) → z ≡ int_max x y → x ≤ℤ z
    above x y z e = grind (arith, ints)

    other : (x y z : ℤ) → z ≡ int_max x y → y ≤ℤ z
    other x y z e = grind (arith, ints)

-- ---- the corners in the other order
turned_three : (a b c a' b' c' : Bool) → a ≡ b' → b ≡ a' → c ≡ c' → a && (b && (c && true)) ≡ a' && (b' && (c' && true))
turned_three a b c a' b' c' e f g = grind arith

turned_four : (a b c d a' b' c' d' : Bool) → a ≡ c' → b ≡ b' → c ≡ a' → d ≡ d' → a && (b && (c && (d && true))) ≡ a' && (b' && (c' && (d' && true)))
turned_four a b c d a' b' c' d' e f g h = grind arith

pub triangle_turned : (a b c : V3) (p : Sample) → left_of c (b ∷ a ∷ []) p ≡ right_of a (b ∷ c ∷ []) p
triangle_turned a b c p = turned_three _ _ _ _ _ _ (side_turned b c p) (side_turned a b p) (side_turned c a p)

pub quadrilateral_turned : (a b c d : V3) (p : Sample) → left_of d (c ∷ b ∷ a ∷ []) p ≡ right_of a (b ∷ c ∷ d ∷ []) p
quadrilateral_turned a b c d p = turned_four _ _ _ _ _ _ _ _ (side_turned c d p) (side_turned b c p) (side_turned a b p) (side_turned d a p)

-- ---- the rows outside: w is the rows of the window, a and b what the two cuts leave
not_over : (top : ℤ) (j : ℕ) → positive (pos 16) (pos 9 -ℤ top) j ≡ false → sample_at j <ℤ top
not_over top j h = let t : (pos 16 *ℤ pos j +ℤ (pos 9 -ℤ top)) ≤ℤ pos 0 = at_most (pos 16 *ℤ pos j +ℤ (pos 9 -ℤ top)) h in omega (arith, ints)
  where
    at_most : (x : ℤ) → lt_z (pos 0) x ≡ false → x ≤ℤ pos 0
    at_most x h = grind (arith, ints)

not_under : (bottom : ℤ) (j : ℕ) → positive (negsuc 15) (bottom -ℤ pos 7) j ≡ false → bottom <ℤ sample_at j
not_under bottom j h =
    let t : (negsuc 15 *ℤ pos j +ℤ (bottom -ℤ pos 7)) ≤ℤ pos 0 = at_most (negsuc 15 *ℤ pos j +ℤ (bottom -ℤ pos 7)) h in
    let e : negsuc 15 *ℤ pos j ≡ neg_ℤ (pos (16 * j)) = refl in
    omega (arith, ints)
  where
    at_most : (x : ℤ) → lt_z (pos 0) x ≡ false → x ≤ℤ pos 0
    at_most x h = grind (arith, ints)

pub no_row : (o : Outline) (w b : Bool) (i j : ℕ) → w ≡ true
    → b ≡ ((w && positive (pos 16) (pos 9 -ℤ o.top) j) && positive (negsuc 15) (o.bottom -ℤ pos 7) j) → b ≡ false → covers o i j ≡ false
no_row o w b i j hw hb e =
    ⊎_elim
    (λ (x : (w && positive (pos 16) (pos 9 -ℤ o.top) j) ≡ false).
    ⊎_elim
    (λ (y : w ≡ false). absurd (true≢false (sym hw ∙ y)))
    (λ (y : positive (pos 16) (pos 9 -ℤ o.top) j ≡ false). o.framed.over_top i j (not_over o.top j y))
    (and_cases w (positive (pos 16) (pos 9 -ℤ o.top) j) x))
    (λ (x : positive (negsuc 15) (o.bottom -ℤ pos 7) j ≡ false). o.framed.under_bottom i j (not_under o.bottom j x))
    (and_cases (w && positive (pos 16) (pos 9 -ℤ o.top) j) (positive (negsuc 15) (o.bottom -ℤ pos 7) j) (sym hb ∙ e))
