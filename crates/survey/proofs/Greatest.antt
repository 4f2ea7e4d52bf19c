-- The height of a receiver is the greatest of the ground and of what was laid there.
use Rattle.std.proofs.Common.{◌≡◌, ℕ, zero, suc, ◌<◌, ◌⊎◌, List, [], ◌∷◌, ℤ, ◌≤ℤ◌, Some, None, Option, sym, refl, ap, ◌∙◌, subst, inl, inr, arith}
use Rattle.std.specs.Int.{int_max}
use Rattle.std.proofs.lemmas.Int.{ints, clamps}
use Rattle.std.proofs.lemmas.Bool.{cases_eq}
use Rattle.algebra.specs.Maxima.{raised_by, maximum_over_some}
use Rattle.algebra.proofs.Maxima.{maximum_over_some-push, maximum_over_some-join}
use Rattle.solids.specs.Solids.{SolidModel}
use Rattle.volumes.specs.Faces.{Sample}
use Rattle.survey.specs.Drawing.{sample_of}
use Rattle.survey.specs.Changes.{lay_at, lays_below, lays_of}
use Rattle.survey.specs.Account.{all_lays, receiver_height}
use Rattle.survey.specs.Greatest.{Among, LaysOn, HeightsAreGreatest}

-- ---- one step
raised_over : (x : ℤ) (o : Option ℤ) → x ≤ℤ raised_by x o
raised_over x None = omega (arith, ints)
raised_over x (Some h) = omega (arith, ints, clamps)

raised_by_lem : (x h : ℤ) (o : Option ℤ) → o ≡ Some h → h ≤ℤ raised_by x o
raised_by_lem x h o e = subst (λ (p : Option ℤ). h ≤ℤ raised_by x p) (sym e) (over x h)
  where
    over : (x h : ℤ) → h ≤ℤ int_max x h
    over x h = omega (arith, ints, clamps)

raised_is : (x : ℤ) (o : Option ℤ) → (raised_by x o ≡ x) ⊎ (o ≡ Some (raised_by x o))
raised_is x None = inl refl
raised_is x (Some h) = go (either x h)
  where
    either : (x h : ℤ) → (int_max x h ≡ x) ⊎ (int_max x h ≡ h)
    either x h = grind (arith, ints, clamps)

    go : (int_max x h ≡ x) ⊎ (int_max x h ≡ h) → (int_max x h ≡ x) ⊎ (Some h ≡ Some (int_max x h))
    go (inl e) = inl e
    go (inr e) = inr (ap Some (sym e))

max_left : (x y : ℤ) → x ≤ℤ int_max x y
max_left x y = omega (arith, ints, clamps)

max_right : (x y : ℤ) → y ≤ℤ int_max x y
max_right x y = omega (arith, ints, clamps)

max_is : (x y : ℤ) → (int_max x y ≡ x) ⊎ (int_max x y ≡ y)
max_is x y = grind (arith, ints, clamps)

le_trans : (x y z : ℤ) → x ≤ℤ y → y ≤ℤ z → x ≤ℤ z
le_trans x y z p q = omega (arith, ints)

-- ---- the triangles of one solid
abbrev top_below : ℤ → SolidModel → Sample → ℕ → ℤ
top_below g S p n = maximum_over_some g (lays_below S n p)

top_more : (g : ℤ) (S : SolidModel) (p : Sample) (n : ℕ) → top_below g S p (suc n) ≡ raised_by (top_below g S p n) (lay_at S n p)
top_more g S p n = maximum_over_some-push g (lays_below S n p) (lay_at S n p)

top_laid : (g : ℤ) (S : SolidModel) (p : Sample) (n j : ℕ) (h : ℤ) → j < n → lay_at S j p ≡ Some h → h ≤ℤ top_below g S p n
top_laid g S p zero j h l e = absurd (omega arith)
top_laid g S p (suc n) j h l e = go (cases_eq j n) (top_laid g S p n j h)
  where
    go : (j ≡ n) ⊎ (j ≡ n → ⊥) → (j < n → lay_at S j p ≡ Some h → h ≤ℤ top_below g S p n) → h ≤ℤ top_below g S p (suc n)
    go (inl i) ih =
        subst (λ (z : ℤ). h ≤ℤ z) (sym (top_more g S p n)) (raised_by_lem (top_below g S p n) h (lay_at S n p) (ap (λ (k : ℕ). lay_at S k p) (sym i) ∙ e))
    go (inr i) ih =
        le_trans h (top_below g S p n) (top_below g S p (suc n)) (ih (omega arith) e)
        (subst (λ (z : ℤ). top_below g S p n ≤ℤ z) (sym (top_more g S p n)) (raised_over (top_below g S p n) (lay_at S n p)))

-- where it is reached: by which triangle
abbrev By : SolidModel → Sample → ℕ → ℤ → Type 0
By S p n h = (j : ℕ) × (j < n) × (lay_at S j p ≡ Some h)

top_reached : (g : ℤ) (S : SolidModel) (p : Sample) (n : ℕ) → (top_below g S p n ≡ g) ⊎ By S p n (top_below g S p n)
top_reached g S p zero = inl refl
top_reached g S p (suc n) = go (raised_is (top_below g S p n) (lay_at S n p)) (top_reached g S p n)
  where
    more : top_below g S p (suc n) ≡ raised_by (top_below g S p n) (lay_at S n p)
    more = top_more g S p n

    go : (raised_by (top_below g S p n) (lay_at S n p) ≡ top_below g S p n) ⊎ (lay_at S n p ≡ Some (raised_by (top_below g S p n) (lay_at S n p)))
        → (top_below g S p n ≡ g) ⊎ By S p n (top_below g S p n) → (top_below g S p (suc n) ≡ g) ⊎ By S p (suc n) (top_below g S p (suc n))
    go (inl e) (inl f) = inl (more ∙ e ∙ f)
    go (inl e) (inr f) = inr (f.0, omega arith, f.2 ∙ ap Some (sym (more ∙ e)))
    go (inr e) _ = inr (n, omega arith, e ∙ ap Some (sym more))

-- ---- all solids
abbrev top_of : ℤ → List SolidModel → Sample → ℤ
top_of g Ss p = maximum_over_some g (all_lays Ss p)

all_more : (g : ℤ) (S : SolidModel) (Ss : List SolidModel) (p : Sample) → top_of g (S ∷ Ss) p ≡ int_max (top_below g S p S.triangles) (top_of g Ss p)
all_more g S Ss p = maximum_over_some-join g (lays_of S p) (all_lays Ss p)

all_ground : (g : ℤ) (Ss : List SolidModel) (p : Sample) → g ≤ℤ top_of g Ss p
all_ground g [] p = omega (arith, ints)
all_ground g (S ∷ Ss) p =
    le_trans g (top_of g Ss p) (top_of g (S ∷ Ss) p) (all_ground g Ss p)
    (subst (λ (z : ℤ). top_of g Ss p ≤ℤ z) (sym (all_more g S Ss p)) (max_right (top_below g S p S.triangles) (top_of g Ss p)))

all_laid : (g : ℤ) (Ss : List SolidModel) (p : Sample) (R : SolidModel) (j : ℕ) (h : ℤ) → Among R Ss → j < R.triangles → lay_at R j p ≡ Some h → h ≤ℤ top_of g Ss p
all_laid g [] p R j h is l e = absurd is
all_laid g (S ∷ Ss) p R j h (inl is) l e =
    let there : h ≤ℤ top_below g R p R.triangles = top_laid g R p R.triangles j h l e in
    le_trans h (top_below g S p S.triangles) (top_of g (S ∷ Ss) p) (subst (λ (T : SolidModel). h ≤ℤ top_below g T p T.triangles) is there)
    (subst (λ (z : ℤ). top_below g S p S.triangles ≤ℤ z) (sym (all_more g S Ss p)) (max_left (top_below g S p S.triangles) (top_of g Ss p)))
all_laid g (S ∷ Ss) p R j h (inr is) l e =
    le_trans h (top_of g Ss p) (top_of g (S ∷ Ss) p) (all_laid g Ss p R j h is l e)
    (subst (λ (z : ℤ). top_of g Ss p ≤ℤ z) (sym (all_more g S Ss p)) (max_right (top_below g S p S.triangles) (top_of g Ss p)))

abbrev ByOne : List SolidModel → Sample → ℤ → Type 0
ByOne Ss p h = (R : SolidModel) × Among R Ss × By R p R.triangles h

all_reached : (g : ℤ) (Ss : List SolidModel) (p : Sample) → (top_of g Ss p ≡ g) ⊎ ByOne Ss p (top_of g Ss p)
all_reached g [] p = inl refl
all_reached g (S ∷ Ss) p = go (max_is (top_below g S p S.triangles) (top_of g Ss p)) (top_reached g S p S.triangles) (all_reached g Ss p)
  where
    more : top_of g (S ∷ Ss) p ≡ int_max (top_below g S p S.triangles) (top_of g Ss p)
    more = all_more g S Ss p

    go : (int_max (top_below g S p S.triangles) (top_of g Ss p) ≡ top_below g S p S.triangles) ⊎ (int_max (top_below g S p S.triangles) (top_of g Ss p) ≡ top_of g Ss p)
        → (top_below g S p S.triangles ≡ g) ⊎ By S p S.triangles (top_below g S p S.triangles)
        → (top_of g Ss p ≡ g) ⊎ ByOne Ss p (top_of g Ss p)
        → (top_of g (S ∷ Ss) p ≡ g) ⊎ ByOne (S ∷ Ss) p (top_of g (S ∷ Ss) p)
    go (inl e) (inl f) _ = inl (more ∙ e ∙ f)
    go (inl e) (inr f) _ = inr (S, inl refl, subst (By S p S.triangles) (sym (more ∙ e)) f)
    go (inr e) _ (inl f) = inl (more ∙ e ∙ f)
    go (inr e) _ (inr f) = inr (f.0, inr f.1, subst (By f.0 p f.0.triangles) (sym (more ∙ e)) f.2)

pub heights_are_greatest : HeightsAreGreatest
heights_are_greatest a k l = record {
  from_ground = all_ground a.ground a.lays (sample_of k l);
  from_laid = λ h on. all_laid a.ground a.lays (sample_of k l) on.solid on.number h on.accepted on.its_own on.lays;
  reached = go (all_reached a.ground a.lays (sample_of k l));
}
  where
    go : (receiver_height a k l ≡ a.ground) ⊎ ByOne a.lays (sample_of k l) (receiver_height a k l) → (receiver_height a k l ≡ a.ground) ⊎ LaysOn a k l (receiver_height a k l)
    go (inl e) = inl e
    go (inr r) = inr record { solid = r.0; accepted = r.1; number = r.2.0; its_own = r.2.1; lays = r.2.2 }
