-- The function of a side is positive where the side's sign is: the tie is folded into its constant.
use Rattle.std.proofs.Common.{◌≡◌, ℕ, zero, suc, ◌≤◌, Bool, true, false, cond, ℤ, pos, negsuc, ◌+ℤ◌, ◌-ℤ◌, ◌*ℤ◌, neg_ℤ, nat_abs, sym, refl, ap, ◌∙◌, arith}
use lib.Signed.{lt_z}
use Rattle.std.proofs.lemmas.Int.{ints}
use Rattle.std.proofs.lemmas.Bool.Decides.{nat_tests}
use Rattle.algebra.proofs.Ring.{solve, num, ◌⊕◌, ◌⊖◌, ◌⊗◌, ⊝◌, ◌≗◌}
use Rattle.geometry.specs.Vectors.{V3}
use Rattle.geometry.specs.Signs.{Sign, sign_of, ◌or_else◌, is_positive, is_negative}
use Rattle.geometry.proofs.Signs.{flip_side, up_down, less_turned}
use Rattle.volumes.specs.Faces.{Sample, side_sign}
use Rattle.survey.specs.Drawing.{sample_of}
use Rattle.survey.specs.Sides.{inner, leans}

-- ---- the tie
leans_is : (a b : ℤ) → is_positive (sign_of a or_else sign_of b) ≡ leans a b
leans_is (pos zero) (pos zero) = refl
leans_is (pos zero) (pos (suc n)) = grind (arith, ints, nat_tests)
leans_is (pos zero) (negsuc n) = refl
leans_is (pos (suc m)) b = grind (arith, ints, nat_tests)
leans_is (negsuc m) b = refl

-- a whole number is positive, or 0 with the tie, just where it is positive with the tie added
tied : (e : ℤ) (s : Sign) (t : Bool) → is_positive s ≡ t → lt_z (pos 0) (e +ℤ cond t (pos 1) (pos 0)) ≡ is_positive (sign_of e or_else s)
tied (pos zero) s true h = sym h
tied (pos zero) s false h = sym h
tied (pos (suc n)) s true h = grind (arith, ints, nat_tests)
tied (pos (suc n)) s false h = grind (arith, ints, nat_tests)
tied (negsuc n) s true h = grind (arith, ints, nat_tests)
tied (negsuc n) s false h = grind (arith, ints, nat_tests)

pub tie_small : (t : Bool) → nat_abs (cond t (pos 1) (pos 0)) ≤ 1
tie_small true = omega arith
tie_small false = omega arith

-- ---- the function
abbrev across : ℤ → ℤ → ℤ → ℤ → ℤ → ℤ → ℤ
across ux uy vx vy px py = (vx -ℤ ux) *ℤ (py -ℤ uy) -ℤ (vy -ℤ uy) *ℤ (px -ℤ ux)

expanded : (ux uy vx vy I J t : ℤ)
    → (pos 16 *ℤ (uy -ℤ vy)) *ℤ I +ℤ ((pos 16 *ℤ (vx -ℤ ux)) *ℤ J +ℤ ((vx -ℤ ux) *ℤ (pos 8 -ℤ uy) +ℤ (uy -ℤ vy) *ℤ (pos 8 -ℤ ux) +ℤ t))
    ≡ across ux uy vx vy (pos 16 *ℤ I +ℤ pos 8) (pos 16 *ℤ J +ℤ pos 8) +ℤ t
expanded ux uy vx vy I J t =
    solve 7
    (λ ux uy vx vy I J t.
    (num 16 ⊗ (uy ⊖ vy)) ⊗ I ⊕ ((num 16 ⊗ (vx ⊖ ux)) ⊗ J ⊕ ((vx ⊖ ux) ⊗ (num 8 ⊖ uy) ⊕ (uy ⊖ vy) ⊗ (num 8 ⊖ ux) ⊕ t))
    ≗ ((vx ⊖ ux) ⊗ ((num 16 ⊗ J ⊕ num 8) ⊖ uy) ⊖ (vy ⊖ uy) ⊗ ((num 16 ⊗ I ⊕ num 8) ⊖ ux)) ⊕ t)
    refl ux uy vx vy I J t

pub on_side : (u v : V3) (t : ℤ) (i j : ℕ) → t ≡ cond (leans (u.y -ℤ v.y) (v.x -ℤ u.x)) (pos 1) (pos 0)
    → inner (pos 16 *ℤ (u.y -ℤ v.y)) (pos 16 *ℤ (v.x -ℤ u.x)) ((v.x -ℤ u.x) *ℤ (pos 8 -ℤ u.y) +ℤ (u.y -ℤ v.y) *ℤ (pos 8 -ℤ u.x) +ℤ t) i j
    ≡ is_positive (side_sign u v (sample_of i j))
on_side u v t i j h =
    let p : Sample = sample_of i j in
    ap (lt_z (pos 0)) (expanded u.x u.y v.x v.y (pos i) (pos j) t ∙ ap (λ (x : ℤ). across u.x u.y v.x v.y p.x p.y +ℤ x) h)
    ∙ tied (across u.x u.y v.x v.y p.x p.y) (sign_of (u.y -ℤ v.y) or_else sign_of (v.x -ℤ u.x)) (leans (u.y -ℤ v.y) (v.x -ℤ u.x)) (leans_is (u.y -ℤ v.y) (v.x -ℤ u.x))

pub everywhere_is : (a b c : ℤ) (i j : ℕ) → a ≡ pos 0 → b ≡ pos 0 → c ≡ pos 1 → inner a b c i j ≡ true
everywhere_is a b c i j e f g = ap (λ (x : ℤ). inner x b c i j) e ∙ ap (λ (x : ℤ). inner (pos 0) x c i j) f ∙ ap (λ (x : ℤ). inner (pos 0) (pos 0) x i j) g ∙ all (pos i) (pos j)
  where
    one : (x : ℤ) → x ≡ pos 1 → lt_z (pos 0) x ≡ true
    one x e = grind (arith, ints, nat_tests)

    all : (I J : ℤ) → lt_z (pos 0) (pos 0 *ℤ I +ℤ (pos 0 *ℤ J +ℤ pos 1)) ≡ true
    all I J = one (pos 0 *ℤ I +ℤ (pos 0 *ℤ J +ℤ pos 1)) (solve 2 (λ I J. num 0 ⊗ I ⊕ (num 0 ⊗ J ⊕ num 1) ≗ num 1) refl I J)

-- ---- a side turned round
across_turned : (u v : V3) (p : Sample) → across v.x v.y u.x u.y p.x p.y ≡ neg_ℤ (across u.x u.y v.x v.y p.x p.y)
across_turned u v p =
    solve 6 (λ ux uy vx vy px py. (ux ⊖ vx) ⊗ (py ⊖ vy) ⊖ (uy ⊖ vy) ⊗ (px ⊖ vx) ≗ ⊝ ((vx ⊖ ux) ⊗ (py ⊖ uy) ⊖ (vy ⊖ uy) ⊗ (px ⊖ ux))) refl u.x u.y v.x v.y p.x p.y

pub side_turned : (u v : V3) (p : Sample) → is_positive (side_sign v u p) ≡ is_negative (side_sign u v p)
side_turned u v p =
    ap is_positive
    (flip_side (across u.x u.y v.x v.y p.x p.y) (u.y -ℤ v.y) (v.x -ℤ u.x) (across v.x v.y u.x u.y p.x p.y) (v.y -ℤ u.y) (u.x -ℤ v.x)
    (across_turned u v p) (less_turned v.y u.y) (less_turned u.x v.x))
    ∙ up_down (side_sign u v p)
