-- A sample that lies above all corners of a polygon, or below them all, in the plan, is not on the positive side of all its sides:
-- seen from it, each corner would be ahead of the next, and the first ahead of itself.
use Rattle.std.proofs.Common.{◌≡◌, zero, suc, Bool, true, false, ◌⊎◌, List, [], ◌∷◌, ℤ, pos, negsuc, ◌+ℤ◌, ◌-ℤ◌, ◌*ℤ◌, ◌≤ℤ◌, ◌<ℤ◌, sym, refl, ap, ◌∙◌, ap₂, inl, inr, ⊎_elim, arith}
use Rattle.std.proofs.lemmas.Int.{ints}
use Rattle.std.proofs.lemmas.Bool.{false≢true, and_parts, cases_Bool}
use Rattle.algebra.proofs.Ring.{solve, num, ◌⊕◌, ◌⊖◌, ◌⊗◌, ◌≗◌}
use Rattle.algebra.proofs.Order.{mul_pos_pos, mul_nonneg, pos_of_mul, zero_of_mul, pos→ne}
use Rattle.geometry.specs.Vectors.{V3}
use Rattle.geometry.specs.Signs.{sign_of, ◌or_else◌, is_positive}
use Rattle.volumes.specs.Faces.{Sample, side_sign, sides_from, all_positive}
use Rattle.survey.specs.Sides.{left_of}

-- how far the corner of the coordinate y is from the sample, downwards or upwards
abbrev pub away : Bool → ℤ → Sample → ℤ
away true y p = y -ℤ p.y
away false y p = p.y -ℤ y

abbrev across : V3 → V3 → Sample → ℤ
across u v p = (v.x -ℤ u.x) *ℤ (p.y -ℤ u.y) -ℤ (v.y -ℤ u.y) *ℤ (p.x -ℤ u.x)

-- u is ahead of v: turned further round the sample, or on the same ray and further down
abbrev Ahead : V3 → V3 → Sample → Type 0
Ahead u v p = (pos 0 <ℤ across u v p) ⊎ ((across u v p ≡ pos 0) × (v.y <ℤ u.y))

-- ---- ahead of one that is ahead
sum_pos_left : (a b c zu zv zw : ℤ) → pos 0 <ℤ zu → pos 0 <ℤ zv → pos 0 <ℤ zw → zv *ℤ c ≡ zw *ℤ a +ℤ zu *ℤ b → pos 0 <ℤ a → pos 0 ≤ℤ b → pos 0 <ℤ c
sum_pos_left a b c zu zv zw hu hv hw e ha hb =
    let p : pos 0 <ℤ (zw *ℤ a) = mul_pos_pos hw ha in
    let q : pos 0 ≤ℤ (zu *ℤ b) = mul_nonneg (weak zu hu) hb in
    pos_of_mul zv c hv (plus (zv *ℤ c) (zw *ℤ a) (zu *ℤ b) e p q)
  where
    weak : (x : ℤ) → pos 0 <ℤ x → pos 0 ≤ℤ x
    weak x h = omega (arith, ints)

    plus : (x y z : ℤ) → x ≡ y +ℤ z → pos 0 <ℤ y → pos 0 ≤ℤ z → pos 0 <ℤ x
    plus x y z e p q = omega (arith, ints)

swap : (z x y : ℤ) → z ≡ x +ℤ y → z ≡ y +ℤ x
swap z x y e = omega (arith, ints)

sum_zero : (a b c zu zv zw : ℤ) → pos 0 <ℤ zv → zv *ℤ c ≡ zw *ℤ a +ℤ zu *ℤ b → a ≡ pos 0 → b ≡ pos 0 → c ≡ pos 0
sum_zero a b c zu zv zw hv e f g = zero_of_mul zv c (pos→ne hv) (e ∙ ap₂ (λ (x y : ℤ). zw *ℤ x +ℤ zu *ℤ y) f g ∙ none zw zu)
  where
    none : (x y : ℤ) → x *ℤ pos 0 +ℤ y *ℤ pos 0 ≡ pos 0
    none x y = solve 2 (λ x y. x ⊗ num 0 ⊕ y ⊗ num 0 ≗ num 0) refl x y

three : (s : Bool) (u v w : V3) (p : Sample) → away s v.y p *ℤ across u w p ≡ away s w.y p *ℤ across u v p +ℤ away s u.y p *ℤ across v w p
three true u v w p =
    solve 8
    (λ ux uy vx vy wx wy px py.
    (vy ⊖ py) ⊗ ((wx ⊖ ux) ⊗ (py ⊖ uy) ⊖ (wy ⊖ uy) ⊗ (px ⊖ ux))
    ≗ (wy ⊖ py) ⊗ ((vx ⊖ ux) ⊗ (py ⊖ uy) ⊖ (vy ⊖ uy) ⊗ (px ⊖ ux)) ⊕ (uy ⊖ py) ⊗ ((wx ⊖ vx) ⊗ (py ⊖ vy) ⊖ (wy ⊖ vy) ⊗ (px ⊖ vx)))
    refl u.x u.y v.x v.y w.x w.y p.x p.y
three false u v w p =
    solve 8
    (λ ux uy vx vy wx wy px py.
    (py ⊖ vy) ⊗ ((wx ⊖ ux) ⊗ (py ⊖ uy) ⊖ (wy ⊖ uy) ⊗ (px ⊖ ux))
    ≗ (py ⊖ wy) ⊗ ((vx ⊖ ux) ⊗ (py ⊖ uy) ⊖ (vy ⊖ uy) ⊗ (px ⊖ ux)) ⊕ (py ⊖ uy) ⊗ ((wx ⊖ vx) ⊗ (py ⊖ vy) ⊖ (wy ⊖ vy) ⊗ (px ⊖ vx)))
    refl u.x u.y v.x v.y w.x w.y p.x p.y

pos_nonneg : (x : ℤ) → pos 0 <ℤ x → pos 0 ≤ℤ x
pos_nonneg x h = omega (arith, ints)

zero_nonneg : (x : ℤ) → x ≡ pos 0 → pos 0 ≤ℤ x
zero_nonneg x h = omega (arith, ints)

less : (x y z : ℤ) → y <ℤ x → z <ℤ y → z <ℤ x
less x y z h k = omega (arith, ints)

further : (s : Bool) (u v w : V3) (p : Sample) → pos 0 <ℤ away s u.y p → pos 0 <ℤ away s v.y p → pos 0 <ℤ away s w.y p → Ahead u v p → Ahead v w p → Ahead u w p
further s u v w p hu hv hw (inl a) (inl b) =
    inl (sum_pos_left (across u v p) (across v w p) (across u w p) _ _ _ hu hv hw (three s u v w p) a (pos_nonneg (across v w p) b))
further s u v w p hu hv hw (inl a) (inr b) =
    inl (sum_pos_left (across u v p) (across v w p) (across u w p) _ _ _ hu hv hw (three s u v w p) a (zero_nonneg (across v w p) b.0))
further s u v w p hu hv hw (inr a) (inl b) =
    inl (sum_pos_left (across v w p) (across u v p) (across u w p) _ _ _ hw hv hu
    (swap (away s v.y p *ℤ across u w p) (away s w.y p *ℤ across u v p) (away s u.y p *ℤ across v w p) (three s u v w p)) b (zero_nonneg (across u v p) a.0))
further s u v w p hu hv hw (inr a) (inr b) =
    inr (sum_zero (across u v p) (across v w p) (across u w p) _ _ _ hv (three s u v w p) a.0 b.0, less u.y v.y w.y a.1 b.1)

-- ---- a side that has the sample on its positive side
told : (e dy dx : ℤ) → is_positive (sign_of e or_else sign_of dy or_else sign_of dx) ≡ true
    → (pos 0 <ℤ e) ⊎ ((e ≡ pos 0) × ((pos 0 <ℤ dy) ⊎ ((dy ≡ pos 0) × (pos 0 <ℤ dx))))
told (pos (suc n)) dy dx h = inl (omega (arith, ints))
told (negsuc n) dy dx h = absurd (false≢true h)
told (pos zero) (pos (suc m)) dx h = inr (refl, inl (omega (arith, ints)))
told (pos zero) (negsuc m) dx h = absurd (false≢true h)
told (pos zero) (pos zero) (pos (suc k)) h = inr (refl, inr (refl, omega (arith, ints)))
told (pos zero) (pos zero) (pos zero) h = absurd (false≢true h)
told (pos zero) (pos zero) (negsuc k) h = absurd (false≢true h)

split : (u v : V3) (p : Sample) → across u v p ≡ (v.x -ℤ u.x) *ℤ (p.y -ℤ u.y) +ℤ (u.y -ℤ v.y) *ℤ (p.x -ℤ u.x)
split u v p =
    solve 6 (λ ux uy vx vy px py. (vx ⊖ ux) ⊗ (py ⊖ uy) ⊖ (vy ⊖ uy) ⊗ (px ⊖ ux) ≗ (vx ⊖ ux) ⊗ (py ⊖ uy) ⊕ (uy ⊖ vy) ⊗ (px ⊖ ux)) refl u.x u.y v.x v.y p.x p.y

level : (e dx dy q r : ℤ) → e ≡ dx *ℤ q +ℤ dy *ℤ r → e ≡ pos 0 → dy ≡ pos 0 → pos 0 <ℤ dx → q ≡ pos 0
level e dx dy q r f g h k = zero_of_mul dx q (pos→ne k) (gone (dx *ℤ q) r ∙ ap (λ (y : ℤ). dx *ℤ q +ℤ y *ℤ r) (sym h) ∙ sym f ∙ g)
  where
    gone : (x r : ℤ) → x ≡ x +ℤ pos 0 *ℤ r
    gone x r = solve 2 (λ x r. x ≗ x ⊕ num 0 ⊗ r) refl x r

off : (s : Bool) (y : ℤ) (p : Sample) → pos 0 <ℤ away s y p → p.y -ℤ y ≡ pos 0 → ⊥
off true y p h e = omega (arith, ints)
off false y p h e = omega (arith, ints)

lower : (x y : ℤ) → pos 0 <ℤ (x -ℤ y) → y <ℤ x
lower x y h = omega (arith, ints)

ahead : (s : Bool) (u v : V3) (p : Sample) → pos 0 <ℤ away s u.y p → is_positive (side_sign u v p) ≡ true → Ahead u v p
ahead s u v p hu h =
    ⊎_elim
    (λ (a : pos 0 <ℤ across u v p). inl a)
    (λ (a : (across u v p ≡ pos 0) × ((pos 0 <ℤ (u.y -ℤ v.y)) ⊎ ((u.y -ℤ v.y ≡ pos 0) × (pos 0 <ℤ (v.x -ℤ u.x))))).
    ⊎_elim
    (λ (b : pos 0 <ℤ (u.y -ℤ v.y)). inr (a.0, lower u.y v.y b))
    (λ (b : (u.y -ℤ v.y ≡ pos 0) × (pos 0 <ℤ (v.x -ℤ u.x))).
    absurd (off s u.y p hu (level (across u v p) (v.x -ℤ u.x) (u.y -ℤ v.y) (p.y -ℤ u.y) (p.x -ℤ u.x) (split u v p) a.0 b.0 b.1)))
    a.1)
    (told (across u v p) (u.y -ℤ v.y) (v.x -ℤ u.x) h)

-- ---- once round
abbrev pub Beyond : Bool → List V3 → Sample → Type 0
Beyond s [] p = Unit {0}
Beyond s (v ∷ vs) p = (pos 0 <ℤ away s v.y p) × Beyond s vs p

chain : (s : Bool) (first u : V3) (vs : List V3) (p : Sample) → pos 0 <ℤ away s u.y p → Beyond s vs p → pos 0 <ℤ away s first.y p → all_positive (sides_from side_sign first u vs p) ≡ true
    → Ahead u first p
chain s first u [] p hu b hf h = ahead s u first p hu (and_parts (is_positive (side_sign u first p)) true h).0
chain s first u (v ∷ vs) p hu b hf h =
    let q = and_parts (is_positive (side_sign u v p)) (all_positive (sides_from side_sign first v vs p)) h in
    further s u v first p hu b.0 hf (ahead s u v p hu q.0) (chain s first v vs p b.0 b.1 hf q.1)

self : (u : V3) (p : Sample) → across u u p ≡ pos 0
self u p = solve 4 (λ x y px py. (x ⊖ x) ⊗ (py ⊖ y) ⊖ (y ⊖ y) ⊗ (px ⊖ x) ≗ num 0) refl u.x u.y p.x p.y

no_self : (u : V3) (p : Sample) → Ahead u u p → ⊥
no_self u p (inl a) = clash (across u u p) a (self u p)
  where
    clash : (x : ℤ) → pos 0 <ℤ x → x ≡ pos 0 → ⊥
    clash x h e = omega (arith, ints)
no_self u p (inr a) = irr u.y a.1
  where
    irr : (x : ℤ) → x <ℤ x → ⊥
    irr x h = omega (arith, ints)

pub beyond : (s : Bool) (u : V3) (vs : List V3) (p : Sample) → Beyond s (u ∷ vs) p → left_of u vs p ≡ false
beyond s u vs p b =
    ⊎_elim (λ (h : left_of u vs p ≡ true). absurd (no_self u p (chain s u u vs p b.0 b.1 b.0 h))) (λ (h : left_of u vs p ≡ false). h) (cases_Bool (left_of u vs p))

-- ---- of corners whose coordinates are at least `top` and at most `bottom`
abbrev pub Between : ℤ → ℤ → List V3 → Type 0
Between top bottom [] = Unit {0}
Between top bottom (v ∷ vs) = ((top ≤ℤ v.y) × (v.y ≤ℤ bottom)) × Between top bottom vs

over : (top bottom : ℤ) (vs : List V3) (p : Sample) → p.y <ℤ top → Between top bottom vs → Beyond true vs p
over top bottom [] p h b = tt
over top bottom (v ∷ vs) p h b = (far v.y p.y b.0.0 h, over top bottom vs p h b.1)
  where
    far : (y q : ℤ) → top ≤ℤ y → q <ℤ top → pos 0 <ℤ (y -ℤ q)
    far y q k l = omega (arith, ints)

under : (top bottom : ℤ) (vs : List V3) (p : Sample) → bottom <ℤ p.y → Between top bottom vs → Beyond false vs p
under top bottom [] p h b = tt
under top bottom (v ∷ vs) p h b = (far v.y p.y b.0.1 h, under top bottom vs p h b.1)
  where
    far : (y q : ℤ) → y ≤ℤ bottom → bottom <ℤ q → pos 0 <ℤ (q -ℤ y)
    far y q k l = omega (arith, ints)

pub none_over : (top bottom : ℤ) (u : V3) (vs : List V3) (p : Sample) → Between top bottom (u ∷ vs) → p.y <ℤ top → left_of u vs p ≡ false
none_over top bottom u vs p b h = beyond true u vs p (over top bottom (u ∷ vs) p h b)

pub none_under : (top bottom : ℤ) (u : V3) (vs : List V3) (p : Sample) → Between top bottom (u ∷ vs) → bottom <ℤ p.y → left_of u vs p ≡ false
none_under top bottom u vs p b h = beyond false u vs p (under top bottom (u ∷ vs) p h b)
