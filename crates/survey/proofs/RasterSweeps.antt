-- Painted parts of a plane put together.
use Rattle.std.proofs.Common.{◌≡◌, ℕ, ◌+◌, ◌%◌, ◌<◌, ◌≤◌, Bool, true, false, cond, ◌&&◌, ◌||◌, eqb, ℤ, pos, ◌+ℤ◌, Some, None, Option, sym, refl, ap, ◌∙◌, ⊎_elim, add-zero, mod-eq_of_lt, arith}
use Rattle.std.specs.Int.{int_max}
use Rattle.std.proofs.lemmas.Bool.Decides.{nat_tests}
use Rattle.std.proofs.lemmas.Bool.{true≢false, cases_lt, cases_Bool, cond-false, eqb-true, and_parts}
use Rattle.algebra.specs.Counts.{mod_z}
use Rattle.algebra.specs.Maxima.{raised_by}
use Rattle.planes.specs.Planes.{PlaneModel, SameShape, Sound, Counted, Raised, inside, in_window, same, is_height}
use Rattle.survey.specs.Spans.{within}
use Rattle.survey.specs.Raster.{Painted}

-- ---- shapes
pub shape_same : (m : PlaneModel) → SameShape m m
shape_same m = record { width = refl; rows = refl; modulus = refl; c0 = refl; r0 = refl; c1 = refl; r1 = refl }

pub shape_join : (m n o : PlaneModel) → SameShape m n → SameShape n o → SameShape m o
shape_join m n o a b = record {
  width = b.width ∙ a.width;
  rows = b.rows ∙ a.rows;
  modulus = b.modulus ∙ a.modulus;
  c0 = b.c0 ∙ a.c0;
  r0 = b.r0 ∙ a.r0;
  c1 = b.c1 ∙ a.c1;
  r1 = b.r1 ∙ a.r1;
}

pub window_same : (m n : PlaneModel) → SameShape m n → (k l : ℕ) → in_window n k l ≡ in_window m k l
window_same m n s k l = rw (s.c0, s.c1, s.r0, s.r1)

-- a pixel outside the plane is outside its window
pub outside : (m : PlaneModel) → Sound m → (i j : ℕ) → inside m i j ≡ false → in_window m i j ≡ false
outside m s i j h = let a = s.columns in let b = s.lines in grind (arith, nat_tests)

cond_same : {X : Type 0} (b : Bool) (x : X) → cond b x x ≡ x
cond_same true x = refl
cond_same false x = refl

-- ---- one pixel. What is asked for at it is what is done there, where it is in the window
at_pixel : {X : Type 0} (w : ℕ → ℕ → Bool) (F G : ℕ → ℕ → X) (i j k l : ℕ) (y : X) → (w i j ≡ true → G i j ≡ F i j)
    → cond (w i j && same i j k l) (G k l) y ≡ cond (w k l && same i j k l) (F k l) y
at_pixel {X} w F G i j k l y h =
    ⊎_elim
    (λ (e : same i j k l ≡ true).
    let q = and_parts (eqb k i) (eqb l j) e in
    here k l (eqb-true k i q.0) (eqb-true l j q.1) (same i j k l))
    (λ (e : same i j k l ≡ false). off (w i j) (same i j k l) (G k l) e ∙ sym (off (w k l) (same i j k l) (F k l) e))
    (cases_Bool (same i j k l))
  where
    off : (a b : Bool) (x : X) → b ≡ false → cond (a && b) x y ≡ y
    off true b x e = cond-false b x y e
    off false b x e = refl

    inside_window : (a s : Bool) (g f : X) → (a ≡ true → g ≡ f) → cond (a && s) g y ≡ cond (a && s) f y
    inside_window true s g f k = ap (λ (x : X). cond s x y) (k refl)
    inside_window false s g f k = refl

    here : (k l : ℕ) → k ≡ i → l ≡ j → (s : Bool) → cond (w i j && s) (G k l) y ≡ cond (w k l && s) (F k l) y
    here k l e f s = rw (e, f) (inside_window (w i j) s (G i j) (F i j) h)

module _ (m n : PlaneModel) (i j : ℕ) (lays : ℕ → ℕ → Option ℤ) (adds : ℕ → ℕ → ℤ → ℤ) where
  -- the pixel's height becomes H and its count C
  pixel : (H : ℕ → ℕ → ℤ) (C : ℕ → ℕ → ℕ) → SameShape m n
      → ((k l : ℕ) → n.height k l ≡ cond (in_window m i j && same i j k l) (H k l) (m.height k l))
      → ((k l : ℕ) → n.count k l ≡ cond (in_window m i j && same i j k l) (C k l) (m.count k l))
      → (in_window m i j ≡ true → H i j ≡ raised_by (m.height i j) (lays i j))
      → (in_window m i j ≡ true → C i j ≡ mod_z (pos (m.count i j) +ℤ adds i j (m.height i j)) m.modulus)
      → Painted m (same i j) lays adds n
  pixel H C s h c eh ec = record {
    shape = s;
    heights = λ k l. h k l ∙ at_pixel (in_window m) (λ a b. raised_by (m.height a b) (lays a b)) H i j k l (m.height k l) eh;
    counts = λ k l. c k l ∙ at_pixel (in_window m) (λ a b. mod_z (pos (m.count a b) +ℤ adds a b (m.height a b)) m.modulus) C i j k l (m.count k l) ec;
  }

  -- counted, and not raised
  pub counted : (by : ℕ) → Counted m i j by n → lays i j ≡ None
      → (m.count i j + by) % m.modulus ≡ mod_z (pos (m.count i j) +ℤ adds i j (m.height i j)) m.modulus → Painted m (same i j) lays adds n
  counted by c e f =
      pixel (λ k l. m.height k l) (λ k l. (m.count k l + by) % m.modulus) c.shape
      (λ k l. c.heights k l ∙ sym (cond_same (in_window m i j && same i j k l) (m.height k l))) c.counts
      (λ _. sym (ap (raised_by (m.height i j)) e)) (λ _. f)

  -- raised, and not counted
  pub raised : (v : ℤ) → Raised m i j v n → lays i j ≡ cond (is_height v) (Some v) None → mod_z (pos (m.count i j) +ℤ adds i j (m.height i j)) m.modulus ≡ m.count i j
      → Painted m (same i j) lays adds n
  raised v r e f =
      pixel (λ k l. cond (is_height v) (int_max (m.height k l) v) (m.height k l)) (λ k l. m.count k l) r.shape
      (λ k l. r.heights k l ∙ first (is_height v) (in_window m i j && same i j k l) (int_max (m.height k l) v) (m.height k l))
      (λ k l. r.counts k l ∙ sym (cond_same (in_window m i j && same i j k l) (m.count k l)))
      (λ _. either (is_height v) (m.height i j) ∙ sym (ap (raised_by (m.height i j)) e)) (λ _. sym f)
    where
      first : (a b : Bool) (x y : ℤ) → cond (a && b) x y ≡ cond b (cond a x y) y
      first true b x y = refl
      first false b x y = sym (cond_same b y)

      either : (a : Bool) (h : ℤ) → cond a (int_max h v) h ≡ raised_by h (cond a (Some v) None)
      either true h = refl
      either false h = refl

  -- left alone
  pub kept : n ≡ m → (in_window m i j ≡ true → lays i j ≡ None) → (in_window m i j ≡ true → mod_z (pos (m.count i j) +ℤ adds i j (m.height i j)) m.modulus ≡ m.count i j)
      → Painted m (same i j) lays adds n
  kept q e f =
      pixel (λ k l. m.height k l) (λ k l. m.count k l) (rw q (shape_same m))
      (λ k l. ap (λ (x : PlaneModel). x.height k l) q ∙ sym (cond_same (in_window m i j && same i j k l) (m.height k l)))
      (λ k l. ap (λ (x : PlaneModel). x.count k l) q ∙ sym (cond_same (in_window m i j && same i j k l) (m.count k l)))
      (λ w. sym (ap (raised_by (m.height i j)) (e w))) (λ w. sym (f w))

-- adding 0 to a count
pub none_more : (c M : ℕ) → c < M → mod_z (pos c +ℤ pos 0) M ≡ c
none_more c M h = ap (λ (n : ℕ). n % M) (add-zero c) ∙ mod-eq_of_lt h

-- ---- no pixel
pub painted_none : (m : PlaneModel) (p : ℕ → ℕ → Bool) (lays : ℕ → ℕ → Option ℤ) (adds : ℕ → ℕ → ℤ → ℤ) → ((k l : ℕ) → p k l ≡ false) → Painted m p lays adds m
painted_none m p lays adds f = record {
  shape = shape_same m;
  heights = λ k l. sym (cond-false _ _ _ (off (in_window m k l) (p k l) (f k l)));
  counts = λ k l. sym (cond-false _ _ _ (off (in_window m k l) (p k l) (f k l)));
}
  where
    off : (w q : Bool) → q ≡ false → (w && q) ≡ false
    off w q e = grind arith

-- ---- the same pixels, in the window
pub painted_same : (m n : PlaneModel) (p q : ℕ → ℕ → Bool) (lays : ℕ → ℕ → Option ℤ) (adds : ℕ → ℕ → ℤ → ℤ) → ((k l : ℕ) → in_window m k l ≡ true → p k l ≡ q k l)
    → Painted m p lays adds n → Painted m q lays adds n
painted_same m n p q lays adds e a = record {
  shape = a.shape;
  heights = λ k l. a.heights k l ∙ ap (λ (b : Bool). cond b (raised_by (m.height k l) (lays k l)) (m.height k l)) (under (in_window m k l) (p k l) (q k l) (e k l));
  counts = λ k l.
      a.counts k l ∙ ap (λ (b : Bool). cond b (mod_z (pos (m.count k l) +ℤ adds k l (m.height k l)) m.modulus) (m.count k l)) (under (in_window m k l) (p k l) (q k l) (e k l));
}
  where
    under : (w x y : Bool) → (w ≡ true → x ≡ y) → (w && x) ≡ (w && y)
    under true x y f = f refl
    under false x y f = refl

-- ---- some pixels and then others
-- a value x, that f changes where a holds, and then g where b holds: at most one of them does, and where a does not, g is f
once : {X : Type 0} (w a b : Bool) (f g : X → X) (x y z : X) → (a ≡ true → b ≡ false) → ((w && a) ≡ false → g x ≡ f x) → y ≡ cond (w && a) (f x) x → z ≡ cond (w && b) (g y) y
    → z ≡ cond (w && (a || b)) (f x) x
once false a b f g x y z d s e h = h ∙ e
once true true true f g x y z d s e h = absurd (true≢false (d refl))
once true true false f g x y z d s e h = h ∙ e
once true false true f g x y z d s e h = h ∙ ap g e ∙ s refl
once true false false f g x y z d s e h = h ∙ e

pub painted_then : (m n o : PlaneModel) (p q r : ℕ → ℕ → Bool) (lays : ℕ → ℕ → Option ℤ) (adds : ℕ → ℕ → ℤ → ℤ) → ((k l : ℕ) → p k l ≡ true → q k l ≡ false) → ((k l : ℕ) → (p k l || q k l) ≡ r k l)
    → Painted m p lays adds n → Painted n q lays adds o → Painted m r lays adds o
painted_then m n o p q r lays adds d u a b = record {
  shape = shape_join m n o a.shape b.shape;
  heights = λ k l.
      once (in_window m k l) (p k l) (q k l) (λ x. raised_by x (lays k l)) (λ x. raised_by x (lays k l)) (m.height k l) (n.height k l) (o.height k l) (d k l) (λ _. refl) (a.heights k l)
      (b.heights k l ∙ ap (λ (w : Bool). cond (w && q k l) (raised_by (n.height k l) (lays k l)) (n.height k l)) (window_same m n a.shape k l))
      ∙ ap (λ (v : Bool). cond (in_window m k l && v) (raised_by (m.height k l) (lays k l)) (m.height k l)) (u k l);
  counts = λ k l.
      once (in_window m k l) (p k l) (q k l) (λ x. mod_z (pos x +ℤ adds k l (m.height k l)) m.modulus) (λ x. mod_z (pos x +ℤ adds k l (n.height k l)) n.modulus) (m.count k l) (n.count k l) (o.count k l) (d k l)
      (λ e. ap (λ (h : ℤ). mod_z (pos (m.count k l) +ℤ adds k l h) n.modulus) (a.heights k l ∙ cond-false _ _ _ e) ∙ ap (mod_z (pos (m.count k l) +ℤ adds k l (m.height k l))) a.shape.modulus)
      (a.counts k l)
      (b.counts k l ∙ ap (λ (w : Bool). cond (w && q k l) (mod_z (pos (n.count k l) +ℤ adds k l (n.height k l)) n.modulus) (n.count k l)) (window_same m n a.shape k l))
      ∙ ap (λ (v : Bool). cond (in_window m k l && v) (mod_z (pos (m.count k l) +ℤ adds k l (m.height k l)) m.modulus) (m.count k l)) (u k l);
}

-- ---- one column more of a row: row j, columns lo to i − 1, and then column i
pub column_apart : (lo i j k l : ℕ) → (eqb l j && within lo i k) ≡ true → same i j k l ≡ false
column_apart lo i j k l h = grind (arith, nat_tests)

pub column_more : (lo i j k l : ℕ) → lo ≤ i → ((eqb l j && within lo i k) || same i j k l) ≡ (eqb l j && within lo (i + 1) k)
column_more lo i j k l h = grind (arith, nat_tests)

pub column_none : (lo j k l : ℕ) → (eqb l j && within lo lo k) ≡ false
column_none lo j k l = grind (arith, nat_tests)

-- ---- one row more: rows lo to j − 1, and then row j
pub row_apart : (lo j l : ℕ) (s : Bool) → (within lo j l && s) ≡ true → (eqb l j && s) ≡ false
row_apart lo j l s h = grind (arith, nat_tests)

pub row_more : (lo j l : ℕ) (s : Bool) → lo ≤ j → ((within lo j l && s) || (eqb l j && s)) ≡ (within lo (j + 1) l && s)
row_more lo j l s h = grind (arith, nat_tests)

pub row_none : (lo l : ℕ) (s : Bool) → (within lo lo l && s) ≡ false
row_none lo l s = grind (arith, nat_tests)

-- the loop ends at n, or began past it
pub same_end : (lo i n l : ℕ) → n ≤ i → (lo ≤ n → i ≤ n) → (n < lo → i ≡ lo) → within lo i l ≡ within lo n l
same_end lo i n l h g q =
    ⊎_elim (λ (a : n < lo). let e = q a in grind (arith, nat_tests)) (λ (a : lo ≤ n). let e = g a in let e' : i ≡ n = omega arith in ap (λ (x : ℕ). within lo x l) e') (cases_lt n lo)

-- ---- the window's columns and rows
pub window_columns : (m : PlaneModel) (k l : ℕ) → in_window m k l ≡ true → within m.c0 m.c1 k ≡ true
window_columns m k l h = grind (arith, nat_tests)

pub window_rows : (m : PlaneModel) (k l : ℕ) → in_window m k l ≡ true → within m.r0 m.r1 l ≡ true
window_rows m k l h = grind (arith, nat_tests)

-- of the columns w of a row, the cut x is where f holds, and w is all of them here
pub cut_row : (j k l : ℕ) (w x : Bool) (f : ℕ → Bool) → w ≡ true → x ≡ (w && f j) → (eqb l j && x) ≡ (eqb l j && f l)
cut_row j k l w x f h e =
    ⊎_elim
    (λ (q : eqb l j ≡ true). ap (λ (b : Bool). eqb l j && b) (e ∙ ap (λ (v : Bool). v && f j) h ∙ ap f (sym (eqb-true l j q))))
    (λ (q : eqb l j ≡ false). rw q refl)
    (cases_Bool (eqb l j))

-- rows outside of which nothing is covered need no test
pub all_rows : (w f : Bool) → (w ≡ false → f ≡ false) → (w && f) ≡ f
all_rows true f h = refl
all_rows false f h = sym (h refl)
