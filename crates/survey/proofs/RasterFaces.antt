-- From what is painted to what is drawn and what is laid.
use Rattle.std.proofs.Common.{◌≡◌, ℕ, zero, suc, ◌<◌, Bool, true, false, cond, ◌&&◌, ◌||◌, [], ◌∷◌, ℤ, pos, negsuc, ◌+ℤ◌, ◌*ℤ◌, neg_ℤ, ◌≤ℤ◌, ◌<ℤ◌, Some, None, Option, sym, refl, ap, ◌∙◌, ap₂, inl, inr, arith}
use lib.Signed.{lt_z, le_z}
use Rattle.std.proofs.lemmas.Int.{ints}
use Rattle.std.proofs.lemmas.Bool.Decides.{nat_tests}
use Rattle.std.proofs.lemmas.Bool.{true≢false, and_from}
use Rattle.algebra.specs.Counts.{mod_z}
use Rattle.algebra.specs.Maxima.{raised_by}
use Rattle.algebra.proofs.Ring.{ring, at, num, ◌⊕◌, ◌⊖◌, ◌⊗◌, ⊝◌, ◌≗◌, solve, v0, v1, v2, v3, v4, v5, v6, v7}
use Rattle.geometry.specs.Vectors.{V3, vector, minus, dot}
use Rattle.geometry.specs.Signs.{sign_of, alike, Positive, Negative}
use Rattle.geometry.specs.Limits.{InLimits}
use Rattle.volumes.specs.Faces.{Sample, Face, receiver, triangle, covers_up, covers_down, below, tally, contribution}
use Rattle.volumes.specs.Heights.{scaled_height, floor_ratio, raised_to}
use Rattle.volumes.proofs.Heights.{heights_are_in_range}
use Rattle.planes.specs.Planes.{PlaneModel, Sound, in_window, is_height}
use Rattle.survey.specs.Drawing.{Drawn, LaidOn, sample_of}
use Rattle.survey.specs.Raster.{Painted, Drawable}
use Rattle.survey.specs.Sides.{seen, left_of, right_of}
use Rattle.survey.specs.Tilts.{value_at, ground_at, least_over, turn_of, turned_by, facing_of, covers_by}
use Rattle.survey.specs.declared.raster.corners.Corner.{Corner}
use Rattle.survey.specs.declared.raster.facing.Facing.{Facing}
use Rattle.survey.specs.declared.raster.facing.Facing.TheVariants.{Up, Down}
use Rattle.survey.proofs.RasterSweeps.{shape_same, none_more}

-- ---- which way a face looks
abbrev pub other : Facing → Facing
other Up = Down
other Down = Up

clash : {P : Type 0} (s t : Facing) → Some s ≡ Some t → s ≡ Up → t ≡ Down → P
clash s t e f g = absurd (let z : ◌≡◌ {A = ℕ} 0 1 = cc in omega arith)

missing : {P : Type 0} (s : Facing) → Some s ≡ None → P
missing s e = absurd (let z : ◌≡◌ {A = ℕ} 0 1 = cc in omega arith)

pub rises : (z : ℤ) (s : Facing) → Some s ≡ facing_of z → pos 0 <ℤ turned_by s z
rises (pos zero) s e = missing s e
rises (pos (suc n)) Up e = omega (arith, ints)
rises (pos (suc n)) Down e = clash Up Down (sym e) refl refl
rises (negsuc n) Up e = clash Up Down e refl refl
rises (negsuc n) Down e = omega (arith, ints)

level : (z : ℤ) → None ≡ facing_of z → z ≡ pos 0
level (pos zero) e = refl
level (pos (suc n)) e = missing Up (sym e)
level (negsuc n) e = missing Down (sym e)

surely_not : (b : Bool) → (b ≡ true → ⊥) → b ≡ false
surely_not true h = absurd (h refl)
surely_not false h = refl

against : (z : ℤ) → pos 0 <ℤ z → z <ℤ pos 0 → ⊥
against z h k = omega (arith, ints)

against_turned : (z : ℤ) → pos 0 <ℤ neg_ℤ z → pos 0 <ℤ z → ⊥
against_turned z h k = omega (arith, ints)

not_up : (z : ℤ) → z ≡ pos 0 → pos 0 <ℤ z → ⊥
not_up z e h = omega (arith, ints)

not_down : (z : ℤ) → z ≡ pos 0 → z <ℤ pos 0 → ⊥
not_down z e h = omega (arith, ints)

-- a face covers nothing the other way
pub other_none : (f : Face) (s : Facing) → Drawable f → Some s ≡ facing_of f.normal.z → (q : Sample) → covers_by (other s) f q ≡ false
other_none f Up d e q = surely_not (covers_down f q) (λ t. against f.normal.z (rises f.normal.z Up e) (d.down q t))
other_none f Down d e q = surely_not (covers_up f q) (λ t. against_turned f.normal.z (rises f.normal.z Down e) (d.up q t))

-- a level one covers nothing
pub level_up : (f : Face) → Drawable f → None ≡ facing_of f.normal.z → (q : Sample) → covers_up f q ≡ false
level_up f d e q = surely_not (covers_up f q) (λ t. not_up f.normal.z (level f.normal.z e) (d.up q t))

pub level_down : (f : Face) → Drawable f → None ≡ facing_of f.normal.z → (q : Sample) → covers_down f q ≡ false
level_down f d e q = surely_not (covers_down f q) (λ t. not_down f.normal.z (level f.normal.z e) (d.down q t))

-- ---- a face is below a height where the function of its plane is positive, seen from the side to which it looks
like_up : (x : ℤ) → alike (sign_of x) Positive ≡ lt_z (pos 0) x
like_up (pos zero) = refl
like_up (pos (suc n)) = grind (arith, ints, nat_tests)
like_up (negsuc n) = refl

like_down : (x : ℤ) → alike (sign_of x) Negative ≡ lt_z (pos 0) (neg_ℤ x)
like_down (pos zero) = refl
like_down (pos (suc n)) = refl
like_down (negsuc n) = grind (arith, ints, nat_tests)

alike_by : (z x : ℤ) (s : Facing) → Some s ≡ facing_of z → alike (sign_of x) (sign_of z) ≡ lt_z (pos 0) (turned_by s x)
alike_by (pos zero) x s e = missing s e
alike_by (pos (suc n)) x Up e = like_up x
alike_by (pos (suc n)) x Down e = clash Up Down (sym e) refl refl
alike_by (negsuc n) x Up e = clash Up Down e refl refl
alike_by (negsuc n) x Down e = like_down x

pub below_by : (s : Facing) (f : Face) (q : Sample) (h : ℤ) → Some s ≡ facing_of f.normal.z → below f q h ≡ lt_z (pos 0) (turned_by s (dot f.normal (minus (receiver q h) f.first)))
below_by s f q h e = alike_by f.normal.z (dot f.normal (minus (receiver q h) f.first)) s e

-- ---- what a face contributes
tally_up : (b u d : Bool) → d ≡ false → tally b u d ≡ cond u (cond b (neg_ℤ (pos 1)) (pos 0)) (pos 0)
tally_up b u true e = absurd (true≢false e)
tally_up true true false e = refl
tally_up true false false e = refl
tally_up false true false e = refl
tally_up false false false e = refl

tally_down : (b u d : Bool) → u ≡ false → tally b u d ≡ cond d (cond b (pos 1) (pos 0)) (pos 0)
tally_down b true d e = absurd (true≢false e)
tally_down true false true e = refl
tally_down true false false e = refl
tally_down false false true e = refl
tally_down false false false e = refl

contributes : (s : Facing) (f : Face) (q : Sample) (h : ℤ) → covers_by (other s) f q ≡ false → contribution f q h ≡ cond (covers_by s f q) (cond (below f q h) (turn_of s) (pos 0)) (pos 0)
contributes Up f q h e = tally_up (below f q h) (covers_up f q) (covers_down f q) e
contributes Down f q h e = tally_down (below f q h) (covers_up f q) (covers_down f q) e

-- ---- drawn
cond_same : {X : Type 0} (b : Bool) (x : X) → cond b x x ≡ x
cond_same true x = refl
cond_same false x = refl

count_is : (w p : Bool) (c M : ℕ) (a t : ℤ) → c < M → t ≡ cond p a (pos 0) → cond (w && p) (mod_z (pos c +ℤ a) M) c ≡ cond w (mod_z (pos c +ℤ t) M) c
count_is true true c M a t h e = ap (λ (x : ℤ). mod_z (pos c +ℤ x) M) (sym e)
count_is true false c M a t h e = sym (ap (λ (x : ℤ). mod_z (pos c +ℤ x) M) e ∙ none_more c M h)
count_is false p c M a t h e = refl

pub drawn_by : (m n : PlaneModel) (f : Face) (s : Facing) (p : ℕ → ℕ → Bool) (adds : ℕ → ℕ → ℤ → ℤ) → Sound m → ((k l : ℕ) → p k l ≡ covers_by s f (sample_of k l))
    → ((q : Sample) → covers_by (other s) f q ≡ false) → ((k l : ℕ) (h : ℤ) → adds k l h ≡ cond (below f (sample_of k l) h) (turn_of s) (pos 0))
    → Painted m p (λ _ _. None) adds n → Drawn m f n
drawn_by m n f s p adds sound cover none add a = record {
  shape = a.shape;
  heights = λ k l. a.heights k l ∙ cond_same (in_window m k l && p k l) (m.height k l);
  counts = λ k l.
      a.counts k l
      ∙ count_is (in_window m k l) (p k l) (m.count k l) m.modulus (adds k l (m.height k l)) (contribution f (sample_of k l) (m.height k l)) (sound.counts k l)
      (contributes s f (sample_of k l) (m.height k l) (none (sample_of k l))
      ∙ ap₂ (λ (b : Bool) (x : ℤ). cond b x (pos 0)) (sym (cover k l)) (sym (add k l (m.height k l))));
}

off : (w : Bool) (x y : ℕ) → y ≡ cond (w && false) x y
off true x y = refl
off false x y = refl

pub drawn_none : (m : PlaneModel) (f : Face) → Sound m → ((q : Sample) → covers_up f q ≡ false) → ((q : Sample) → covers_down f q ≡ false) → Drawn m f m
drawn_none m f sound up down = record {
  shape = shape_same m;
  heights = λ k l. refl;
  counts = λ k l.
      off (in_window m k l) (mod_z (pos (m.count k l) +ℤ pos 0) m.modulus) (m.count k l)
      ∙ count_is (in_window m k l) false (m.count k l) m.modulus (pos 0) (contribution f (sample_of k l) (m.height k l)) (sound.counts k l)
      (contributes Up f (sample_of k l) (m.height k l) (down (sample_of k l))
      ∙ ap (λ (b : Bool). cond b (cond (below f (sample_of k l) (m.height k l)) (turn_of Up) (pos 0)) (pos 0)) (up (sample_of k l)));
}

-- ---- the whole number above a face
ground_is : (base column row height : ℤ) (i j : ℕ) → value_at base column row height i j (pos 0) ≡ ground_at base column row i j
ground_is base column row height i j = without (ground_at base column row i j) height
  where
    without : (x y : ℤ) → x +ℤ y *ℤ pos 0 ≡ x
    without x y = solve 2 (λ x y. x ⊕ y ⊗ num 0 ≗ x) refl x y

plane_at_0 : (f : Face) (q : Sample) → dot f.normal (minus (receiver q (pos 0)) f.first) ≡ neg_ℤ (scaled_height f q)
plane_at_0 f q =
    let n : V3 = f.normal in
    let u : V3 = f.first in
    ring (at (n.x ∷ n.y ∷ n.z ∷ u.x ∷ u.y ∷ u.z ∷ q.x ∷ q.y ∷ []))
    (v0 ⊗ (v6 ⊖ v3) ⊕ v1 ⊗ (v7 ⊖ v4) ⊕ v2 ⊗ (num 0 ⊖ v5)) (⊝ (v2 ⊗ v5 ⊖ (v0 ⊗ (v6 ⊖ v3) ⊕ v1 ⊗ (v7 ⊖ v4)))) refl

turned_back : (s : Facing) (x : ℤ) → neg_ℤ (turned_by s (neg_ℤ x)) ≡ turned_by s x
turned_back Up x = omega (arith, ints)
turned_back Down x = omega (arith, ints)

ratio_turned : (s : Facing) (x z : ℤ) → Some s ≡ facing_of z → floor_ratio (turned_by s x) (turned_by s z) ≡ floor_ratio x z
ratio_turned s x (pos zero) e = missing s e
ratio_turned Up x (pos (suc n)) e = refl
ratio_turned Down x (pos (suc n)) e = clash Up Down (sym e) refl refl
ratio_turned Up x (negsuc n) e = clash Up Down e refl refl
ratio_turned Down x (negsuc n) e = refl

pub least_is : (s : Facing) (f : Face) (base column row height : ℤ) (i j : ℕ) → Some s ≡ facing_of f.normal.z → height ≡ turned_by s f.normal.z
    → value_at base column row height i j (pos 0) ≡ turned_by s (dot f.normal (minus (receiver (sample_of i j) (pos 0)) f.first))
    → least_over base column row height i j ≡ raised_to f (sample_of i j)
least_is s f base column row height i j e h v =
    let S : ℤ = scaled_height f (sample_of i j) in
    let g : neg_ℤ (ground_at base column row i j) ≡ turned_by s S
    = ap neg_ℤ (sym (ground_is base column row height i j) ∙ v ∙ ap (turned_by s) (plane_at_0 f (sample_of i j))) ∙ turned_back s S in
    ap (λ (x : ℤ). x +ℤ pos 1) (ap₂ floor_ratio g h ∙ ratio_turned s S f.normal.z e)

-- ---- laid
either : (s : Facing) (f : Face) (q : Sample) → covers_by (other s) f q ≡ false → covers_by s f q ≡ (covers_up f q || covers_down f q)
either Up f q e = only (covers_up f q) (covers_down f q) e
  where
    only : (a b : Bool) → b ≡ false → a ≡ (a || b)
    only a b e = grind arith
either Down f q e = only (covers_up f q) (covers_down f q) e
  where
    only : (a b : Bool) → a ≡ false → b ≡ (a || b)
    only a b e = grind arith

height_is : (w p : Bool) (h v : ℤ) (o : Option ℤ) → (p ≡ true → o ≡ Some v) → cond (w && p) (raised_by h o) h ≡ cond w (raised_by h (cond p (Some v) None)) h
height_is true true h v o e = ap (raised_by h) (e refl)
height_is true false h v o e = refl
height_is false p h v o e = refl

in_range : (v : ℤ) → neg_ℤ (pos 8191) ≤ℤ v → v ≤ℤ pos 8193 → is_height v ≡ true
in_range v h k = and_from (le_z (neg_ℤ (pos 8192)) v) (le_z v (pos 8193)) (low v h) (high v k)
  where
    low : (v : ℤ) → neg_ℤ (pos 8191) ≤ℤ v → le_z (neg_ℤ (pos 8192)) v ≡ true
    low v h = grind (arith, ints)

    high : (v : ℤ) → v ≤ℤ pos 8193 → le_z v (pos 8193) ≡ true
    high v h = grind (arith, ints)

-- what a triangle lays is a height
pub lays_height : (a b c : V3) (s : Facing) (q : Sample) → InLimits a → InLimits b → InLimits c → covers_by s (triangle a b c) q ≡ true → is_height (raised_to (triangle a b c) q) ≡ true
lays_height a b c Up q la lb lc e = let r = heights_are_in_range a b c q la lb lc (inl e) in in_range (raised_to (triangle a b c) q) r.0 r.1
lays_height a b c Down q la lb lc e = let r = heights_are_in_range a b c q la lb lc (inr e) in in_range (raised_to (triangle a b c) q) r.0 r.1

pub laid_by : (m n : PlaneModel) (a b c : V3) (s : Facing) (p : ℕ → ℕ → Bool) (least : ℕ → ℕ → ℤ) → Sound m → InLimits a → InLimits b → InLimits c
    → ((k l : ℕ) → p k l ≡ covers_by s (triangle a b c) (sample_of k l)) → ((q : Sample) → covers_by (other s) (triangle a b c) q ≡ false)
    → ((k l : ℕ) → least k l ≡ raised_to (triangle a b c) (sample_of k l))
    → Painted m p (λ k l. cond (is_height (least k l)) (Some (least k l)) None) (λ _ _ _. pos 0) n → LaidOn m a b c n
laid_by m n a b c s p least sound la lb lc cover none is painted = record {
  shape = painted.shape;
  heights = λ k l.
      let q : Sample = sample_of k l in
      let v : ℤ = raised_to (triangle a b c) q in
      painted.heights k l
      ∙ height_is (in_window m k l) (p k l) (m.height k l) v (cond (is_height (least k l)) (Some (least k l)) None)
      (λ t.
      ap (λ (x : ℤ). cond (is_height x) (Some x) None) (is k l)
      ∙ ap (λ (x : Bool). cond x (Some v) None) (lays_height a b c s q la lb lc (sym (cover k l) ∙ t)))
      ∙ ap (λ (x : Bool). cond (in_window m k l) (raised_by (m.height k l) (cond x (Some v) None)) (m.height k l)) (cover k l ∙ either s (triangle a b c) q (none q));
  counts = λ k l. painted.counts k l ∙ same (in_window m k l && p k l) (m.count k l) m.modulus (sound.counts k l);
}
  where
    same : (w : Bool) (x M : ℕ) → x < M → cond w (mod_z (pos x +ℤ pos 0) M) x ≡ x
    same true x M h = none_more x M h
    same false x M h = refl

pub laid_none : (m : PlaneModel) (a b c : V3) → ((q : Sample) → covers_up (triangle a b c) q ≡ false) → ((q : Sample) → covers_down (triangle a b c) q ≡ false) → LaidOn m a b c m
laid_none m a b c up down = record {
  shape = shape_same m;
  heights = λ k l.
      let q : Sample = sample_of k l in
      sym (ap (λ (x : Bool). cond (in_window m k l) (raised_by (m.height k l) (cond x (Some (raised_to (triangle a b c) q)) None)) (m.height k l)) (neither (covers_up (triangle a b c) q) (covers_down (triangle a b c) q) (up q) (down q))
      ∙ cond_same (in_window m k l) (m.height k l));
  counts = λ k l. refl;
}
  where
    neither : (x y : Bool) → x ≡ false → y ≡ false → (x || y) ≡ false
    neither x y e f = grind arith

-- ---- corners of the code, seen from above
abbrev flat : V3 → V3
flat u = vector u.x u.y (pos 0)

seen_is : (k : Corner) (u : V3) → k.x ≡ u.x → k.y ≡ u.y → seen k ≡ flat u
seen_is k u e f = ap₂ (λ (x y : ℤ). vector x y (pos 0)) e f

pub right_of_three : (a b c : Corner) (u v w : V3) (q : Sample) → a.x ≡ u.x → a.y ≡ u.y → b.x ≡ v.x → b.y ≡ v.y → c.x ≡ w.x → c.y ≡ w.y
    → right_of (seen a) (seen b ∷ seen c ∷ []) q ≡ right_of u (v ∷ w ∷ []) q
right_of_three a b c u v w q ax ay bx by cx cy =
    ap (λ (x : V3). right_of x (seen b ∷ seen c ∷ []) q) (seen_is a u ax ay)
    ∙ ap₂ (λ (x y : V3). right_of (flat u) (x ∷ y ∷ []) q) (seen_is b v bx by) (seen_is c w cx cy)

pub right_of_four : (a b c d : Corner) (u v w x : V3) (q : Sample) → a.x ≡ u.x → a.y ≡ u.y → b.x ≡ v.x → b.y ≡ v.y → c.x ≡ w.x → c.y ≡ w.y → d.x ≡ x.x → d.y ≡ x.y
    → right_of (seen a) (seen b ∷ seen c ∷ seen d ∷ []) q ≡ right_of u (v ∷ w ∷ x ∷ []) q
right_of_four a b c d u v w x q ax ay bx by cx cy dx dy =
    ap₂ (λ (s t : V3). right_of s (t ∷ seen c ∷ seen d ∷ []) q) (seen_is a u ax ay) (seen_is b v bx by)
    ∙ ap₂ (λ (s t : V3). right_of (flat u) (flat v ∷ s ∷ t ∷ []) q) (seen_is c w cx cy) (seen_is d x dx dy)

pub left_of_three : (a b c : Corner) (u v w : V3) (q : Sample) → a.x ≡ u.x → a.y ≡ u.y → b.x ≡ v.x → b.y ≡ v.y → c.x ≡ w.x → c.y ≡ w.y
    → left_of (seen a) (seen b ∷ seen c ∷ []) q ≡ left_of u (v ∷ w ∷ []) q
left_of_three a b c u v w q ax ay bx by cx cy =
    ap (λ (x : V3). left_of x (seen b ∷ seen c ∷ []) q) (seen_is a u ax ay)
    ∙ ap₂ (λ (x y : V3). left_of (flat u) (x ∷ y ∷ []) q) (seen_is b v bx by) (seen_is c w cx cy)

pub left_of_four : (a b c d : Corner) (u v w x : V3) (q : Sample) → a.x ≡ u.x → a.y ≡ u.y → b.x ≡ v.x → b.y ≡ v.y → c.x ≡ w.x → c.y ≡ w.y → d.x ≡ x.x → d.y ≡ x.y
    → left_of (seen a) (seen b ∷ seen c ∷ seen d ∷ []) q ≡ left_of u (v ∷ w ∷ x ∷ []) q
left_of_four a b c d u v w x q ax ay bx by cx cy dx dy =
    ap₂ (λ (s t : V3). left_of s (t ∷ seen c ∷ seen d ∷ []) q) (seen_is a u ax ay) (seen_is b v bx by)
    ∙ ap₂ (λ (s t : V3). left_of (flat u) (flat v ∷ s ∷ t ∷ []) q) (seen_is c w cx cy) (seen_is d x dx dy)
