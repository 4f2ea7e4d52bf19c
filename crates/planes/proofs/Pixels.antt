-- What a write at the place of one pixel, or at each place, does to a plane whose pixels lie row by row.
use Rattle.std.proofs.Common.{◌≡◌, ℕ, ◌+◌, ◌*◌, ◌/◌, ◌%◌, ◌<◌, true, cond, ◌&&◌, ltb, leb, ◌≢◌, ℤ, pos, Some, sym, refl, ap, ◌∙◌, arith}
use Rattle.std.specs.Int.{int_max}
use Rattle.std.proofs.lemmas.Nat.{mul-add-lt, div-mul-add, mod-mul-add}
use Rattle.std.proofs.lemmas.Bool.Decides.{nat_tests}
use Rattle.planes.specs.Planes.{SameShape, Wiped, Raised, Counted, is_height, same}
use Rattle.planes.specs.Stores.{StoreModel, Filled, RaisedAt, CountedAt}
use Rattle.planes.specs.Rowwise.{place_of, seen, stored}

-- two pixels of a plane with one place are one pixel
apart : (w i j k l : ℕ) → i < w → k < w → l * w + k ≡ j * w + i → (k ≡ i) × (l ≡ j)
apart w i j k l p q e =
    (sym (mod-mul-add l w k q) ∙ ap (λ n. n % w) e ∙ mod-mul-add j w i p, sym (div-mul-add l w k q) ∙ ap (λ n. n / w) e ∙ div-mul-add j w i p)

-- a place is that of a pixel of the plane
place_of_lem : (w h i j at : ℕ) → Some at ≡ place_of w h i j → (i < w) × (j < h) × (at ≡ j * w + i)
place_of_lem w h i j at e = (grind (arith, nat_tests), grind (arith, nat_tests), grind (arith, nat_tests))

-- ---- one pixel
-- One place holds something else after, and every other place what it held: so the pixel of that place is seen to change, and no other.
seen_one : {A : Type 0} (w h : ℕ) (d : A) (held held' : ℕ → A) (i j at : ℕ) (f : A → A) → Some at ≡ place_of w h i j → held' at ≡ f (held at)
    → ((n : ℕ) → n ≢ at → held' n ≡ held n) → (k l : ℕ)
    → seen w h d held' k l ≡ cond (((leb 0 i && ltb i w) && (leb 0 j && ltb j h)) && same i j k l) (f (seen w h d held k l)) (seen w h d held k l)
seen_one w h d held held' i j at f place here elsewhere k l =
    let p = place_of_lem w h i j at place in
    grind (arith, nat_tests, apart w i j k l p.0, elsewhere (l * w + k))

-- what each place holds determines what is seen
seen_same : {A : Type 0} (w h : ℕ) (d : A) (held held' : ℕ → A) → ((n : ℕ) → held' n ≡ held n) → (k l : ℕ) → seen w h d held' k l ≡ seen w h d held k l
seen_same w h d held held' all k l = ap (λ x. cond (ltb k w && ltb l h) x d) (all (l * w + k))

same_shape : (s t : StoreModel) (w h : ℕ) → t.modulus ≡ s.modulus → SameShape (stored s w h) (stored t w h)
same_shape s t w h modulus = record { width = refl; rows = refl; modulus = modulus; c0 = refl; r0 = refl; c1 = refl; r1 = refl }

-- The height at a pixel's place was raised.
pub raised : (s t : StoreModel) (w h i j at : ℕ) (v : ℤ) → is_height v ≡ true → Some at ≡ place_of w h i j → RaisedAt s at v t
    → Raised (stored s w h) i j v (stored t w h)
raised s t w h i j at v good place r = record {
  shape = same_shape s t w h r.modulus;
  heights = λ k l. rw good (seen_one w h (pos 0) s.height t.height i j at (λ x. int_max x v) place r.here r.elsewhere k l);
  counts = seen_same w h 0 s.count t.count r.counts;
}

-- The count at a pixel's place was changed.
pub counted : (s t : StoreModel) (w h i j at by : ℕ) → Some at ≡ place_of w h i j → CountedAt s at by t
    → Counted (stored s w h) i j by (stored t w h)
counted s t w h i j at by place r = record {
  shape = same_shape s t w h r.modulus;
  heights = seen_same w h (pos 0) s.height t.height r.heights;
  counts = seen_one w h 0 s.count t.count i j at (λ x. (x + by) % s.modulus) place r.here r.elsewhere;
}

-- The place of each pixel was filled.
pub wiped : (s t : StoreModel) (w h : ℕ) (g : ℤ) → is_height g ≡ true → Filled s (w * h) g t → Wiped (stored s w h) g (stored t w h)
wiped s t w h g good r = record {
  shape = same_shape s t w h r.modulus;
  heights = λ k l. grind (arith, nat_tests, mul-add-lt l w k h, r.heights (l * w + k));
  counts = λ k l. grind (arith, nat_tests, mul-add-lt l w k h, r.counts (l * w + k));
}
