-- The worked cases, by computation.
use Rattle.std.proofs.Common.{◌≡◌, ℕ, zero, suc, ◌<◌, ◌≤◌, Bool, true, cond, ◌&&◌, eqb, ltb, ◌⊎◌, pos, sym, refl, ap, ◌∙◌, inl, inr, arith}
use borrow.Author.Differences.{ints}
use Rattle.std.proofs.lemmas.Bool.{and_parts, eqb-true, ltb-true, cases_eq}
use Rattle.geometry.specs.Vectors.{vector}
use Rattle.geometry.specs.Limits.{InLimits}
use Rattle.solids.specs.Solids.{Corners, pick, start_of, end_of, Lawful}
use Rattle.volumes.specs.Cases.{Heights, Points, Tetrahedron, tetrahedron}

pub heights_stand : Heights
heights_stand = record {
  longest_reach = refl;
  shortest_reach = refl;
  level_covers = refl;
  level_raises = refl;
  edge_not_up = refl;
  edge_not_down = refl;
  edge_stays = refl;
  sloping_raises = refl;
}

pub points_stand : Points
points_stand = record {
  point0 = record { strike = refl; counts = refl };
  point1 = record { strike = refl; counts = refl };
  point2 = record { strike = refl; counts = refl };
  point3 = record { strike = refl; counts = refl };
  point4 = record { strike = refl; counts = refl };
  point5 = record { strike = refl; counts = refl };
  point6 = record { strike = refl; counts = refl };
  point7 = record { strike = refl; counts = refl };
  point8 = record { strike = refl; counts = refl };
  point9 = record { strike = refl; counts = refl };
  point10 = record { strike = refl; counts = refl };
  point11 = record { strike = refl; counts = refl };
}

-- ---- the tetrahedron is lawful: each part of the law is a test of all places
abbrev every : ℕ → (ℕ → Bool) → Bool
every zero b = true
every (suc n) b = b n && every n b

every_at : (n : ℕ) (b : ℕ → Bool) → every n b ≡ true → (i : ℕ) → i < n → b i ≡ true
every_at zero b e i h = absurd (omega arith)
every_at (suc n) b e i h = go (cases_eq i n) (every_at n b (and_parts (b n) (every n b) e).1 i)
  where
    go : (i ≡ n) ⊎ (i ≡ n → ⊥) → (i < n → b i ≡ true) → b i ≡ true
    go (inl q) before = ap b q ∙ (and_parts (b n) (every n b) e).0
    go (inr q) before = before (omega arith)

same_at : (n : ℕ) (f g : ℕ → ℕ) → every n (λ i. eqb (f i) (g i)) ≡ true → (i : ℕ) → i < n → f i ≡ g i
same_at n f g e i h = eqb-true (f i) (g i) (every_at n (λ i. eqb (f i) (g i)) e i h)

positive_limits : (x y z : ℕ) → x ≤ 8192 → y ≤ 8192 → z ≤ 8192 → InLimits (vector (pos x) (pos y) (pos z))
positive_limits x y z hx hy hz = record {
  x_low = omega (arith, ints);
  x_high = omega (arith, ints);
  y_low = omega (arith, ints);
  y_high = omega (arith, ints);
  z_low = omega (arith, ints);
  z_high = omega (arith, ints);
}

four : (i : ℕ) → i < 4 → InLimits (tetrahedron.corner i)
four zero h = positive_limits 0 0 32 (omega arith) (omega arith) (omega arith)
four (suc zero) h = positive_limits 32 0 32 (omega arith) (omega arith) (omega arith)
four (suc (suc zero)) h = positive_limits 0 32 32 (omega arith) (omega arith) (omega arith)
four (suc (suc (suc zero))) h = positive_limits 0 0 16 (omega arith) (omega arith) (omega arith)
four (suc (suc (suc (suc i)))) h = absurd (omega arith)

-- of each corner of each triangle
each_corner : (b : ℕ → ℕ → Bool) → every 4 (λ k. every 3 (b k)) ≡ true → (k s : ℕ) → k < 4 → s < 3 → b k s ≡ true
each_corner b e k s h i = every_at 3 (b k) (every_at 4 (λ k. every 3 (b k)) e k h) s i

-- which of the corners has the number i
abbrev place : Corners → ℕ → ℕ
place t i = cond (eqb t.first i) 0 (cond (eqb t.second i) 1 2)

found : (k s : ℕ) → k < 4 → s < 3 → place (tetrahedron.triangle k) (pick (tetrahedron.triangle k) s) ≡ s
found k s h i = eqb-true _ _ (each_corner (λ k s. eqb (place (tetrahedron.triangle k) (pick (tetrahedron.triangle k) s)) s) refl k s h i)

lawful : Lawful tetrahedron
lawful = record {
  corners_few = omega arith;
  triangles_few = omega arith;
  corners_in_limits = four;
  numbers_in_range = λ k s h i. ltb-true _ _ (each_corner (λ k s. ltb (pick (tetrahedron.triangle k) s) 4) refl k s h i);
  numbers_differ = λ k s t h i j e. sym (found k s h i) ∙ ap (place (tetrahedron.triangle k)) e ∙ found k t h j;
  partner_in_range = λ q h. ltb-true (tetrahedron.partner q) 12 (every_at 12 (λ q. ltb (tetrahedron.partner q) 12) refl q h);
  partner_starts = same_at 12 (λ q. start_of tetrahedron (tetrahedron.partner q)) (end_of tetrahedron) refl;
  partner_ends = same_at 12 (λ q. end_of tetrahedron (tetrahedron.partner q)) (start_of tetrahedron) refl;
  partner_back = same_at 12 (λ q. tetrahedron.partner (tetrahedron.partner q)) (λ q. q) refl;
}

pub tetrahedron_stands : Tetrahedron
tetrahedron_stands = record { lawful = lawful; sunward = refl; lit = refl; shaded_first = refl; shaded_second = refl; shaded_third = refl }
