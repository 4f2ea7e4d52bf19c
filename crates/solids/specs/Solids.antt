-- Solids: what one means, and the law that it keeps.
use Rattle.std.specs.Prelude.{◌≡◌, ℕ, zero, suc, ◌+◌, ◌*◌, ◌/◌, ◌%◌, ◌<◌, ◌≤◌}
use Rattle.geometry.specs.Vectors.{V3}
use Rattle.geometry.specs.Limits.{InLimits}
use Rattle.solids.specs.declared.solid.Triangle.{Triangle}

-- the numbers of a triangle's three corners
pub record Corners : Type 0 where
  pub first : ℕ
  pub second : ℕ
  pub third : ℕ

-- a triangle record of the code
abbrev pub corners_of : Triangle → Corners
corners_of t = record { first = t.a; second = t.b; third = t.c }

abbrev pub pick : Corners → ℕ → ℕ
pick t zero = t.first
pick t (suc zero) = t.second
pick t (suc (suc s)) = t.third

-- A number of corners and a number of triangles, with what stands at each number below; and for the place of each side that of its partner.
-- Side s (0, 1, 2) of triangle k has the place 3 k + s.
pub record SolidModel : Type 0 where
  pub corners : ℕ
  pub corner : ℕ → V3
  pub triangles : ℕ
  pub triangle : ℕ → Corners
  pub partner : ℕ → ℕ

-- the places of all sides
abbrev pub places : SolidModel → ℕ
places S = 3 * S.triangles

-- the side at the place q runs from one corner of its triangle to the next, and from the last to the first: the numbers of these two corners
abbrev pub start_of : SolidModel → ℕ → ℕ
start_of S q = pick (S.triangle (q / 3)) (q % 3)

abbrev pub end_of : SolidModel → ℕ → ℕ
end_of S q = pick (S.triangle (q / 3)) ((q % 3 + 1) % 3)

-- ---- THE LAW
pub record Lawful (S : SolidModel) : Type 0 where
  pub corners_few : S.corners ≤ 32768
  pub triangles_few : S.triangles ≤ 32768
  pub corners_in_limits : (i : ℕ) → i < S.corners → InLimits (S.corner i)
  pub numbers_in_range : (k s : ℕ) → k < S.triangles → s < 3 → pick (S.triangle k) s < S.corners
  pub numbers_differ : (k s t : ℕ) → k < S.triangles → s < 3 → t < 3 → pick (S.triangle k) s ≡ pick (S.triangle k) t → s ≡ t
  pub partner_in_range : (q : ℕ) → q < places S → S.partner q < places S
  pub partner_starts : (q : ℕ) → q < places S → start_of S (S.partner q) ≡ end_of S q
  pub partner_ends : (q : ℕ) → q < places S → end_of S (S.partner q) ≡ start_of S q
  pub partner_back : (q : ℕ) → q < places S → S.partner (S.partner q) ≡ q
