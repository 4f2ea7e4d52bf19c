-- What a plane holds, as a value of the logic, and what each change does to it.
use Rattle.std.specs.Prelude.{◌≡◌, ℕ, ◌+◌, ◌%◌, ◌<◌, ◌≤◌, Bool, cond, ◌&&◌, ◌⊎◌, ℤ, pos, neg_ℤ, ◌≤ℤ◌, ◌==◌, nat_le, nat_lt}
use Rattle.std.specs.Int.{int_max}
use Rattle.geometry.specs.Limits.{between}

-- A width and a number of rows, the modulus at which counts wrap, the window (columns c0 to c1 − 1, rows r0 to r1 − 1),
-- and the height and the count of the pixel in a column and a row.
pub record PlaneModel : Type 0 where
  pub width : ℕ
  pub rows : ℕ
  pub modulus : ℕ
  pub c0 : ℕ
  pub r0 : ℕ
  pub c1 : ℕ
  pub r1 : ℕ
  pub height : ℕ → ℕ → ℤ
  pub count : ℕ → ℕ → ℕ

-- whether a pixel is of the plane, and of its window
abbrev pub inside : PlaneModel → ℕ → ℕ → Bool
inside m i j = nat_lt i m.width && nat_lt j m.rows

abbrev pub in_window : PlaneModel → ℕ → ℕ → Bool
in_window m i j = (nat_le m.c0 i && nat_lt i m.c1) && (nat_le m.r0 j && nat_lt j m.r1)

-- a number that can be a height
abbrev pub is_height : ℤ → Bool
is_height v = between (neg_ℤ (pos 8192)) (pos 8193) v

-- the limits that every plane keeps. An empty window is four zeros
pub record Sound (m : PlaneModel) : Type 0 where
  pub narrow : m.width ≤ 256
  pub short : m.rows ≤ 256
  pub modulus_low : 2 ≤ m.modulus
  pub modulus_high : m.modulus ≤ 1048576
  pub columns : m.c1 ≤ m.width
  pub lines : m.r1 ≤ m.rows
  pub window : ((m.c0 < m.c1) × (m.r0 < m.r1)) ⊎ ((m.c0 ≡ 0) × (m.r0 ≡ 0) × (m.c1 ≡ 0) × (m.r1 ≡ 0))
  pub heights_low : (i j : ℕ) → neg_ℤ (pos 8192) ≤ℤ m.height i j
  pub heights_high : (i j : ℕ) → m.height i j ≤ℤ pos 8193
  pub counts : (i j : ℕ) → m.count i j < m.modulus

-- ---- what stays when heights and counts change
pub record SameShape (m n : PlaneModel) : Type 0 where
  pub width : n.width ≡ m.width
  pub rows : n.rows ≡ m.rows
  pub modulus : n.modulus ≡ m.modulus
  pub c0 : n.c0 ≡ m.c0
  pub r0 : n.r0 ≡ m.r0
  pub c1 : n.c1 ≡ m.c1
  pub r1 : n.r1 ≡ m.r1

-- whether (k, l) is the pixel (i, j)
abbrev pub same : ℕ → ℕ → ℕ → ℕ → Bool
same i j k l = k == i && l == j

-- every pixel of the plane has the height g and the count 0 after, if g can be a height
pub record Wiped (m : PlaneModel) (g : ℤ) (n : PlaneModel) : Type 0 where
  pub shape : SameShape m n
  pub heights : (k l : ℕ) → n.height k l ≡ cond (is_height g && inside m k l) g (m.height k l)
  pub counts : (k l : ℕ) → n.count k l ≡ cond (is_height g && inside m k l) 0 (m.count k l)

-- the pixel (i, j), if it is in the window and v can be a height, is at least as high as v after; all else is kept
pub record Raised (m : PlaneModel) (i j : ℕ) (v : ℤ) (n : PlaneModel) : Type 0 where
  pub shape : SameShape m n
  pub heights : (k l : ℕ) → n.height k l ≡ cond (is_height v && (in_window m i j && same i j k l)) (int_max (m.height k l) v) (m.height k l)
  pub counts : (k l : ℕ) → n.count k l ≡ m.count k l

-- the count of the pixel (i, j), if it is in the window, is `by` more after, modulo the modulus; all else is kept
pub record Counted (m : PlaneModel) (i j by : ℕ) (n : PlaneModel) : Type 0 where
  pub shape : SameShape m n
  pub heights : (k l : ℕ) → n.height k l ≡ m.height k l
  pub counts : (k l : ℕ) → n.count k l ≡ cond (in_window m i j && same i j k l) ((m.count k l + by) % m.modulus) (m.count k l)
