-- What a store keeps, as a value of the logic, and what each change does to it.
use Rattle.std.specs.Prelude.{◌≡◌, ℕ, ◌+◌, ◌%◌, ◌<◌, ◌≤◌, ◌≢◌, ℤ, pos, neg_ℤ, ◌≤ℤ◌}
use Rattle.std.specs.Int.{int_max}

-- A number of places, the modulus at which counts wrap, and the height and the count at a place.
pub record StoreModel : Type 0 where
  pub places : ℕ
  pub modulus : ℕ
  pub height : ℕ → ℤ
  pub count : ℕ → ℕ

-- the limits that every store keeps
pub record SoundStore (s : StoreModel) : Type 0 where
  pub modulus_low : 2 ≤ s.modulus
  pub modulus_high : s.modulus ≤ 1048576
  pub heights_low : (n : ℕ) → neg_ℤ (pos 8192) ≤ℤ s.height n
  pub heights_high : (n : ℕ) → s.height n ≤ℤ pos 8193
  pub counts : (n : ℕ) → s.count n < s.modulus

-- each of the first k places has the height g and the count 0 after
pub record Filled (s : StoreModel) (k : ℕ) (g : ℤ) (t : StoreModel) : Type 0 where
  pub places : t.places ≡ s.places
  pub modulus : t.modulus ≡ s.modulus
  pub heights : (n : ℕ) → n < k → t.height n ≡ g
  pub counts : (n : ℕ) → n < k → t.count n ≡ 0

-- the height at a place is at least v after; all else is kept
pub record RaisedAt (s : StoreModel) (at : ℕ) (v : ℤ) (t : StoreModel) : Type 0 where
  pub places : t.places ≡ s.places
  pub modulus : t.modulus ≡ s.modulus
  pub here : t.height at ≡ int_max (s.height at) v
  pub elsewhere : (n : ℕ) → n ≢ at → t.height n ≡ s.height n
  pub counts : (n : ℕ) → t.count n ≡ s.count n

-- the count at a place is `by` more after, modulo the modulus; all else is kept
pub record CountedAt (s : StoreModel) (at by : ℕ) (t : StoreModel) : Type 0 where
  pub places : t.places ≡ s.places
  pub modulus : t.modulus ≡ s.modulus
  pub here : t.count at ≡ (s.count at + by) % s.modulus
  pub elsewhere : (n : ℕ) → n ≢ at → t.count n ≡ s.count n
  pub heights : (n : ℕ) → t.height n ≡ s.height n
