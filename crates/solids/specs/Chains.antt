-- Chains through the places of sides, by which partners are found without trying all pairs of sides.
use Rattle.std.specs.Prelude.{◌≡◌, ℕ, suc, ◌+◌, ◌*◌, ◌%◌, ◌<◌, ◌≤◌, List, ◌≢◌, slice_index}
use Rattle.solids.specs.Tables.{side_start, side_end}
use Rattle.solids.specs.declared.solid.Triangle.{Triangle}

-- n (2 n + 1) permutes the numbers below 4096: rings, fans and grids spread over the keys, whichever way they are numbered
abbrev pub mixed : ℕ → ℕ
mixed n = n % 4096 * (2 * (n % 4096) + 1)

-- the key of a side, which its reverse has too
abbrev pub key_of : ℕ → ℕ → ℕ
key_of from to = (mixed from + mixed to) % 4096

abbrev pub key_at : List Triangle → ℕ → ℕ
key_at ts q = key_of (side_start ts q) (side_end ts q)

-- link is one more than the last place below n of the key k, or 0 where there is none
pub record Leads (ts : List Triangle) (k n link : ℕ) : Type 0 where
  pub within : link ≤ n
  pub here : (r : ℕ) → link ≡ suc r → key_at ts r ≡ k
  pub last : (r : ℕ) → link ≤ r → r < n → key_at ts r ≢ k

-- the chains of all places below n: a head for each key, and from each place a link to the place before it
pub record Linked (ts : List Triangle) (n : ℕ) (heads links : List ℕ) : Type 0 where
  pub first : (k : ℕ) → k < 4096 → Leads ts k n (slice_index heads k)
  pub next : (p : ℕ) → p < n → Leads ts (key_at ts p) p (slice_index links p)
