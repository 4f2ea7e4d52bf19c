-- Tables of a solid: corners, triangles, and for the place of each side the place of its partner. Which sides are partners, which tables
-- make a solid, and what is wrong with those that make none.
use Rattle.std.specs.Prelude.{◌≡◌, ℕ, ◌+◌, ◌*◌, ◌/◌, ◌%◌, ◌<◌, ◌≤◌, Bool, true, not, ◌&&◌, List, [], length, replicate, pos, Option, Result, MatchOption, MatchResult, ◌==◌, ◌≢◌, nat_lt, slice_index, slice_index_or}
use Rattle.geometry.specs.Limits.{in_limits}
use Rattle.geometry.specs.Units.{point_of}
use Rattle.geometry.specs.declared.units.Point.{Point}
use Rattle.geometry.specs.declared.refusal.Refusal.{Refusal}
use Rattle.geometry.specs.declared.refusal.Refusal.TheVariants.{Count, Empty, Coordinate, Corner, Side}
use Rattle.solids.specs.Solids.{SolidModel, Corners, corners_of, pick}
use Rattle.solids.specs.declared.solid.Triangle.{Triangle}
use Rattle.solids.specs.declared.misfit.Misfit.{Misfit}
use Rattle.solids.specs.declared.misfit.Site.{Site}
use Rattle.solids.specs.declared.misfit.Site.TheVariants.{Nowhere, Corner as AtCorner, Triangle as AtTriangle, Place as AtPlace, Partners as AtPartners}

-- what stands past a list's end, where nobody looks
abbrev pub blank_point : Point
blank_point = record { x = record { 0 = pos 0 }; y = record { 0 = pos 0 }; z = record { 0 = pos 0 } }

abbrev pub blank_triangle : Triangle
blank_triangle = record { a = 0; b = 0; c = 0 }

-- the solid that three tables tell
abbrev pub tabled : List Point → List Triangle → List ℕ → SolidModel
tabled cs ts ps =
    record {
      corners = length cs;
      corner = λ i. point_of (slice_index_or cs i blank_point);
      triangles = length ts;
      triangle = λ k. corners_of (slice_index_or ts k blank_triangle);
      partner = λ q. slice_index ps q;
    }

-- the solid of no corner and no triangle
abbrev pub empty_solid : SolidModel
empty_solid = tabled [] [] []

-- ---- directed sides
-- how many places of sides there are
abbrev pub sides : List Triangle → ℕ
sides ts = 3 * length ts

-- the side at place q runs from one corner number to another
abbrev pub side_start : List Triangle → ℕ → ℕ
side_start ts q = pick (corners_of (slice_index_or ts (q / 3) blank_triangle)) (q % 3)

abbrev pub side_end : List Triangle → ℕ → ℕ
side_end ts q = pick (corners_of (slice_index_or ts (q / 3) blank_triangle)) ((q % 3 + 1) % 3)

abbrev pub Same : List Triangle → ℕ → ℕ → Type 0
Same ts p q = (side_start ts p ≡ side_start ts q) × (side_end ts p ≡ side_end ts q)

abbrev pub Reverse : List Triangle → ℕ → ℕ → Type 0
Reverse ts p q = (side_start ts p ≡ side_end ts q) × (side_end ts p ≡ side_start ts q)

-- ---- THE PAIRING RULE
-- The side at place q occurs exactly once, and its reverse occurs exactly once, at place p.
pub record Partners (ts : List Triangle) (q p : ℕ) : Type 0 where
  pub in_range : p < sides ts
  pub reverse : Reverse ts p q
  pub once : (r : ℕ) → r < sides ts → Same ts r q → r ≡ q
  pub reverse_once : (r : ℕ) → r < sides ts → Reverse ts r q → r ≡ p

-- ---- what is asked of one corner, one triangle, one place; a place where no partner can be is bad
abbrev pub InsideAt : List Point → ℕ → Type 0
InsideAt cs i = in_limits (point_of (slice_index_or cs i blank_point)) ≡ true

-- whether the three numbers are below n, and no two are the same
abbrev pub are_numbers : ℕ → Corners → Bool
are_numbers n t =
    nat_lt t.first n && nat_lt t.second n && nat_lt t.third n && not (t.first == t.second) && not (t.second == t.third) && not (t.third == t.first)

abbrev pub NumberedAt : ℕ → List Triangle → ℕ → Type 0
NumberedAt n ts k = are_numbers n (corners_of (slice_index_or ts k blank_triangle)) ≡ true

abbrev pub PairedAt : List Triangle → ℕ → Type 0
PairedAt ts q = (p : ℕ) × Partners ts q p

abbrev pub PartneredAt : List Triangle → List ℕ → ℕ → Type 0
PartneredAt ts ps q = Partners ts q (slice_index ps q)

-- ---- what is asked of tables, in the order of the tests; m is the length of the partner list
pub record Counted (cs : List Point) (ts : List Triangle) (m : ℕ) : Type 0 where
  pub corners_few : length cs ≤ 4096
  pub triangles_few : length ts ≤ 4096
  pub long : m ≡ sides ts

pub record Filled (cs : List Point) (ts : List Triangle) (m : ℕ) : Type 0 where
  pub counted : Counted cs ts m
  pub some : 0 < length ts

pub record Inside (cs : List Point) (ts : List Triangle) (m : ℕ) : Type 0 where
  pub filled : Filled cs ts m
  pub all : (i : ℕ) → i < length cs → InsideAt cs i

pub record Numbered (cs : List Point) (ts : List Triangle) (m : ℕ) : Type 0 where
  pub inside : Inside cs ts m
  pub all : (k : ℕ) → k < length ts → NumberedAt (length cs) ts k

pub record Paired (cs : List Point) (ts : List Triangle) (m : ℕ) : Type 0 where
  pub numbered : Numbered cs ts m
  pub all : (q : ℕ) → q < sides ts → PairedAt ts q

-- the tables make a solid
pub record Partnered (cs : List Point) (ts : List Triangle) (ps : List ℕ) : Type 0 where
  pub numbered : Numbered cs ts (length ps)
  pub all : (q : ℕ) → q < sides ts → PartneredAt ts ps q

-- ---- what is wrong, and where: the first test that fails, and the first number at which it fails
pub record First (Good : ℕ → Type 0) (n i : ℕ) : Type 0 where
  pub below : i < n
  pub fails : Good i → ⊥
  pub before : (j : ℕ) → j < i → Good j

-- the answer of a search for the first failure below n
abbrev pub Searched : (ℕ → Type 0) → ℕ → Option ℕ → Type 0
Searched Good n r = MatchOption r ((i : ℕ) → i < n → Good i) (λ i. First Good n i)

abbrev pub misfit : Refusal → Site → Misfit
misfit why where' = record { refusal = why; site = where' }

-- corners and triangles that match no partner list of length m
pub data Unmatched (cs : List Point) (ts : List Triangle) (m : ℕ) : Misfit → Type 0 where
  many_corners : 4096 < length cs → Unmatched cs ts m (misfit Count (AtCorner 4096))
  many_triangles : length cs ≤ 4096 → 4096 < length ts → Unmatched cs ts m (misfit Count (AtTriangle 4096))
  other_length : length cs ≤ 4096 → length ts ≤ 4096 → (m ≢ sides ts) → Unmatched cs ts m (misfit Count (AtPartners m))
  no_triangle : Counted cs ts m → length ts ≡ 0 → Unmatched cs ts m (misfit Empty Nowhere)
  outside : {i : ℕ} → Filled cs ts m → First (InsideAt cs) (length cs) i → Unmatched cs ts m (misfit Coordinate (AtCorner i))
  misnumbered : {k : ℕ} → Inside cs ts m → First (NumberedAt (length cs) ts) (length ts) k → Unmatched cs ts m (misfit Corner (AtTriangle k))
  unpaired : {q : ℕ} → Numbered cs ts m → First (PairedAt ts) (sides ts) q → Unmatched cs ts m (misfit Side (AtPlace q))

-- tables that make no solid
pub data Unloaded (cs : List Point) (ts : List Triangle) (ps : List ℕ) : Misfit → Type 0 where
  unmatched : {e : Misfit} → Unmatched cs ts (length ps) e → Unloaded cs ts ps e
  mispartnered : {q : ℕ} → Paired cs ts (length ps) → First (PartneredAt ts ps) (sides ts) q → Unloaded cs ts ps (misfit Side (AtPlace q))

-- ---- what match and load answer, and what they leave
-- `before` and `after` are the partner list as match finds and as it leaves it
abbrev pub Matched : List Point → List Triangle → List ℕ → List ℕ → Result (Unit {0}) Misfit → Type 0
Matched cs ts before after r =
    MatchResult r (λ _. Partnered cs ts after) (λ e. Unmatched cs ts (length before) e × (after ≡ replicate (length before) 0))

-- `after` is the solid as load leaves it
abbrev pub Loaded : List Point → List Triangle → List ℕ → SolidModel → Result (Unit {0}) Misfit → Type 0
Loaded cs ts ps after r = MatchResult r (λ _. Partnered cs ts ps × (after ≡ tabled cs ts ps)) (λ e. Unloaded cs ts ps e × (after ≡ empty_solid))

-- ---- each verdict is the only one
abbrev pub OneVerdict : Type 0
OneVerdict =
    ((cs : List Point) (ts : List Triangle) (m : ℕ) (e f : Misfit) → Unmatched cs ts m e → Unmatched cs ts m f → e ≡ f)
    × ((cs : List Point) (ts : List Triangle) (ps : List ℕ) (e f : Misfit) → Unloaded cs ts ps e → Unloaded cs ts ps f → e ≡ f)
    × ((cs : List Point) (ts : List Triangle) (ps : List ℕ) (e : Misfit) → Unloaded cs ts ps e → Partnered cs ts ps → ⊥)
    × ((cs : List Point) (ts : List Triangle) (ps ps' : List ℕ) → Partnered cs ts ps → Partnered cs ts ps' → ps ≡ ps')
