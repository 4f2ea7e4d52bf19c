-- What the height of a receiver is, in other words: the least number that is no lower than the ground and than anything laid there.
use Rattle.std.specs.Prelude.{◌≡◌, ℕ, ◌<◌, ◌⊎◌, List, [], ◌∷◌, ℤ, ◌≤ℤ◌, Some}
use Rattle.solids.specs.Solids.{SolidModel}
use Rattle.survey.specs.Drawing.{sample_of}
use Rattle.survey.specs.Changes.{lay_at}
use Rattle.survey.specs.Account.{Account, receiver_height}

-- S is one of the solids
abbrev pub Among : SolidModel → List SolidModel → Type 0
Among S [] = ⊥
Among S (R ∷ Rs) = (S ≡ R) ⊎ Among S Rs

-- a triangle of one of the solids that were laid lays the height h on the pixel in column k and row l
pub record LaysOn (a : Account) (k l : ℕ) (h : ℤ) : Type 0 where
  pub solid : SolidModel
  pub accepted : Among solid a.lays
  pub number : ℕ
  pub its_own : number < solid.triangles
  pub lays : lay_at solid number (sample_of k l) ≡ Some h

pub record Greatest (a : Account) (k l : ℕ) (height : ℤ) : Type 0 where
  pub from_ground : a.ground ≤ℤ height
  pub from_laid : (h : ℤ) → LaysOn a k l h → h ≤ℤ height
  pub reached : (height ≡ a.ground) ⊎ LaysOn a k l height

-- so the order in which solids are laid does not matter
abbrev pub HeightsAreGreatest : Type 0
HeightsAreGreatest = (a : Account) (k l : ℕ) → Greatest a k l (receiver_height a k l)
