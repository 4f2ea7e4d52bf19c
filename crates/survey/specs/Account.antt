-- What a survey is about: its ground, the solids laid on it, the solids that were cast and their light; and what all that comes to at a pixel.
use Rattle.std.specs.Prelude.{◌≡◌, ℕ, ◌+◌, ◌%◌, ◌<◌, ◌≤◌, true, List, [], ◌∷◌, ◌++◌, ℤ, Option}
use Rattle.algebra.specs.Maxima.{maximum_over_some}
use Rattle.geometry.specs.Vectors.{V3}
use Rattle.solids.specs.Solids.{SolidModel}
use Rattle.volumes.specs.Faces.{Sample, receiver}
use Rattle.volumes.specs.Volumes.{sunward_total, struck}
use Rattle.planes.specs.Planes.{PlaneModel, in_window}
use Rattle.survey.specs.Drawing.{sample_of}
use Rattle.survey.specs.Survey.{SurveyModel, shape_of}
use Rattle.survey.specs.Changes.{lays_of}
use Rattle.survey.specs.declared.mark.Mark.{Mark}
use Rattle.survey.specs.declared.mark.Mark.TheVariants.{Shaded, Unsure, Lit}

-- a solid under light that travels along the run
pub record Shadow : Type 0 where
  pub solid : SolidModel
  pub run : V3

-- the accepted calls, oldest first
pub record Account : Type 0 where
  pub ground : ℤ
  pub lays : List SolidModel
  pub casts : List Shadow

-- the account of a ground, of solids laid and of solids cast
abbrev pub account : ℤ → List SolidModel → List Shadow → Account
account g laid cast = record { ground = g; lays = laid; casts = cast }

abbrev pub bare : ℤ → Account
bare g = record { ground = g; lays = []; casts = [] }

-- one more lay, and one more cast
abbrev pub with_lay : Account → SolidModel → Account
with_lay a S = record { ground = a.ground; lays = a.lays ++ (S ∷ []); casts = a.casts }

abbrev pub with_cast : Account → SolidModel → V3 → Account
with_cast a S d = record { ground = a.ground; lays = a.lays; casts = a.casts ++ (record { solid = S; run = d } ∷ []) }

-- ---- what it comes to
-- all that the solids lay on a sample
abbrev pub all_lays : List SolidModel → Sample → List (Option ℤ)
all_lays [] p = []
all_lays (S ∷ Ss) p = lays_of S p ++ all_lays Ss p

-- how often the solids strike a point
abbrev pub all_strikes : List Shadow → V3 → ℕ
all_strikes [] P = 0
all_strikes (c ∷ cs) P = struck c.solid c.run P + all_strikes cs P

-- how many sunward triangles the solids have
abbrev pub all_sunward : List Shadow → ℕ
all_sunward [] = 0
all_sunward (c ∷ cs) = sunward_total c.solid c.run + all_sunward cs

-- the height of the pixel in column k and row l: the greatest of the ground and of all that was laid there
abbrev pub receiver_height : Account → ℕ → ℕ → ℤ
receiver_height a k l = maximum_over_some a.ground (all_lays a.lays (sample_of k l))

-- how often its receiver was struck
abbrev pub strikes_at : Account → ℕ → ℕ → ℕ
strikes_at a k l = all_strikes a.casts (receiver (sample_of k l) (receiver_height a k l))

abbrev pub total_of : Account → ℕ
total_of a = all_sunward a.casts

-- ---- THE LAW: the plane m holds what the account a of the survey s comes to
pub record Stands (a : Account) (m : PlaneModel) (s : SurveyModel) : Type 0 where
  pub shape : s.shape ≡ shape_of m
  pub heights : (k l : ℕ) → in_window m k l ≡ true → m.height k l ≡ receiver_height a k l
  pub counts : (k l : ℕ) → in_window m k l ≡ true → m.count k l ≡ strikes_at a k l % m.modulus
  pub total : s.total ≡ total_of a

-- what a mark, a count and a total tell of the strikes at a pixel under the account a and the modulus M
pub record Told (a : Account) (M k l : ℕ) (mark : Mark) (count total : ℕ) : Type 0 where
  pub count_is : count ≡ strikes_at a k l % M
  pub total_is : total ≡ total_of a
  pub shaded : mark ≡ Shaded → 0 < strikes_at a k l
  pub lit : mark ≡ Lit → strikes_at a k l ≡ 0
  pub unsure : mark ≡ Unsure → (count ≡ 0) × (M ≤ total)
  pub unsure_when : count ≡ 0 → M ≤ total → mark ≡ Unsure

-- ---- what a call does to every account
-- each account that stood, of whatever survey, stands
abbrev pub Undisturbed : PlaneModel → PlaneModel → Type 0
Undisturbed m n = (a : Account) (t : SurveyModel) → Stands a m t → Stands a n t

-- each account of the survey s that stood, stands with one more lay
abbrev pub CarriesLay : SurveyModel → PlaneModel → SolidModel → PlaneModel → Type 0
CarriesLay s m S n = (a : Account) → Stands a m s → Stands (with_lay a S) n s

-- each account of the survey s that stood, stands with one more cast of the survey t, which s has become
abbrev pub CarriesCast : SurveyModel → PlaneModel → SolidModel → V3 → SurveyModel → PlaneModel → Type 0
CarriesCast s m S d t n = (a : Account) → Stands a m s → Stands (with_cast a S d) n t
