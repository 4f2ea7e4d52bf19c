-- The law over whole surveys: any list of lays, accepted or refused, and then any list of casts, accepted or refused.
use Rattle.std.specs.Prelude.{◌≡◌, ℕ, ◌+◌, true, List, [], ◌∷◌, ℤ}
use Rattle.geometry.specs.Vectors.{V3}
use Rattle.geometry.specs.declared.refusal.Refusal.{Refusal}
use Rattle.solids.specs.Solids.{SolidModel}
use Rattle.volumes.specs.Volumes.{sunward_total}
use Rattle.planes.specs.Planes.{PlaneModel, Sound, in_window}
use Rattle.survey.specs.Survey.{SurveyModel, mark_of}
use Rattle.survey.specs.Refusals.{is_ground}
use Rattle.survey.specs.Changes.{Laid, Shadowed, Begun}
use Rattle.survey.specs.Account.{Shadow, Account, account, Stands, Told}

-- An attempt to lay: accepted, of a solid; or refused, for a reason, whatever solid or plane it was given.
pub data LayAttempt : Type 0 where
  Lays : SolidModel → LayAttempt
  LayRefused : Refusal → LayAttempt

-- an attempt to cast
pub data CastAttempt : Type 0 where
  Casts : SolidModel → V3 → CastAttempt
  CastRefused : Refusal → CastAttempt

-- ---- what each attempt does to the survey and its plane, as the contracts of the calls say. A refused one alters nothing.
abbrev pub LayStep : LayAttempt → PlaneModel → PlaneModel → Type 0
LayStep (Lays S) m n = Laid m S n
LayStep (LayRefused why) m n = n ≡ m

abbrev pub CastStep : CastAttempt → PlaneModel → SurveyModel → PlaneModel → SurveyModel → Type 0
CastStep (Casts S d) m s n t = Shadowed m S d n × (t ≡ record { shape = s.shape; total = s.total + sunward_total S d })
CastStep (CastRefused why) m s n t = (n ≡ m) × (t ≡ s)

-- attempts one after another
abbrev pub LayRun : List LayAttempt → PlaneModel → PlaneModel → Type 0
LayRun [] m n = n ≡ m
LayRun (q ∷ qs) m n = (o : PlaneModel) × LayStep q m o × LayRun qs o n

abbrev pub CastRun : List CastAttempt → PlaneModel → SurveyModel → PlaneModel → SurveyModel → Type 0
CastRun [] m s n t = (n ≡ m) × (t ≡ s)
CastRun (q ∷ qs) m s n t = (o : PlaneModel) × (u : SurveyModel) × CastStep q m s o u × CastRun qs o u n t

-- ---- the account of the accepted ones
abbrev pub accepted_lays : List LayAttempt → List SolidModel
accepted_lays [] = []
accepted_lays (Lays S ∷ qs) = S ∷ accepted_lays qs
accepted_lays (LayRefused why ∷ qs) = accepted_lays qs

abbrev pub accepted_casts : List CastAttempt → List Shadow
accepted_casts [] = []
accepted_casts (Casts S d ∷ qs) = record { solid = S; run = d } ∷ accepted_casts qs
accepted_casts (CastRefused why ∷ qs) = accepted_casts qs

abbrev pub account_of : ℤ → List LayAttempt → List CastAttempt → Account
account_of g qs rs = account g (accepted_lays qs) (accepted_casts rs)

-- A whole survey: begun on the plane m with the ground g, then the lays qs, then the casts rs. It ends as t with the plane n.
pub record Survey (g : ℤ) (qs : List LayAttempt) (rs : List CastAttempt) (m n : PlaneModel) (t : SurveyModel) : Type 0 where
  pub begun_plane : PlaneModel
  pub laid_plane : PlaneModel
  pub begun : SurveyModel
  pub begins : Begun m g begun begun_plane
  pub laying : LayRun qs begun_plane laid_plane
  pub casting : CastRun rs laid_plane begun n t

-- It ends with the account of its accepted calls, and each mark tells the truth about the strikes at its pixel.
abbrev pub SurveysObey : Type 0
SurveysObey =
    (g : ℤ) (qs : List LayAttempt) (rs : List CastAttempt) (m n : PlaneModel) (t : SurveyModel) → Sound m → is_ground g ≡ true → Survey g qs rs m n t
    → Stands (account_of g qs rs) n t
    × ((k l : ℕ) → in_window n k l ≡ true
    → Told (account_of g qs rs) n.modulus k l (mark_of n.modulus (n.count k l) t.total) (n.count k l) t.total)
