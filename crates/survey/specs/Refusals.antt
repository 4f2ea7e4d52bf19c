-- When each call refuses, and why: the tests in the order in which they are made. `None` is no refusal.
use Rattle.std.specs.Prelude.{ℕ, ◌+◌, Bool, cond, ℤ, pos, neg_ℤ, Some, None, Option, nat_le, nat_lt}
use Rattle.geometry.specs.Vectors.{V3}
use Rattle.geometry.specs.Limits.{between, in_run_limits}
use Rattle.geometry.specs.declared.refusal.Refusal.{Refusal}
use Rattle.geometry.specs.declared.refusal.Refusal.TheVariants as refusal
use Rattle.solids.specs.Solids.{SolidModel}
use Rattle.volumes.specs.Volumes.{sunward_total}
use Rattle.planes.specs.Planes.{PlaneModel, in_window}
use Rattle.survey.specs.Survey.{SurveyModel, has_pixels, fits}

-- what the ground can be
abbrev pub is_ground : ℤ → Bool
is_ground g = between (neg_ℤ (pos 8192)) (pos 8192) g

abbrev pub has_triangles : SolidModel → Bool
has_triangles S = nat_lt 0 S.triangles

-- the total after a cast may be 1,000,000 at most
abbrev pub stays_small : ℕ → SolidModel → V3 → Bool
stays_small total S d = nat_le (total + sunward_total S d) 1000000

-- a test that must hold, and the tests after it
abbrev pub unless : Bool → Refusal → Option Refusal → Option Refusal
unless b why rest = cond b rest (Some why)

abbrev pub begin_refusal : PlaneModel → ℤ → Option Refusal
begin_refusal m g = unless (has_pixels m) refusal.Plane (unless (is_ground g) refusal.Ground None)

abbrev pub lay_refusal : SurveyModel → PlaneModel → SolidModel → Option Refusal
lay_refusal s m S = unless (fits s m) refusal.Plane (unless (has_triangles S) refusal.Empty None)

abbrev pub cast_refusal : SurveyModel → PlaneModel → SolidModel → V3 → Option Refusal
cast_refusal s m S d =
    unless (fits s m) refusal.Plane
    (unless (has_triangles S) refusal.Empty
    (unless (in_run_limits d) refusal.Run
    (unless (stays_small s.total S d) refusal.Total
    None)))

abbrev pub look_refusal : SurveyModel → PlaneModel → ℕ → ℕ → Option Refusal
look_refusal s m k l = unless (fits s m) refusal.Plane (unless (in_window m k l) refusal.Pixel None)

-- `needed` bytes of picture, and `given` bytes of buffer
abbrev pub draw_refusal : SurveyModel → PlaneModel → (needed given : ℕ) → Option Refusal
draw_refusal s m needed given = unless (fits s m) refusal.Plane (unless (nat_le needed given) refusal.Picture None)
