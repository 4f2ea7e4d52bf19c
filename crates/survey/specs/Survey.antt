-- A survey: what it knows of its plane, when a plane is the survey's, and the marks that it gives.
use Rattle.std.specs.Prelude.{ℕ, Bool, cond, ◌&&◌, ◌==◌, nat_lt}
use Rattle.planes.specs.Planes.{PlaneModel}
use Rattle.survey.specs.declared.state.Shape.{Shape}
use Rattle.survey.specs.declared.state.Laying.{Laying}
use Rattle.survey.specs.declared.state.Casting.{Casting}
use Rattle.survey.specs.declared.mark.Mark.{Mark}
use Rattle.survey.specs.declared.mark.Mark.TheVariants.{Shaded, Unsure, Lit}

-- the numbers of a plane that no call changes: by them a survey knows its plane again
pub record ShapeModel : Type 0 where
  pub width : ℕ
  pub rows : ℕ
  pub modulus : ℕ
  pub c0 : ℕ
  pub r0 : ℕ
  pub c1 : ℕ
  pub r1 : ℕ

abbrev pub shape_of : PlaneModel → ShapeModel
shape_of m = record {
  width = m.width;
  rows = m.rows;
  modulus = m.modulus;
  c0 = m.c0;
  r0 = m.r0;
  c1 = m.c1;
  r1 = m.r1;
}

-- the same as the code holds them
abbrev pub numbers_of : Shape → ShapeModel
numbers_of s = record {
  width = s.width;
  rows = s.rows;
  modulus = s.modulus;
  c0 = s.window.c0.0;
  r0 = s.window.r0.0;
  c1 = s.window.c1.0;
  r1 = s.window.r1.0;
}

-- what a survey holds: the numbers of its plane, and how many sunward triangles it has cast
pub record SurveyModel : Type 0 where
  pub shape : ShapeModel
  pub total : ℕ

-- while solids are laid nothing is cast
abbrev pub laying_of : Laying → SurveyModel
laying_of s = record { shape = numbers_of s.shape; total = 0 }

abbrev pub casting_of : Casting → SurveyModel
casting_of s = record { shape = numbers_of s.shape; total = s.total }

-- ---- the survey's plane
-- a plane with no pixels is no survey's
abbrev pub has_pixels : PlaneModel → Bool
has_pixels m = nat_lt 0 m.width && nat_lt 0 m.rows

abbrev pub same_numbers : ShapeModel → ShapeModel → Bool
same_numbers s t =
    (s.width == t.width)
    && s.rows == t.rows
    && s.modulus == t.modulus
    && s.c0 == t.c0
    && s.r0 == t.r0
    && s.c1 == t.c1
    && s.r1 == t.r1

-- the plane has pixels, and its numbers are those that the survey began with
abbrev pub fits : SurveyModel → PlaneModel → Bool
fits s m = has_pixels m && same_numbers s.shape (shape_of m)

-- ---- marks
-- What a count says under the modulus M when `total` sunward triangles were cast: shaded if it is not 0; and if it is 0, lit where so few
-- triangles cannot have wrapped it, and else in doubt.
abbrev pub mark_of : (M count total : ℕ) → Mark
mark_of M count total = cond (count == 0) (cond (nat_lt total M) Lit Unsure) Shaded

-- the grey that stands for a mark in a picture
abbrev pub grey_of : Mark → ℕ
grey_of Shaded = 0
grey_of Unsure = 128
grey_of Lit = 255
