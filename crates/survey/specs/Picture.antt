-- The picture of a survey: a grey map in the raw PGM format.
use Rattle.std.specs.Prelude.{◌≡◌, ℕ, zero, suc, ◌+◌, ◌*◌, cond, List, [], ◌∷◌, ◌++◌, length, drop, decimal}
use Rattle.planes.specs.Planes.{PlaneModel, in_window}
use Rattle.survey.specs.Survey.{SurveyModel, mark_of, grey_of}
use Rattle.survey.specs.Account.{Account, Told}
use Rattle.survey.specs.declared.mark.Mark.{Mark}

-- "P5", the width and the rows, and the greatest grey, 255: three lines
abbrev pub header_of : (width rows : ℕ) → List ℕ
header_of width rows = (80 ∷ 53 ∷ 10 ∷ []) ++ (decimal width ++ ((32 ∷ []) ++ (decimal rows ++ (10 ∷ 50 ∷ 53 ∷ 53 ∷ 10 ∷ []))))

-- the grey of the pixel in column k and row l: that of its mark in the window, and 64 outside
abbrev pub grey_at : PlaneModel → (total k l : ℕ) → ℕ
grey_at m total k l = cond (in_window m k l) (grey_of (mark_of m.modulus (m.count k l) total)) 64

-- the greys of the columns below n in row l, and those of the rows below n
abbrev pub row_below : PlaneModel → (total l n : ℕ) → List ℕ
row_below m total l zero = []
row_below m total l (suc k) = row_below m total l k ++ (grey_at m total k l ∷ [])

abbrev pub rows_below : PlaneModel → (total n : ℕ) → List ℕ
rows_below m total zero = []
rows_below m total (suc l) = rows_below m total l ++ row_below m total l m.width

abbrev pub picture : PlaneModel → (total : ℕ) → List ℕ
picture m total = header_of m.width m.rows ++ rows_below m total m.rows

-- where the byte of the pixel in column k and row l stands in it
abbrev pub byte_of : PlaneModel → (k l : ℕ) → ℕ
byte_of m k l = length (header_of m.width m.rows) + (l * m.width + k)

-- a byte shows a pixel: it is the grey of a mark that tells the truth
pub record Shows (a : Account) (m : PlaneModel) (s : SurveyModel) (k l byte : ℕ) : Type 0 where
  pub mark : Mark
  pub grey : byte ≡ grey_of mark
  pub truth : Told a m.modulus k l mark (m.count k l) s.total

-- ---- writing a buffer from its front
-- what the buffer e holds when the bytes bs are written to its front
abbrev pub filled : List ℕ → List ℕ → List ℕ
filled e bs = bs ++ drop (length bs) e

-- from the place `at` on the bytes bs are written: what was written before is followed by them
pub record Appended (at : ℕ) (bs : List ℕ) (old new : List ℕ) (after : ℕ) : Type 0 where
  pub place : after ≡ at + length bs
  pub bytes : (e before : List ℕ) → length before ≡ at → old ≡ filled e before → new ≡ filled e (before ++ bs)
