-- What is left to read of a job's text and of a line.
use Rattle.std.specs.Prelude.{◌≡◌, ℕ, ◌<◌, Bool, true, false, cond, List, [], ◌∷◌, ◌++◌, length, drop, nat_le}
use Rattle.text.specs.declared.reader.Reader.{Reader}
use Rattle.text.specs.declared.reader.Parts.{Parts}
use Rattle.text.specs.Pieces.{Without, pieces}

-- the text that the reader has not handed out
abbrev pub rest : Reader → List ℕ
rest r = drop r.at r.text.now

-- the bytes of a line as they stand in the text: byte 10 ends a line, and the last may lack it
abbrev pub ended : Bool → List ℕ → List ℕ
ended true l = 10 ∷ l
ended false l = []

-- l is the first line of the text `from`, and `to` is what follows it
pub record FirstLine (from l : List ℕ) (end : Bool) (to : List ℕ) : Type 0 where
  pub plain : Without 10 l
  pub whole : from ≡ l ++ ended end to
  pub last : end ≡ false → (0 < length l) × (to ≡ [])

-- the parts of a line that are not handed out yet
abbrev pub left : Parts → List (List ℕ)
left p = cond (nat_le p.at (length p.bytes.now)) (pieces 9 (drop p.at p.bytes.now)) []
