-- The text of a line that says something, and of several lines.
use Rattle.std.specs.Prelude.{ℕ, List, [], ◌∷◌, ◌++◌}
use Rattle.text.specs.Pieces.{glued}
use Rattle.text.specs.Heads.{word, head_of}
use Rattle.text.specs.Entries.{Entry, spelt}

-- a line without its end: the head and the fields with a tab between neighbours
abbrev pub line_of : Entry → List ℕ
line_of e = glued 9 (word (head_of e) ∷ spelt e)

-- the text that says some entries, line by line
abbrev pub written : List Entry → List ℕ
written [] = []
written (e ∷ es) = line_of e ++ 10 ∷ written es
