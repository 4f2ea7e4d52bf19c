-- The numbers of refusals.
use Rattle.std.specs.Prelude.{ℕ, List, ◌++◌, decimal, codes}
use Rattle.geometry.specs.declared.refusal.Refusal.{Refusal}
use Rattle.geometry.specs.declared.refusal.Refusal.TheVariants as refusal

-- the number of a refusal
abbrev pub number_of : Refusal → ℕ
number_of refusal.Plane = 1
number_of refusal.Ground = 2
number_of refusal.Coordinate = 3
number_of refusal.Corner = 4
number_of refusal.Side = 5
number_of refusal.Empty = 6
number_of refusal.Count = 7
number_of refusal.Run = 8
number_of refusal.Total = 9
number_of refusal.Pixel = 10
number_of refusal.Head = 11
number_of refusal.Fields = 12
number_of refusal.Field = 13
number_of refusal.Room = 14
number_of refusal.Picture = 15

-- the bytes that tell it: the word `refused`, a space and the number
abbrev pub told : Refusal → List ℕ
told refusal = codes "refused " ++ decimal (number_of refusal)
