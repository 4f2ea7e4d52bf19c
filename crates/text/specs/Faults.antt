-- The part of the work that each refusal belongs to, and the fault that a refusal is at a place.
use Rattle.std.specs.Prelude.{ℕ}
use Rattle.geometry.specs.declared.refusal.Refusal.{Refusal}
use Rattle.geometry.specs.declared.refusal.Refusal.TheVariants as refusal
use Rattle.text.specs.declared.fault.Part.{Part}
use Rattle.text.specs.declared.fault.Part.TheVariants as part
use Rattle.text.specs.declared.fault.Fault.{Fault}

abbrev pub part_of : Refusal → Part
part_of refusal.Plane = part.Survey
part_of refusal.Ground = part.Survey
part_of refusal.Coordinate = part.Solid
part_of refusal.Corner = part.Solid
part_of refusal.Side = part.Solid
part_of refusal.Empty = part.Solid
part_of refusal.Count = part.Solid
part_of refusal.Run = part.Survey
part_of refusal.Total = part.Survey
part_of refusal.Pixel = part.Survey
part_of refusal.Head = part.Text
part_of refusal.Fields = part.Text
part_of refusal.Field = part.Text
part_of refusal.Room = part.Text
part_of refusal.Picture = part.Survey

abbrev pub part_number : Part → ℕ
part_number part.Text = 1
part_number part.Solid = 2
part_number part.Survey = 3

-- the fault with this refusal, line and field
abbrev pub fault_at : Refusal → ℕ → ℕ → Fault
fault_at why line field = record { refusal = why; part = part_of why; line = line; field = field }
