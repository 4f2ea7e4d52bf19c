-- The order of a job's lines: plan, ground, frame, corner, face, lay, cast. Plan and ground stand once each and first,
-- frame at most once, and each of the others any number of times.
use Rattle.std.specs.Prelude.{◌≡◌, ℕ, ◌<◌, ◌≤◌, ◌⊎◌, Some, None, Option}
use Rattle.text.specs.declared.head.Head.{Head}
use Rattle.text.specs.declared.head.Head.TheVariants as head
use Rattle.text.specs.declared.machine.Stage.{Stage}
use Rattle.text.specs.declared.machine.Stage.TheVariants as stage

-- the place of a head in that order
abbrev pub rank : Head → ℕ
rank head.Plan = 0
rank head.Ground = 1
rank head.Frame = 2
rank head.Corner = 3
rank head.Face = 4
rank head.Lay = 5
rank head.Cast = 6

-- h may stand in the line after one whose head is `last`, or in the first line where there is none:
-- it is later in the order, and ground is not left out; or it is the same, and one that may be repeated
abbrev pub MayFollow : Option Head → Head → Type 0
MayFollow None h = h ≡ head.Plan
MayFollow (Some last) h = ((rank last < rank h) × (rank last ≡ 0 → rank h ≡ 1)) ⊎ ((rank last ≡ rank h) × (3 ≤ rank h))

-- the head of the last line that was read
abbrev pub last_head : Stage → Option Head
last_head stage.Start = None
last_head stage.Planned = Some head.Plan
last_head stage.Grounded = Some head.Ground
last_head stage.Framed = Some head.Frame
last_head stage.Corners = Some head.Corner
last_head stage.Faces = Some head.Face
last_head stage.Lays = Some head.Lay
last_head stage.Casts = Some head.Cast
