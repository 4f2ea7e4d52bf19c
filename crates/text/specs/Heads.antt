-- The heads of a job's lines, and how many fields stand behind each.
use Rattle.std.specs.Prelude.{ℕ, List, [], ◌∷◌, codes}
use Rattle.std.specs.Borrow.{Bor}
use Rattle.text.specs.declared.head.Head.{Head}
use Rattle.text.specs.declared.head.Head.TheVariants as head
use Rattle.text.specs.declared.head.Statement.{Statement}
use Rattle.text.specs.declared.head.Statement.TheVariants as say

abbrev pub word : Head → List ℕ
word head.Plan = codes "plan"
word head.Ground = codes "ground"
word head.Frame = codes "frame"
word head.Corner = codes "corner"
word head.Face = codes "face"
word head.Lay = codes "lay"
word head.Cast = codes "cast"

-- what a field may hold: a number, the word for a kind of plane, or the word for what is drawn
pub data Sort : Type 0 where
  number : Sort
  plane_kind : Sort
  what : Sort

abbrev pub shape : Head → List Sort
shape head.Plan = number ∷ number ∷ plane_kind ∷ []
shape head.Ground = number ∷ []
shape head.Frame = number ∷ number ∷ number ∷ number ∷ []
shape head.Corner = number ∷ number ∷ number ∷ []
shape head.Face = number ∷ number ∷ number ∷ []
shape head.Lay = what ∷ []
shape head.Cast = what ∷ number ∷ number ∷ number ∷ []

abbrev pub head_of : {N K W : Type 0} → Statement N K W → Head
head_of (say.Plan w r k) = head.Plan
head_of (say.Ground g) = head.Ground
head_of (say.Frame c0 r0 c1 r1) = head.Frame
head_of (say.Corner x y z) = head.Corner
head_of (say.Face a b c) = head.Face
head_of (say.Lay w) = head.Lay
head_of (say.Cast w x y z) = head.Cast

-- the fields in order, where n, k and w write a number, a kind of plane and what is drawn
abbrev pub written_by : {N K W : Type 0} → (N → List ℕ) → (K → List ℕ) → (W → List ℕ) → Statement N K W → List (List ℕ)
written_by n k w (say.Plan a b c) = n a ∷ n b ∷ k c ∷ []
written_by n k w (say.Ground a) = n a ∷ []
written_by n k w (say.Frame a b c d) = n a ∷ n b ∷ n c ∷ n d ∷ []
written_by n k w (say.Corner a b c) = n a ∷ n b ∷ n c ∷ []
written_by n k w (say.Face a b c) = n a ∷ n b ∷ n c ∷ []
written_by n k w (say.Lay a) = w a ∷ []
written_by n k w (say.Cast a b c d) = w a ∷ n b ∷ n c ∷ n d ∷ []

-- a line whose fields are parts of the text
abbrev pub Record : Type 0
Record = Statement (Bor (List ℕ)) (Bor (List ℕ)) (Bor (List ℕ))

abbrev pub fields : Record → List (List ℕ)
fields r = written_by (λ a. a.now) (λ a. a.now) (λ a. a.now) r
