-- What a line says: an entry, with its numbers and words; and how it is written.
use Rattle.std.specs.Prelude.{◌≡◌, ℕ, zero, suc, List, [], ◌∷◌, ℤ, codes}
use Rattle.std.specs.Fmt.{signed_decimal}
use Rattle.text.specs.declared.head.Head.{Head}
use Rattle.text.specs.declared.head.Statement.{Statement}
use Rattle.text.specs.declared.head.Statement.TheVariants as entry
use Rattle.text.specs.declared.entry.PlaneKind.{PlaneKind}
use Rattle.text.specs.declared.entry.PlaneKind.TheVariants.{Line, Pack}
use Rattle.text.specs.declared.entry.What.{What}
use Rattle.text.specs.declared.entry.What.TheVariants.{Solids}
use Rattle.text.specs.Heads.{Sort, number, plane_kind, what, head_of, written_by}
use Rattle.text.specs.Number.{SixDigits, Spells}

abbrev pub kind_word : PlaneKind → List ℕ
kind_word Line = codes "line"
kind_word Pack = codes "pack"

abbrev pub what_word : What → List ℕ
what_word Solids = codes "solids"

-- what a line says
abbrev pub Entry : Type 0
Entry = Statement ℤ PlaneKind What

-- the fields that say it
abbrev pub spelt : Entry → List (List ℕ)
spelt e = written_by signed_decimal kind_word what_word e

-- each of its numbers has at most six digits
abbrev pub Few : Entry → Type 0
Few (entry.Plan w r k) = SixDigits w × SixDigits r
Few (entry.Ground g) = SixDigits g
Few (entry.Frame c0 r0 c1 r1) = SixDigits c0 × SixDigits r0 × SixDigits c1 × SixDigits r1
Few (entry.Corner x y z) = SixDigits x × SixDigits y × SixDigits z
Few (entry.Face a b c) = SixDigits a × SixDigits b × SixDigits c
Few (entry.Lay w) = Unit {0}
Few (entry.Cast w x y z) = SixDigits x × SixDigits y × SixDigits z

-- a line with this head and these fields says e
pub record Says (h : Head) (fs : List (List ℕ)) (e : Entry) : Type 0 where
  pub kind : h ≡ head_of e
  pub text : fs ≡ spelt e
  pub few : Few e

-- f is what a field of this sort may hold
abbrev pub Good : Sort → List ℕ → Type 0
Good number f = (z : ℤ) × Spells f z
Good plane_kind f = (k : PlaneKind) × (f ≡ kind_word k)
Good what f = (w : What) × (f ≡ what_word w)

-- field k, from 1, is the first that does not hold what it may
abbrev pub FirstBad : List Sort → List (List ℕ) → ℕ → Type 0
FirstBad [] fs k = ⊥
FirstBad (s ∷ ss) [] k = ⊥
FirstBad (s ∷ ss) (f ∷ fs) zero = ⊥
FirstBad (s ∷ ss) (f ∷ fs) (suc zero) = Good s f → ⊥
FirstBad (s ∷ ss) (f ∷ fs) (suc (suc k)) = Good s f × FirstBad ss fs (suc k)
