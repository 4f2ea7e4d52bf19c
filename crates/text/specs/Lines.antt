-- Which lines pass the tests of the text, and what the others are refused with.
use Rattle.std.specs.Prelude.{◌≡◌, ℕ, Bool, true, false, List, ◌∷◌, length, Option, ◌≢◌}
use Rattle.text.specs.declared.head.Head.{Head}
use Rattle.text.specs.declared.fault.Fault.{Fault}
use Rattle.geometry.specs.declared.refusal.Refusal.TheVariants as refusal
use Rattle.text.specs.Pieces.{pieces}
use Rattle.text.specs.Heads.{word, shape, head_of}
use Rattle.text.specs.Order.{MayFollow}
use Rattle.text.specs.Entries.{Entry, Says, FirstBad}
use Rattle.text.specs.Faults.{fault_at}

-- the line's parts are the word for h and then the fields fs
abbrev pub Parted : List ℕ → Head → List (List ℕ) → Type 0
Parted l h fs = pieces 9 l ≡ word h ∷ fs

-- the line is ended, and begins with the head h, which may stand there; fs are its fields
pub record Headed (last : Option Head) (l : List ℕ) (ended : Bool) (h : Head) (fs : List (List ℕ)) : Type 0 where
  pub whole : ended ≡ true
  pub parts : Parted l h fs
  pub placed : MayFollow last h

-- the line says e, and may stand after a line whose head is `last`
pub record Reads (last : Option Head) (l : List ℕ) (ended : Bool) (e : Entry) : Type 0 where
  pub fields : List (List ℕ)
  pub headed : Headed last l ended (head_of e) fields
  pub says : Says (head_of e) fields e

-- the head is unknown or misplaced, or the line has no end
pub data Misheaded (last : Option Head) (l : List ℕ) (ended : Bool) : Type 0 where
  unended : ended ≡ false → Misheaded last l ended
  unknown : ((h : Head) (fs : List (List ℕ)) → Parted l h fs → ⊥) → Misheaded last l ended
  misplaced : (h : Head) (fs : List (List ℕ)) → Parted l h fs → (MayFollow last h → ⊥) → Misheaded last l ended

-- line n is refused for its text: 11, then 12, then 13
pub data Unreadable (last : Option Head) (l : List ℕ) (ended : Bool) (n : ℕ) : Fault → Type 0 where
  misheaded : Misheaded last l ended → Unreadable last l ended n (fault_at refusal.Head n 0)
  miscounted : (h : Head) (fs : List (List ℕ)) → Headed last l ended h fs → (length fs ≢ length (shape h)) → Unreadable last l ended n (fault_at refusal.Fields n 0)
  misspelt : (h : Head) (fs : List (List ℕ)) (k : ℕ) → Headed last l ended h fs → length fs ≡ length (shape h) → FirstBad (shape h) fs k → Unreadable last l ended n (fault_at refusal.Field n k)
