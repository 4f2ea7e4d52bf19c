-- What is true of lines: each is cut and read in one way.
use Rattle.std.specs.Prelude.{◌≡◌, ℕ, Bool, List, Option}
use Rattle.text.specs.declared.head.Head.{Head}
use Rattle.text.specs.Entries.{Entry}
use Rattle.text.specs.declared.fault.Fault.{Fault}
use Rattle.text.specs.Lines.{Reads, Unreadable}

-- a line says one thing, or is refused in one way, and not both
pub record OneReading : Type 0 where
  pub one_entry : (last : Option Head) (l : List ℕ) (end : Bool) (e f : Entry) → Reads last l end e → Reads last l end f → e ≡ f
  pub one_fault : (last : Option Head) (l : List ℕ) (end : Bool) (n : ℕ) (f g : Fault) → Unreadable last l end n f → Unreadable last l end n g → f ≡ g
  pub not_both : (last : Option Head) (l : List ℕ) (end : Bool) (n : ℕ) (e : Entry) (f : Fault) → Reads last l end e → Unreadable last l end n f → ⊥
