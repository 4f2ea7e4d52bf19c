-- What is true of texts and jobs.
use Rattle.std.specs.Prelude.{◌≡◌, ℕ, List}
use Rattle.text.specs.Entries.{Entry}
use Rattle.text.specs.declared.fault.Fault.{Fault}
use Rattle.rules.specs.declared.room.Room.{Room}
use Rattle.rules.specs.Verdict.{Refused, Accepted}
use Rattle.rules.specs.Job.{Job, lines_of, spelling, Obeys, Fits}

-- a text is refused in one way or accepted in one way, and not both
pub record OneVerdict : Type 0 where
  pub one_fault : (room : Room) (text : List ℕ) (f g : Fault) → Refused room text f → Refused room text g → f ≡ g
  pub one_reading : (room : Room) (text : List ℕ) (es fs : List Entry) → Accepted room text es → Accepted room text fs → es ≡ fs
  pub not_both : (room : Room) (text : List ℕ) (es : List Entry) (f : Fault) → Accepted room text es → Refused room text f → ⊥

-- the texts that are accepted are those of the jobs that obey the rules and fit, and each job has one text and each text one job
pub record JobsAreAccepted : Type 0 where
  pub accepted : (room : Room) (text : List ℕ) (es : List Entry) → Accepted room text es → (j : Job) × ((es ≡ lines_of j) × ((text ≡ spelling j) × (Obeys j × Fits room j)))
  pub accepts : (room : Room) (j : Job) → Obeys j → Fits room j → Accepted room (spelling j) (lines_of j)
  pub one_job : (i j : Job) → Obeys i → Obeys j → spelling i ≡ spelling j → i ≡ j
  pub never_refused : (room : Room) (j : Job) (f : Fault) → Obeys j → Fits room j → Refused room (spelling j) f → ⊥
