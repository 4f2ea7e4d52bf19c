use Rattle.text.proofs.Unique.{same_entry, same_unreadable, not_unreadable}
use Rattle.text.proofs.theorems.one_reading.Goals as goal

pub returns : goal.returns
returns c = record {
  one_entry = same_entry;
  one_fault = λ last l end n f g. same_unreadable n f g;
  not_both = λ last l end n e f. not_unreadable n e f;
}
