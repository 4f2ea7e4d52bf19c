-- Statements and the shapes of their lines.
use Rattle.std.proofs.Common.{◌≡◌, ℕ, List, length, refl}
use Rattle.text.specs.declared.head.Statement.{Statement}
use Rattle.text.specs.declared.head.Statement.TheVariants as say
use Rattle.text.specs.Heads.{shape, head_of, written_by}

pub fields_shape : {N K W : Type 0} (n : N → List ℕ) (k : K → List ℕ) (w : W → List ℕ) (s : Statement N K W) → length (written_by n k w s) ≡ length (shape (head_of s))
fields_shape n k w (say.Plan a b c) = refl
fields_shape n k w (say.Ground a) = refl
fields_shape n k w (say.Frame a b c d) = refl
fields_shape n k w (say.Corner a b c) = refl
fields_shape n k w (say.Face a b c) = refl
fields_shape n k w (say.Lay a) = refl
fields_shape n k w (say.Cast a b c d) = refl
