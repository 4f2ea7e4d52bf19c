-- What writing with a pen does.
use Rattle.std.specs.Prelude.{◌≡◌, ℕ, ◌+◌, ◌≤◌, List, length}
use Rattle.survey.specs.Picture.{Appended}
use Rattle.survey.specs.declared.pen.Pen.{Pen}

-- so many bytes fit behind what is written
abbrev pub HasRoom : ℕ → Pen → Type 0
HasRoom n p = p.at + n ≤ length p.buffer.now

-- the pen p writes the bytes bs and becomes q: its buffer is the one it was, and as long
pub record Writes (p : Pen) (bs : List ℕ) (q : Pen) : Type 0 where
  pub same : q.buffer.ghost_name ≡ p.buffer.ghost_name
  pub size : length q.buffer.now ≡ length p.buffer.now
  pub written : Appended p.at bs p.buffer.now q.buffer.now q.at
