use Rattle.planes.proofs.Pixels.{wiped}
use Rattle.planes.proofs.rowwise.RowwisePlane.wipe.Goals as goal

pub returns-in-Some-clause-after : goal.returns-in-Some-clause-after
returns-in-Some-clause-after g c =
    let height = c.in-Some.ensures in
    wiped _ _ _ _ _ height.0 (rw (height.1, c.pixels.ensures) at c.fill.ensures.after)
