use Rattle.std.proofs.Common.{sym, eqb-true}
use Rattle.solids.proofs.Verdicts.{filled_unless}
use Rattle.solids.specs.Tables.{no_triangle, outside, misnumbered}
use Rattle.solids.proofs.matching.Mesh.test_tables.Goals as goal

pub returns-then-is_empty : goal.returns-then-is_empty
returns-then-is_empty c =
    rw c.new.ensures (no_triangle c.in_ok-test_counts.ensures (eqb-true _ _ (sym c.if-is_empty.ensures)))

pub returns-in-Some : goal.returns-in-Some
returns-in-Some c =
    rw c.new-in-Some.ensures (outside (filled_unless c.in_ok-test_counts.ensures (sym c.if-is_empty.ensures)) c.in-Some.ensures)

pub returns-in-Some-first_misnumbered : goal.returns-in-Some-first_misnumbered
returns-in-Some-first_misnumbered c =
    rw c.new-in-Some-first_misnumbered.ensures
    (misnumbered
    (record { filled = filled_unless c.in_ok-test_counts.ensures (sym c.if-is_empty.ensures); all = c.in_default.ensures })
    c.in-Some-first_misnumbered.ensures)
