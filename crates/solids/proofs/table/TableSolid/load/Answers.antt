use Rattle.solids.proofs.Tables.{partners_within, partners_reverse, partners_back}
use Rattle.solids.proofs.table.TableSolid.load.Goals as goal

pub invariant_of-self : goal.invariant_of-self
invariant_of-self c =
    let p = c.in_ok-test_partners.ensures in
    let n = p.numbered in
    let counted = n.inside.filled.counted in
    record {
      few = counted.corners_few;
      small = counted.triangles_few;
      long = counted.long;
      inside = n.inside.all;
      numbered = n.all;
      within = partners_within _ _ _ p;
      reverse = partners_reverse _ _ _ p;
      back = partners_back _ _ _ p;
    }
