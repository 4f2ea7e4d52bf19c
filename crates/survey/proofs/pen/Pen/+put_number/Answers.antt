use Rattle.std.proofs.Common.{arith}
use Rattle.survey.proofs.Pictures.{length-step, Leads, leads_none, leads_some, leads_room, leads_writes}
use Rattle.survey.proofs.pen.Pen.+put_number.Goals as goal
use Rattle.survey.proofs.pen.Pen.+put_number.Goals.{then-number-ge10, else-number-ge10}

pub put_number-requires : goal.put_number-requires
put_number-requires t c = let l = length-step c.args.number c.if-number-ge10.true (omega arith) in (omega arith, omega arith)

pub put-requires : goal.put-requires
put-requires t c =
    let led : Leads c.args.self.now c.if-number-ge10.self c.args.number = elim c.if-number-ge10.branch [
      | then-number-ge10 w ↦ leads_some c.args.self.now c.if-number-ge10.self w.put_number.new.self c.args.number w.if-number-ge10.true (omega arith) w.self-is w.put_number.ensures
      | else-number-ge10 w ↦ leads_none c.args.self.now c.if-number-ge10.self c.args.number (omega (arith, w.if-number-ge10.false)) w.self-is
    ] in
    leads_room c.args.self.now c.if-number-ge10.self c.args.number led c.requires

pub returns : goal.returns
returns t c =
    let p = c.args.self.now in
    let q = c.if-number-ge10.self in
    let led : Leads p q c.args.number = elim c.if-number-ge10.branch [
      | then-number-ge10 w ↦ leads_some p q w.put_number.new.self c.args.number w.if-number-ge10.true (omega arith) w.self-is w.put_number.ensures
      | else-number-ge10 w ↦ leads_none p q c.args.number (omega (arith, w.if-number-ge10.false)) w.self-is
    ] in
    leads_writes p q c.put.new.self c.args.number led c.put.ensures
