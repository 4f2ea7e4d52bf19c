use Rattle.std.proofs.Common.{arith}
use Rattle.survey.proofs.Pictures.{length-header, writes_more}
use Rattle.survey.proofs.pen.Pen.put_header.Goals as goal

pub put_text-requires : goal.put_text-requires
put_text-requires c = let l = length-header c.args.width c.args.rows in omega arith

pub put_number-requires : goal.put_number-requires
put_number-requires c =
    let l = length-header c.args.width c.args.rows in
    let a = c.put_text.ensures in
    omega (arith, a.written.place, a.size)

pub put_text-requires-2 : goal.put_text-requires-2
put_text-requires-2 c =
    let l = length-header c.args.width c.args.rows in
    let a = c.put_text.ensures in
    let b = c.put_number.ensures in
    omega (arith, a.written.place, a.size, b.written.place, b.size)

pub put_number-requires-2 : goal.put_number-requires-2
put_number-requires-2 c =
    let l = length-header c.args.width c.args.rows in
    let a = c.put_text.ensures in
    let b = c.put_number.ensures in
    let d = c.put_text-2.ensures in
    omega (arith, a.written.place, a.size, b.written.place, b.size, d.written.place, d.size)

pub put_text-requires-3 : goal.put_text-requires-3
put_text-requires-3 c =
    let l = length-header c.args.width c.args.rows in
    let a = c.put_text.ensures in
    let b = c.put_number.ensures in
    let d = c.put_text-2.ensures in
    let e = c.put_number-2.ensures in
    omega (arith, a.written.place, a.size, b.written.place, b.size, d.written.place, d.size, e.written.place, e.size)

pub returns : goal.returns
returns c =
    writes_more _ _ _ _ _ c.put_text.ensures
    (writes_more _ _ _ _ _ c.put_number.ensures
    (writes_more _ _ _ _ _ c.put_text-2.ensures
    (writes_more _ _ _ _ _ c.put_number-2.ensures c.put_text-3.ensures)))
