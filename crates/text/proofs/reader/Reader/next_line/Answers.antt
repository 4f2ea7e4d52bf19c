use Rattle.std.proofs.Common.{refl, ◌-◌, length, take, drop, arith, length-drop}
use Rattle.std.proofs.lemmas.List.{take_all}
use Rattle.text.proofs.Cuts.{first_line}
use Rattle.text.proofs.reader.Reader.next_line.Goals as goal

pub returns-clause-cut : goal.returns-clause-cut
returns-clause-cut c =
    let text = c.args.self.now.text.now in
    let at = c.args.self.now.at in
    let found = c.find-end.ensures in
    first_line text (take (length text - at) (drop at text)) at c.find-end.result c.from.result _ (take_all _ _ (omega (arith, length-drop at text))) (grind arith) found.before found.found refl c.from.ensures
