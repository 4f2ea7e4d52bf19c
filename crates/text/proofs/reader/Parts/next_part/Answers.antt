use Rattle.std.proofs.Common.{◌∙◌, arith, length-drop}
use Rattle.std.proofs.lemmas.List.{take_all}
use Rattle.text.proofs.Cuts.{parts_more}
use Rattle.text.proofs.reader.Parts.next_part.Goals as goal

pub returns-clause-cut : goal.returns-clause-cut
returns-clause-cut c =
    let bytes = c.args.self.now.bytes.now in
    let at = c.args.self.now.at in
    let found = c.find-end.ensures in
    let rest = c.in_ok-rest.ensures.lookup.0 in
    parts_more 9 bytes c.in_ok-rest.rest.now at c.find-end.result (rest.2 ∙ take_all _ _ (omega (arith, length-drop at bytes))) found.before found.found rest.0
