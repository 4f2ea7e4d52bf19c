use Rattle.std.proofs.Common.{refl}
use Rattle.std.proofs.lemmas.List.{length-set}
use Rattle.survey.proofs.Pictures.{appended_one}
use Rattle.survey.proofs.pen.Pen.put.Goals as goal

pub returns : goal.returns
returns c = record {
  same = refl;
  size = length-set c.args.self.now.buffer.now c.args.self.now.at c.args.byte;
  written = appended_one c.args.self.now.at c.args.byte c.args.self.now.buffer.now c.requires;
}
