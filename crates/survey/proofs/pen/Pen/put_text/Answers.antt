use Rattle.std.proofs.Common.{◌≡◌, ◌+◌, ◌-◌, ◌≤◌, ◌++◌, length, take, refl, ap, ◌∙◌, arith}
use Rattle.std.proofs.lemmas.Slice.{take-put_mid, drop-put_mid}
use borrow.Rule.Slice.PartMut.{put_mid, same_len_mid}
use Rattle.survey.proofs.Pictures.{appended_text}
use Rattle.survey.proofs.pen.Pen.put_text.Goals as goal

pub returns : goal.returns
returns c =
    let p = c.args.self.now in
    let at = p.at in
    let old = p.buffer.now in
    let text = c.args.text.now in
    let put = c.copy_from_slice.new.self in
    let is : put ≡ text = c.copy_from_slice.ensures.after in
    let long : length put ≡ length text = ap length is in
    let room : at + length text ≤ length old = c.requires in
    record {
      same = refl;
      size = same_len_mid at (at + length text - at) old put c.copy_from_slice.ensures.len;
      written =
          appended_text at text old (put_mid at (at + length text - at) old put)
          (take-put_mid at (at + length text - at) old put (at + length text) (omega (arith, long)) (omega (arith, room)) ∙ ap (λ (x : _). take at old ++ x) is)
          (drop-put_mid at (at + length text - at) old put (at + length text) (omega arith) (omega (arith, room)) (omega (arith, long)));
    }
