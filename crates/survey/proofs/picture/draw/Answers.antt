use Rattle.std.proofs.Common.{◌≡◌, ℕ, ◌<◌, ◌≤◌, true, false, leb, length, sym, refl, ◌∙◌, subst, zero-add, rules}
use Rattle.std.proofs.lemmas.Bool.{le-leb, lt-leb}
use Rattle.survey.specs.Survey.{fits, casting_of}
use Rattle.survey.specs.Picture.{picture, filled}
use Rattle.survey.specs.Pens.{Writes}
use Rattle.survey.proofs.Limits.{passes, fails}
use Rattle.survey.proofs.Pictures.{needed_length, writes_picture, picture_written, shows}
use Rattle.survey.proofs.picture.draw.Goals as goal

pub returns-then-buffer-picture_length : goal.returns-then-buffer-picture_length
returns-then-buffer-picture_length g c =
    let m = g.P.Plane.model c.args.plane.now in
    let s = casting_of c.args.survey.now in
    let fit : fits s m ≡ true = sym c.fits.ensures ∙ c.if-not-fits.false in
    let size : c.picture_length.result ≡ length (picture m s.total) = needed_length m s.total _ _ c.picture_length.result c.width-width.ensures c.rows-rows.ensures c.picture_length.ensures in
    let short : leb (length (picture m s.total)) (length c.args.buffer.now) ≡ false = lt-leb _ _ (subst (λ (n : ℕ). length c.args.buffer.now < n) size c.if-buffer-picture_length.true) in
    record {
      refuses = passes _ _ _ _ fit (fails _ _ _ short);
      length = tt;
      after = refl;
      stands = λ a st. tt;
    }

pub returns : goal.returns
returns g c =
    let m = g.P.Plane.model c.args.plane.now in
    let s = casting_of c.args.survey.now in
    let fit : fits s m ≡ true = sym c.fits.ensures ∙ c.if-not-fits.false in
    let size : c.picture_length.result ≡ length (picture m s.total) = needed_length m s.total _ _ c.picture_length.result c.width-width.ensures c.rows-rows.ensures c.picture_length.ensures in
    let room : leb (length (picture m s.total)) (length c.args.buffer.now) ≡ true = le-leb _ _ (subst (λ (n : ℕ). n ≤ length c.args.buffer.now) size c.if-buffer-picture_length.false) in
    let all : Writes _ (picture m s.total) c.put_rows.new.self
    = writes_picture _ c.put_header.new.self c.put_rows.new.self m s.total _ _ c.width-width.ensures c.rows-rows.ensures c.put_header.ensures c.put_rows.ensures in
    let written : c.put_rows.new.self.buffer.now ≡ filled c.args.buffer.now (picture m s.total) = picture_written (picture m s.total) c.args.buffer.now c.put_rows.new.self.buffer.now c.put_rows.new.self.at all.written in
    let same = sym (c.put_rows.ensures.same ∙ c.put_header.ensures.same) in
    record {
      refuses = passes _ _ _ _ fit (passes _ _ _ _ room refl);
      length = all.written.place ∙ zero-add (length (picture m s.total));
      after = search (rules, same) ∙ written;
      stands = λ a st. shows a m (g.P.Plane.sound c.args.plane.now) s st c.args.buffer.now _ (search (rules, same) ∙ written);
    }
