use Rattle.std.proofs.Common.{codes, string_bytes, ap}
use Rattle.std.proofs.lemmas.Result.{on_ok_weaker}
use Rattle.gr_picture.specs.Elements.{worded}
use Rattle.gr_picture.specs.Styles.{style_attributes}
use Rattle.gr_picture.proofs.Putting.{styled}
use Rattle.gr_picture.proofs.style.put_style.Goals as goal

pub returns-in-Bold : goal.returns-in-Bold
returns-in-Bold c = on_ok_weaker c.attribute.result
    (styled (string_bytes c.args.out.now) (string_bytes c.attribute.new.out) c.args.style
    (worded (codes "font-weight") (codes "bold")) (ap style_attributes c.in-Bold.is)) c.attribute.ensures

pub returns-in-Middle : goal.returns-in-Middle
returns-in-Middle c = on_ok_weaker c.attribute-in-Middle.result
    (styled (string_bytes c.args.out.now) (string_bytes c.attribute-in-Middle.new.out) c.args.style
    (worded (codes "text-anchor") (codes "middle")) (ap style_attributes c.in-Middle.is)) c.attribute-in-Middle.ensures

pub returns-in-AtEnd : goal.returns-in-AtEnd
returns-in-AtEnd c = on_ok_weaker c.attribute-in-AtEnd.result
    (styled (string_bytes c.args.out.now) (string_bytes c.attribute-in-AtEnd.new.out) c.args.style
    (worded (codes "text-anchor") (codes "end")) (ap style_attributes c.in-AtEnd.is)) c.attribute-in-AtEnd.ensures
