use Rattle.gr_picture.proofs.Putting.{content_kept}
use Rattle.gr_picture.proofs.pen.Pen.rectangle.Goals as goal

pub invariant_of-self : goal.invariant_of-self
invariant_of-self c =
    let torn = c.is_torn-self-inside.ensures in
    λ whole. content_kept _ _ c.put_rectangle-put.result _ c.self.invariant c.put_rectangle-put.ensures (torn.whole whole) (torn.put whole)
