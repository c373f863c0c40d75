use Rattle.gr_picture.proofs.Putting.{content_kept}
use Rattle.gr_picture.proofs.pen.Pen.text.Goals as goal

pub invariant_of-self : goal.invariant_of-self
invariant_of-self c =
    let torn = c.is_torn-self-inside.ensures in
    λ whole. content_kept _ _ c.put_text-put.result _ c.self.invariant c.put_text-put.ensures (torn.whole whole) (torn.put whole)
