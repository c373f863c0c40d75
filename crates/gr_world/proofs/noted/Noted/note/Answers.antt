use Rattle.std.proofs.Common.{◌∙◌, ap, sym, subst, ◌==◌, ◌<◌, Some, None, get_or, length, if◌then◌else◌}
use Rattle.gr_world.proofs.Kept.{get_set}
use Rattle.gr_world.proofs.noted.Noted.note.Goals as goal

pub returns : goal.returns
returns c =
    let places = c.self.inside.places.items in
    let number = c.args.number in
    let place = c.args.place in
    let within = subst (λ kept. number < length kept) (sym c.self.view_is) c.in_ok-lengthen.ensures.long in
    λ own. get_set places number place c.requires within own
    ∙ ap (λ found. if number == own then Some place else found)
    (ap (λ kept. get_or kept own None) c.self.view_is ∙ c.in_ok-lengthen.ensures.same own)
