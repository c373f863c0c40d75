use Rattle.std.proofs.lemmas.List.{map-append}
use Rattle.gr_top.proofs.Wording.{words_more, words_all}
use Rattle.gr_top.proofs.arguments.given_words.Goals as goal

pub returns-in-None : goal.returns-in-None
returns-in-None g c = words_all _ c.loop-place.place _ c.loop-place.invariant (rw c.in-None.is at c.in_ok-word.ensures)

pub loop-place-preserved : goal.loop-place-preserved
loop-place-preserved g c =
    let items = c.in_ok-push-in-Some.ensures.items in
    let at = rw c.in-Some.is at c.in_ok-word.ensures in
    rw (items, map-append) (words_more _ c.loop-place.place _ _ c.loop-place.invariant at)
