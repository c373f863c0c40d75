-- What a loop over the rows of slots has yielded in the end.
use Rattle.std.proofs.Common.{◌≡◌, ◌∙◌, ap, sym, List, Option, None, map, length, rules}
use Rattle.std.specs.Vec.{vec_len}
use Rattle.std.specs.declared.vec.Vec.{Vec}
use Rattle.std.specs.Vec.Iter.{into_iter_items, into_iter_len, into_iter_steps}
use Rattle.std.specs.Iterator.{Yields}
use Rattle.std.specs.declared.vec.IntoIter.{IntoIter}
use Rattle.std.proofs.lemmas.Iterator.Adapters.{YieldsList-from_vec}
use Rattle.std.proofs.lemmas.Iterator.Consumers.{YieldsList-end}
use Rattle.std.proofs.lemmas.List.{map-id}

pub all_yielded : {A B Z : Type 0} (f : A → B) (items : Vec A Z) (xs : List A) (s t u : IntoIter A Z) (r : Option A)
    → into_iter_items s ≡ items.items → into_iter_len s ≡ vec_len items → Yields into_iter_steps s xs t → r ≡ None
    → into_iter_steps t r u → map f xs ≡ map f items.items
all_yielded f items xs s t u r are counted yields none steps =
    let long : vec_len items ≡ length items.items = search rules in
    ap (map f) (sym (map-id xs)
    ∙ (YieldsList-end (YieldsList-from_vec items.items are (counted ∙ long)) xs t yields r u none steps).0)
