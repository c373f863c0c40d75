-- What was seen before a look is of the history.
use Rattle.std.proofs.Common.{◌≡◌, ℕ, List, length, reverse, sym, ap, ◌∙◌, subst, arith, length-append}
use Rattle.std.proofs.lemmas.List.{length-reverse, reverse-append}
use Rattle.std.specs.Prelude.{Ok}
use mathlib.Core.List.{IsPrefix}
use Rattle.gr_history.specs.declared.deed.Deed.{Deed}
use Rattle.gr_history.specs.Places.{at_place}
use Rattle.gr_history.specs.Standing.{present}
use Rattle.gr_oql.specs.declared.event.Turned.{Turned}
use Rattle.gr_peek.specs.declared.eye.Seen.{Seen}
use Rattle.gr_peek.specs.Entering.{Follows}
use Rattle.gr_peek.specs.Publications.{present_after}
use Rattle.gr_peek.proofs.Prefixes.{prefix_trans}
use Rattle.gr_peek_law.specs.Turns.{turned_each}
use Rattle.gr_peek_law.proofs.Shown.{count, grows, shows}
use Rattle.gr_value.specs.Lists.{StartsWith}
use Rattle.gr_member.specs.Seats.{Place, Peeks, LooksUp}
use Rattle.gr_member.specs.Peeked.{IsPeekOf}

-- what a list of deeds turned begins what the whole turned
turned_first : (all first : List Deed) → StartsWith all first → IsPrefix (turned_each (reverse first)) (turned_each (reverse all))
turned_first all first s = subst (λ (l : List Deed). IsPrefix (turned_each (reverse first)) (turned_each l))
    (sym (ap reverse s.1 ∙ reverse-append first s.0)) (grows (reverse s.0) (reverse first))

-- an eye that knows of a history a beginning, and what it then shows
of_known : (key : List ℕ) (seen : Seen) (known : List (List Turned)) (deeds : List Deed) → IsPrefix known (turned_each (reverse deeds))
    → seen.at ≡ length known → seen.value ≡ present_after known key → IsPeekOf key seen deeds
of_known key seen known deeds p a v = record {
  at = let e = sym (ap length p.1) ∙ length-append known p.0 in
      let f = count (reverse deeds) in
      let g = length-reverse deeds in
      omega arith;
  value = v ∙ shows (reverse deeds) known key p ∙ ap (λ (n : ℕ). present key (at_place n (reverse deeds))) (sym a);
}

pub of_history : (key : List ℕ) (seen : Seen) (r s t u : Place) (history : List Deed) → Peeks key (Ok seen) r s → Follows s.eye t.eye
    → LooksUp t u → StartsWith history u.view.seen → IsPeekOf key seen history
of_history key seen r s t u history p f l h =
    let to_look = prefix_trans s.eye.known t.eye.known u.eye.known f.knew l.looks.stays.watches.knew in
    let in_seen = subst (IsPrefix s.eye.known) l.known to_look in
    of_known key seen s.eye.known history
    (prefix_trans s.eye.known (turned_each (reverse u.view.seen)) (turned_each (reverse history)) in_seen
    (turned_first history u.view.seen h))
    p.at p.value
