-- A query that a change isn't routed to is told nothing of it.
use Rattle.std.proofs.Common.{◌≡◌, ◌∙◌, ap, sym, refl, List, [], ◌∷◌, Bool, true, false, if◌then◌else◌}
use Rattle.std.specs.Prelude.{ℕ, filter, option_map}
use Rattle.std.specs.List.{cons_option}
use Rattle.gr_oql.specs.declared.event.Event.{Event}
use Rattle.gr_oql.specs.declared.event.Turned.{Turned}
use Rattle.gr_cq.proofs.Untold.{untold}
use Rattle.gr_route.specs.declared.enrolled.Enrolled.{Enrolled}
use Rattle.gr_route.specs.Routes.{is_reached, event_for, events_for}

pub routed : (turned : Turned) (enrolled : List Enrolled) → events_for turned (filter (is_reached turned) enrolled) ≡ events_for turned enrolled
routed turned [] = refl
routed turned (one ∷ rest) = at_reach (is_reached turned one) refl (routed turned rest)
  where
    reached : List Enrolled
    reached = filter (is_reached turned) rest

    numbered : Event → ℕ × Event
    numbered event = (one.number, event)

    at_reach : (b : Bool) → is_reached turned one ≡ b → events_for turned reached ≡ events_for turned rest
        → events_for turned (if b then one ∷ reached else reached) ≡ events_for turned (one ∷ rest)
    at_reach true e same = ap (cons_option (event_for turned one)) same
    at_reach false e same =
        same ∙ sym (ap (λ found. cons_option (option_map numbered found) (events_for turned rest)) (untold one.query turned e))
