-- The keys that a deed turns, and what a query is told of deeds.
use Rattle.std.specs.Prelude.{ℕ, List, [], ◌∷◌, ◌++◌, Bool, true, false, not, nat_le, Option, Some, None, length, map, filter}
use Rattle.std.specs.Prelude.{option_and_then, if◌then◌else◌}
use Rattle.gr_value.specs.declared.value.Field.{Field}
use Rattle.gr_stamp.specs.declared.change.Change.{Change}
use Rattle.gr_stamp.specs.Winner.{put_value, is_there}
use Rattle.gr_oql.specs.declared.event.Event.{Event}
use Rattle.gr_oql.specs.declared.event.Turned.{Turned}
use Rattle.gr_oql.specs.Question.{Question}
use Rattle.gr_oql.specs.Events.{told_all}
use Rattle.gr_history.specs.declared.deed.Deed.{Deed}
use Rattle.gr_history.specs.Clock.{is_same_stamp}
use Rattle.gr_history.specs.Places.{at_place}
use Rattle.gr_history.specs.Regions.{keys_of}
use Rattle.gr_history.specs.Standing.{changes, standing}

-- whether another change stands than before, told by its stamp
abbrev pub is_other : Option Change → Option Change → Bool
is_other None None = false
is_other None (Some new) = true
is_other (Some old) None = true
is_other (Some old) (Some new) = not (is_same_stamp old.stamp new.stamp)

-- A deed turns a key where another change stands at it than before.
abbrev pub turns : Deed → List Deed → List ℕ → Bool
turns deed past key = is_other (standing key past) (standing key (deed ∷ past))

-- the keys that a deed turns, in order
abbrev pub turned_keys : Deed → List Deed → List (List ℕ)
turned_keys deed past = filter (turns deed past) (keys_of (changes (deed ∷ past)))

-- the value of what stands, where that is a put
abbrev pub value_of : Option Change → Option (List Field)
value_of stands = option_and_then (λ change. put_value change.kind) stands

abbrev pub turned_by : List ℕ → Option Change → Option Change → Turned
turned_by key before behind = record {
  key = key;
  old = value_of before;
  new = value_of behind;
  had = is_there before;
  has = is_there behind;
}

abbrev pub turned_at : Deed → List Deed → List ℕ → Turned
turned_at deed past key = turned_by key (standing key past) (standing key (deed ∷ past))

-- the keys that a deed turns, with their values before and behind it, and whether they were and are there
abbrev pub turned : Deed → List Deed → List Turned
turned deed past = map (turned_at deed past) (turned_keys deed past)

-- what a query is told of a deed
abbrev pub events_at : Question → Deed → List Deed → List Event
events_at question deed past = told_all question (turned deed past)

-- the events of the deeds from a place on
abbrev pub events_from : Question → ℕ → List Deed → List Event
events_from question place [] = []
events_from question place (deed ∷ past) =
    if nat_le place (length past) then events_from question place past ++ events_at question deed past else []

-- the events of the deeds from one place up to another, the oldest first
abbrev pub events : Question → List Deed → ℕ → ℕ → List Event
events question history from upto = events_from question from (at_place upto history)
