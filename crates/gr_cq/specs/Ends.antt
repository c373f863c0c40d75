-- What the calls refuse, and what they answer.
use Rattle.std.specs.Prelude.{◌≡◌, List, [], Option, Some, None, Result, Ok, Err, IfErr, if◌then◌else◌}
use Rattle.gr_oql.specs.declared.event.Event.{Event}
use Rattle.gr_cq.specs.declared.query_end.QueryEnd.{QueryEnd}
use Rattle.gr_cq.specs.declared.query_end.QueryEnd.TheVariants.{Unknown, Taken, NotRunning, Memory}
use Rattle.gr_cq.specs.Entries.{Kept}

-- by the query of that client and name
abbrev pub enrol_end : Option Kept → Option QueryEnd
enrol_end None = None
enrol_end (Some kept) = Some Taken

abbrev pub stop_end : Option Kept → Option QueryEnd
stop_end None = Some Unknown
stop_end (Some kept) = if kept.runs then None else Some NotRunning

abbrev pub known_end : Option Kept → Option QueryEnd
known_end None = Some Unknown
known_end (Some kept) = None

-- the answer of a call that takes no memory
abbrev pub ended : Option QueryEnd → Result (Unit {0}) QueryEnd
ended None = Ok tt
ended (Some end) = Err end

-- A refusal is answered, and where there is none nothing but want of memory is.
abbrev pub EndsBy : {A : Type 0} → Option QueryEnd → Result A QueryEnd → Type 0
EndsBy None result = IfErr result (λ end. end ≡ Memory)
EndsBy (Some end) result = result ≡ Err end

-- the events that wait
abbrev pub waiting_of : Option Kept → List Event
waiting_of None = []
waiting_of (Some kept) = kept.waiting
