-- What a script has of what is wanted of a member.
use Rattle.std.specs.Prelude.{◌≡◌, ◌≢◌, ℕ, ◌≤◌, ◌<◌}
use Rattle.gr_ask.specs.declared.wanted.Wanted.{Wanted}
use Rattle.gr_ask.specs.declared.wanted.Wanted.TheVariants.{Rows, Events}
use Rattle.gr_script.specs.Rules.{Heading}
use Rattle.gr_top.specs.declared.cause.Cause.{Cause}
use Rattle.gr_top.specs.declared.cause.Cause.TheVariants.{NoMember, OtherRegion}

-- a query asks the region of the script
abbrev pub IsOwn : Wanted → Heading → Type 0
IsOwn (Rows question) heading = question.asked.region ≡ heading.region
IsOwn Events heading = Unit {0}

-- it asks another
abbrev pub IsElsewhere : Wanted → Heading → Type 0
IsElsewhere (Rows question) heading = question.asked.region ≢ heading.region
IsElsewhere Events heading = ⊥

-- The script has the member, and a query's region.
abbrev pub HasWanted : ℕ → Wanted → Heading → Type 0
HasWanted member wanted heading = (member ≤ heading.members) × IsOwn wanted heading

-- It lacks the member; or it has that, and not the region.
abbrev pub LacksWanted : ℕ → Wanted → Heading → Cause → Type 0
LacksWanted member wanted heading (NoMember named) = (named ≡ member) × (heading.members < member)
LacksWanted member wanted heading OtherRegion = (member ≤ heading.members) × IsElsewhere wanted heading
LacksWanted member wanted heading _ = ⊥
