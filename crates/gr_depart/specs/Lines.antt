-- What a world can do of a line, departures too, and what several lines do one behind the other.
use Rattle.std.specs.Prelude.{ℕ, List, [], ◌∷◌}
use Rattle.std.specs.List.{cons_option}
use Rattle.gr_script.specs.declared.line.Line.{Line}
use Rattle.gr_script.specs.declared.line.Line.TheVariants.{Depart}
use Rattle.gr_script.specs.Rules.{Heading, IsMember}
use Rattle.gr_script.specs.Steps.{departs}
use Rattle.gr_world.specs.Courses.{after}
use Rattle.gr_world.specs.Events.{Event}
use Rattle.gr_world.specs.Worlds.{CanPlay}

abbrev pub CanDo : Heading → Line → Type 0
CanDo heading (Depart member) = IsMember heading member
CanDo heading line = CanPlay heading line

-- the members that departed, once these lines were done too
abbrev pub gone_after : List Line → List ℕ → List ℕ
gone_after [] gone = gone
gone_after (line ∷ lines) gone = gone_after lines (cons_option (departs line) gone)

-- what these lines do, in their order
abbrev pub after_all : Heading → List ℕ → List Line → List Event → List Event
after_all heading gone [] before = before
after_all heading gone (line ∷ lines) before = after_all heading (cons_option (departs line) gone) lines (after heading gone line before)
