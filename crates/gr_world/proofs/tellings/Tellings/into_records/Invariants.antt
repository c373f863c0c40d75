use Rattle.std.proofs.Common.{◌≡◌, length}
use Rattle.gr_world.specs.Numbered.{PairsFrom}
use Rattle.gr_world.specs.Worlds.{IsClientOf}
use Rattle.gr_world.proofs.tellings.Tellings.into_records.Given as goal

abbrev pub invariant-loop-answers : goal.invariant-loop-answers
invariant-loop-answers l = PairsFrom (IsClientOf l.fn.members) 1 l.yielded l.clients × (l.place ≡ length l.yielded)
