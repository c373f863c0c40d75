use Rattle.std.specs.Prelude.{◌≡◌, ◌+◌, ◌≤◌, length}
use Rattle.std.specs.List.{AllByRecursion}
use Rattle.std.specs.Vec.{vec_capacity}
use Rattle.gr_script.specs.Scripts.{heading_of}
use Rattle.gr_runner.specs.Dealing.{AreDealtTo, AreMemberSlots, AreToCome, IsRoom}
use Rattle.gr_runner.proofs.dealing.deal_members.Given as goal

abbrev pub invariant-loop-kit : goal.invariant-loop-kit
invariant-loop-kit l = record {
  rooms : length l.rooms.items + length l.yielded ≡ l.script.members;
  empty : AllByRecursion (IsRoom l.script.members) l.rooms.items;
  held : l.script.members + length l.script.clients ≤ vec_capacity l.slots;
  come : AreToCome (heading_of l.script) (length l.yielded) l.passes.items;
  slots : AreMemberSlots (heading_of l.script) l.yielded l.slots.items;
  dealt : AreDealtTo l.fn.passes.items l.slots.items l.passes.items;
}
