use Rattle.std.specs.Prelude.{◌≡◌, ◌+◌, ◌++◌, ◌≤◌, length, vec_len}
use Rattle.std.specs.Vec.{vec_capacity}
use Rattle.gr_script.specs.Scripts.{heading_of}
use Rattle.gr_runner.specs.Dealing.{AddsClients, AreForClients}
use Rattle.gr_runner.proofs.dealing.deal_clients.Given as goal

abbrev pub invariant-loop-kit : goal.invariant-loop-kit
invariant-loop-kit l = record {
  kits : l.fn.kits.items ≡ l.yielded ++ l.kit-iterator.rest.items;
  held : vec_len l.fn.front + length l.script.clients ≤ vec_capacity l.slots;
  come : AreForClients (heading_of l.script) (length l.yielded) l.passes.items;
  added : AddsClients l.fn.passes.items l.yielded l.fn.front.items l.slots.items l.passes.items;
}
