use Rattle.std.proofs.Common.{◌≡◌, take, drop}
use Rattle.gr_script.specs.Rules.{AreWithin}
use Rattle.gr_script.proofs.telling.clients_of.Given as goal

abbrev pub invariant-loop-home : goal.invariant-loop-home
invariant-loop-home l = record {
  same : l.clients ≡ take l.home-index l.homes;
  within : AreWithin 1 8 (drop l.home-index l.homes);
}
