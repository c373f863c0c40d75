use Rattle.std.specs.Prelude.{◌≤◌, ◌+◌, vec_len}
use Rattle.std.specs.List.{AllByRecursion}
use Rattle.std.specs.Vec.{vec_capacity}
use Rattle.gr_runner.specs.Gathering.{IsLeftAt}
use Rattle.gr_host.specs.Houses.{ArePassesOf}
use Rattle.gr_runner.proofs.Gathered.{IsGathered}
use Rattle.gr_runner.proofs.gathering.gather.Given as goal

abbrev pub invariant-loop-left : goal.invariant-loop-left
invariant-loop-left l = record {
  desks : ArePassesOf l.fn.members l.desks;
  its : AllByRecursion (IsLeftAt l.fn.members) l.rest.items;
  gathered : IsGathered l.fn.desks l.fn.lefts.items l.rest.items l.desks l.news.items l.well;
  room : vec_len l.news + vec_len l.rest ≤ vec_capacity l.news;
}

abbrev pub decreases-loop-left : goal.decreases-loop-left
decreases-loop-left l = vec_len l.rest
