use Rattle.std.proofs.Common.{◌≡◌, ◌*◌, ◌≤◌, ◌^◌, take, length}
use Rattle.gr_ask.specs.Told.{events_among}
use Rattle.gr_ask.proofs.told.number_told.Given as goal

abbrev pub invariant-loop-told : goal.invariant-loop-told
invariant-loop-told l = record {
  counted : l.total ≡ length (events_among l.seq (take l.told-index l.shards));
  most : l.total ≤ l.told-index * 2 ^ 64;
}
