use Rattle.std.proofs.Common.{◌≡◌, ◌≤◌}
use Rattle.gr_stable.specs.Heard.{is_stable_by, is_stable_now}
use Rattle.gr_stable.proofs.heard.Heard.stable.Given as goal

abbrev pub invariant-loop-member : goal.invariant-loop-member
invariant-loop-member l = record {
  most : l.member ≤ 8;
  so_far : is_stable_by l.me l.founders l.given l.member (record { member = l.tombstone.member; rv = l.tombstone.rv }) l.self
      l.vector.ids
      ≡ is_stable_now l.me l.founders l.given (record { member = l.tombstone.member; rv = l.tombstone.rv }) l.self l.vector.ids;
}

abbrev pub decreases-loop-member : goal.decreases-loop-member
decreases-loop-member l = l.member
