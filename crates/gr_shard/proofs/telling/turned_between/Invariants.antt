use Rattle.std.proofs.Common.{◌≡◌, map, filter}
use Rattle.std.specs.Map.Iter.{deref}
use Rattle.gr_slots.specs.Slots.{slot_at}
use Rattle.gr_shard.specs.Telling.{is_other_slot, turned_slot}
use Rattle.gr_shard.proofs.telling.turned_between.Given as goal

abbrev pub invariant-loop-key : goal.invariant-loop-key
invariant-loop-key l =
    l.turned.items ≡ map (turned_slot l.old.entries l.new.entries) (filter (λ key. is_other_slot (slot_at key l.old.entries) (slot_at key l.new.entries))
    (map deref l.yielded))
