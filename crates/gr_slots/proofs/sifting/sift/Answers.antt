use Rattle.std.proofs.Common.{rules}
use Rattle.std.proofs.lemmas.Fn.{filter_same}
use Rattle.std.proofs.lemmas.List.Filters.{dedup_is}
use Rattle.gr_slots.specs.Slots.{slot_at}
use Rattle.gr_slots.specs.Removals.{is_removed_at}
use Rattle.gr_slots.proofs.Sifted.{sifted_listed, sifted_once}
use Rattle.gr_slots.proofs.sifting.sift.Goals as goal

pub returns-clause-standing : goal.returns-clause-standing
returns-clause-standing c =
    sifted_listed (λ key. is_removed_at c.args.at (slot_at key c.args.cells.now)) c.args.keys.now.items c.retain.new.self.items
    c.sort_unstable.new.self.items c.dedup.new.self.items
    (filter_same _ _ _ (λ x b f' k. search rules) _ _ c.retain.ensures.filtered)
    c.sort_unstable.ensures.permutation (dedup_is _ _ _ c.dedup.ensures.filtered)

pub returns-clause-once : goal.returns-clause-once
returns-clause-once c =
    sifted_once c.sort_unstable.new.self.items c.dedup.new.self.items c.sort_unstable.ensures.sorted
    (dedup_is _ _ _ c.dedup.ensures.filtered)
