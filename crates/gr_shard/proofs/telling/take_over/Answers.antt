use Rattle.std.proofs.Common.{◌∙◌, ap}
use Rattle.gr_cq.specs.Entries.{noted}
use Rattle.gr_shard.specs.Telling.{turned_between}
use Rattle.gr_shard.proofs.Turning.{is_ready, told_noted}
use Rattle.gr_shard.proofs.telling.take_over.Goals as goal

pub tell-requires : goal.tell-requires
tell-requires c =
    is_ready (turned_between c.args.slots.now.entries c.args.new.entries) c.foresee_slots.new.queries c.in_ok-foreseen.foreseen
    c.in_ok-foreseen.ensures.foreseen

pub returns-clause-told : goal.returns-clause-told
returns-clause-told c =
    let turned = turned_between c.args.slots.now.entries c.args.new.entries in
    c.tell.ensures
    ∙ told_noted turned c.foresee_slots.new.queries c.in_ok-foreseen.foreseen c.in_ok-foreseen.ensures.foreseen
    ∙ ap (noted turned) c.in_ok-foreseen.ensures.entries
