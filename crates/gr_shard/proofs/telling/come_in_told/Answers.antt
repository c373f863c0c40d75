use Rattle.std.proofs.Common.{◌∙◌, ap, option_copied}
use Rattle.gr_cq.specs.Entries.{noted}
use Rattle.gr_shard.specs.Telling.{turned_by_change}
use Rattle.gr_shard.proofs.Turning.{is_ready, told_noted}
use Rattle.gr_shard.proofs.telling.come_in_told.Goals as goal

pub tell-requires : goal.tell-requires
tell-requires c =
    is_ready (turned_by_change c.args.slots.now.entries (option_copied c.args.came)) c.foresee_change.new.queries c.in_ok-foreseen.foreseen
    c.in_ok-foreseen.ensures.foreseen

pub returns-clause-told : goal.returns-clause-told
returns-clause-told c =
    let turned = turned_by_change c.args.slots.now.entries (option_copied c.args.came) in
    c.tell.ensures
    ∙ told_noted turned c.foresee_change.new.queries c.in_ok-foreseen.foreseen c.in_ok-foreseen.ensures.foreseen
    ∙ ap (noted turned) c.in_ok-foreseen.ensures.entries
