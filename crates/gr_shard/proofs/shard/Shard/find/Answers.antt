use Rattle.std.proofs.Common.{◌∙◌, ap, reverse, option_and_then}
use Rattle.gr_stamp.specs.Winner.{put_value}
use Rattle.gr_history.specs.Clock.{since}
use Rattle.gr_history.specs.Standing.{standing}
use Rattle.gr_shard.specs.Entries.{slot_ver}
use Rattle.gr_shard.specs.Telling.{slot_there}
use Rattle.gr_shard.proofs.Made.{slot_ver-slot_of, there-slot_of, value-slot_of}
use Rattle.gr_shard.proofs.shard.Shard.find.Goals as goal

pub returns-clause-slot : goal.returns-clause-slot
returns-clause-slot c = rw (← c.self.view_is) (c.find.ensures ∙ c.self.invariant.0.stands c.args.key.now)

pub returns-clause-ver : goal.returns-clause-ver
returns-clause-ver c =
    let past = reverse c.self.inside.history.deeds in
    rw (← c.self.view_is) (ap slot_ver (c.find.ensures ∙ c.self.invariant.0.stands c.args.key.now)
    ∙ slot_ver-slot_of (standing c.args.key.now past) (since c.args.key.now past))

pub returns-clause-there : goal.returns-clause-there
returns-clause-there c =
    let past = reverse c.self.inside.history.deeds in
    rw (← c.self.view_is) (ap slot_there (c.find.ensures ∙ c.self.invariant.0.stands c.args.key.now)
    ∙ there-slot_of (standing c.args.key.now past) (since c.args.key.now past))

pub returns-clause-value : goal.returns-clause-value
returns-clause-value c =
    let past = reverse c.self.inside.history.deeds in
    rw (← c.self.view_is) (ap (option_and_then (λ s. put_value s.kind)) (c.find.ensures ∙ c.self.invariant.0.stands c.args.key.now)
    ∙ value-slot_of (standing c.args.key.now past) (since c.args.key.now past))
