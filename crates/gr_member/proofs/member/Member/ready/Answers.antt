use Rattle.std.proofs.Common.{List, subst}
use Rattle.gr_member.specs.Seats.{Place}
use Rattle.gr_member.specs.Passes.{LooksAll, OneWaitsBy}
use Rattle.gr_member.proofs.Passing.{ready_of, waits_of}
use Rattle.gr_member.proofs.member.Member.ready.Goals as goal

pub returns-clause-ready : goal.returns-clause-ready
returns-clause-ready g c = λ e. ready_of c.args.self.now c.args.pass.now c.ready_each.new.shards.items c.requires
    (subst (λ (p : List Place). LooksAll p c.ready_each.new.shards.items) c.pass.view_is c.ready_each.ensures.looks)
    (c.ready_each.ensures.ready e)

pub returns-clause-waits : goal.returns-clause-waits
returns-clause-waits g c = λ e. waits_of c.args.self.now c.args.pass.now c.ready_each.new.shards.items c.requires
    (subst (λ (p : List Place). LooksAll p c.ready_each.new.shards.items) c.pass.view_is c.ready_each.ensures.looks)
    (subst (λ (p : List Place). OneWaitsBy p c.ready_each.new.shards.items) c.pass.view_is (c.ready_each.ensures.waits e))
