use Rattle.std.proofs.Common.{refl, arith}
use Rattle.gr_script.specs.Scripts.{heading_of}
use Rattle.gr_runner.proofs.AllDealt.{all_dealt, counted_come}
use Rattle.gr_runner.proofs.NewPasses.{are_dealt, homes_of}
use Rattle.gr_runner.proofs.dealing.deal.Goals as goal

pub deal_members-slots-requires-clause-come : goal.deal_members-slots-requires-clause-come
deal_members-slots-requires-clause-come c =
    counted_come (heading_of c.args.script.now) c.args.passes.items c.take_each-desks.new.passes.items c.take_each-desks.result.items
    c.requires.passes c.take_each-desks.ensures

pub returns-clause-all : goal.returns-clause-all
returns-clause-all c =
    all_dealt (heading_of c.args.script.now) c.args.passes.items c.take_each-desks.new.passes.items c.deal_members-slots.new.passes.items
    c.deal_clients-slots.new.passes.items c.take_each-desks.result.items c.args.clients.items c.args.members.items
    c.deal_members-slots.result.items c.deal_clients-slots.result.items _ c.requires.passes c.take_each-desks.ensures
    c.deal_members-slots.ensures.slots c.deal_members-slots.ensures.dealt c.deal_clients-slots.ensures.added
    c.deal_clients-slots.ensures.none refl refl c.requires.rooms.lefts

pub returns-clause-new : goal.returns-clause-new
returns-clause-new c = λ houses made.
    are_dealt (heading_of c.args.script.now) houses c.args.passes.items c.args.clients.items c.args.members.items _ made
    (returns-clause-all c)

pub returns-clause-homes : goal.returns-clause-homes
returns-clause-homes c =
    let ok = c.args.members.ok in
    let many = c.requires.members in
    homes_of (heading_of c.args.script.now) c.args.passes.items c.args.clients.items c.args.members.items _ (returns-clause-all c)
    c.requires.clients (omega (arith, ok, many)) c.args.script.now.ruled.heading.at_members
