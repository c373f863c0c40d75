use Rattle.std.proofs.Common.{arith}
use Rattle.gr_post.specs.Plan.{first_number}
use Rattle.gr_runner.proofs.Numbered.{are_unused, gives_last, some_each}
use Rattle.gr_runner.proofs.kits.last_courier.Goals as goal

pub last_sender-requires : goal.last_sender-requires
last_sender-requires c = some_each c.args.sends.now.inboxes c.args.sends.now.sends.items c.requires.left

pub new-requires-clause-members : goal.new-requires-clause-members
new-requires-clause-members c =
    let many = (c.in_ok-passes.ensures.own c.args.sends.now.inboxes c.requires.left.0 c.requires.left.1).1.many in
    let few = c.requires.few in
    omega (arith, many, few)

pub new-requires-clause-unused : goal.new-requires-clause-unused
new-requires-clause-unused c =
    are_unused c.args.sends.now.inboxes c.requires.left.0 c.in_ok-passes.passes
    (c.in_ok-passes.ensures.own c.args.sends.now.inboxes c.requires.left.0 c.requires.left.1).1

pub returns-clause-courier : goal.returns-clause-courier
returns-clause-courier c =
    gives_last c.args.sends.now.inboxes (first_number c.args.script.now.trouble c.args.number) c.args.sends.now.sends.items
    c.last_sender.new.self.sends.items c.in_ok-passes.passes c.in_ok-new.field-0 c.in_ok-passes.ensures.own c.in_ok-new.ensures
