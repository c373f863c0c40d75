use Rattle.std.proofs.Common.{◌-◌, refl}
use Rattle.gr_script.specs.Scripts.{heading_of}
use Rattle.gr_script.specs.Steps.{joins_of}
use Rattle.gr_runner.proofs.Numbered.{is_client, one_less}
use Rattle.gr_runner.proofs.StepsSorted.{last_client}
use Rattle.gr_runner.proofs.kits.client_kit.Goals as goal

pub last_courier-requires-clause-left : goal.last_courier-requires-clause-left
last_courier-requires-clause-left c =
    (c.args.client - 1, one_less c.args.sends.now.inboxes c.args.client c.args.sends.now.sends.items c.requires.client.0 c.requires.left)

pub returns-clause-left : goal.returns-clause-left
returns-clause-left c =
    (c.in_ok-courier.ensures.courier (c.args.client - 1)
    (one_less c.args.sends.now.inboxes c.args.client c.args.sends.now.sends.items c.requires.client.0 c.requires.left)).0

pub returns-clause-kit : goal.returns-clause-kit
returns-clause-kit c =
    is_client (heading_of c.args.script.now) c.args.script.now.lines c.args.sends.now.inboxes c.args.client c.home_of-home.result
    (joins_of c.home_of-home.result c.args.script.now.lines) _ refl c.plan_of.ensures.plan c.home_of-home.ensures.home c.joins.ensures refl
    (last_client c.args.script.now.lines c.args.client c.args.each.now.items c.pop.new.self.items c.in-Some.steps c.requires.client.0
    c.requires.steps c.in-Some.ensures.items).1
    (c.in_ok-courier.ensures.courier (c.args.client - 1)
    (one_less c.args.sends.now.inboxes c.args.client c.args.sends.now.sends.items c.requires.client.0 c.requires.left)).1

pub returns-clause-steps : goal.returns-clause-steps
returns-clause-steps c =
    (last_client c.args.script.now.lines c.args.client c.args.each.now.items c.pop.new.self.items c.in-Some.steps c.requires.client.0
    c.requires.steps c.in-Some.ensures.items).0
