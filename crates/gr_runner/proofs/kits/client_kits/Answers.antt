use Rattle.gr_script.specs.Scripts.{heading_of}
use Rattle.gr_runner.proofs.Numbered.{clients_more, clients_none}
use Rattle.gr_runner.proofs.kits.client_kits.Goals as goal

pub loop-k-init : goal.loop-k-init
loop-k-init c =
    clients_none (heading_of c.args.script.now) c.args.script.now.lines c.args.sends.now.inboxes c.args.sends.now.sends.items
    c.in_ok-each.each.items c.new-kits.result.items c.new-kits.ensures.items c.requires.left c.in_ok-each.ensures

pub loop-k-preserved : goal.loop-k-preserved
loop-k-preserved c =
    clients_more (heading_of c.args.script.now) c.args.script.now.lines c.args.sends.now.inboxes c.loop-k.sends.inboxes
    c.client_kit.new.sends.inboxes c.loop-k.sends.sends.items c.client_kit.new.sends.sends.items c.loop-k.each.items
    c.client_kit.new.each.items c.loop-k.k c.loop-k.kits.items c.push.new.self.items c.in_ok-kit.kit c.len-count.result
    c.len-count.ensures c.loop-k-test.true c.loop-k.invariant c.in_ok-kit.ensures.inboxes c.in_ok-kit.ensures.left
    c.in_ok-kit.ensures.steps c.in_ok-kit.ensures.kit c.in_ok-push.ensures.items
