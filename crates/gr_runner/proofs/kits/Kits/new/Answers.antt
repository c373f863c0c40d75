use Rattle.gr_script.specs.Scripts.{heading_of}
use Rattle.gr_runner.proofs.Numbered.{kits_are}
use Rattle.gr_runner.proofs.kits.Kits.new.Goals as goal

pub returns-clause-kits : goal.returns-clause-kits
returns-clause-kits c =
    kits_are (heading_of c.args.script.now) c.args.script.now.lines c.args.sends.now.inboxes c.member_kits.new.sends.inboxes
    c.client_kits.new.sends.inboxes _ c.in_ok-members.ensures.inboxes c.in_ok-clients.ensures.inboxes c.in_ok-clients.ensures.many
    c.in_ok-members.ensures.many c.in_ok-clients.ensures.kits c.in_ok-members.ensures.kits
