use Rattle.std.proofs.Common.{◌+◌, ◌∙◌, ap, length, ℕ}
use Rattle.gr_post.specs.Plan.{first_number}
use Rattle.gr_script.specs.Scripts.{heading_of}
use Rattle.gr_run_law.specs.Plans.{courier_of}
use Rattle.gr_run_law.specs.Threads.{member_place}
use Rattle.gr_runner.proofs.Numbered.{is_member, member_less, takes_member}
use Rattle.gr_runner.proofs.kits.member_kit.Goals as goal

pub last_courier-requires-clause-left : goal.last_courier-requires-clause-left
last_courier-requires-clause-left c = (
  member_place (heading_of c.args.script.now) c.args.member,
  member_less (heading_of c.args.script.now) c.args.sends.now.inboxes c.args.member c.args.sends.now.sends.items
      c.args.sends.now.takes.items c.requires.member.0 c.requires.left,
)

pub returns-clause-left : goal.returns-clause-left
returns-clause-left c =
    (takes_member (heading_of c.args.script.now) c.args.sends.now.inboxes c.args.member
    (first_number c.args.script.now.trouble (courier_of c.args.member)) c.args.sends.now.sends.items c.last_courier.new.sends.sends.items
    c.args.sends.now.takes.items c.last_courier.new.sends.takes.items c.pop.new.self.items c.in_ok-courier.courier c.in-Some.take
    c.requires.member.0 c.requires.left c.in_ok-courier.ensures.courier (ap (λ t. t.items) c.in_ok-courier.ensures.takes)
    c.in-Some.ensures.items).left

pub returns-clause-kit : goal.returns-clause-kit
returns-clause-kit c =
    is_member (heading_of c.args.script.now) c.args.script.now.lines c.args.sends.now.inboxes c.args.member
    (c.len.result + c.from.result) c.in-Some.take c.in_ok-courier.courier c.last_courier.new.sends.sends.items c.pop.new.self.items _
    c.plan_of.ensures.plan c.in_ok-duties_of.ensures c.take.view_is c.courier.view_is
    (takes_member (heading_of c.args.script.now) c.args.sends.now.inboxes c.args.member
    (first_number c.args.script.now.trouble (courier_of c.args.member)) c.args.sends.now.sends.items c.last_courier.new.sends.sends.items
    c.args.sends.now.takes.items c.last_courier.new.sends.takes.items c.pop.new.self.items c.in_ok-courier.courier c.in-Some.take
    c.requires.member.0 c.requires.left c.in_ok-courier.ensures.courier (ap (λ t. t.items) c.in_ok-courier.ensures.takes)
    c.in-Some.ensures.items)
    c.in_ok-new.ensures
    (ap (λ (n : ℕ). n + c.from.result) c.len.ensures ∙ ap (λ (n : ℕ). length c.args.script.now.clients + n) c.from.ensures)
