use Rattle.gr_thread_tests.proofs.Numbering.{has_stays}
use Rattle.gr_thread_tests.proofs.member.crowd.step_once.Goals as goal

pub peek_once-seen-requires : goal.peek_once-seen-requires
peek_once-seen-requires g c =
    (has_stays c.args.member.now 8 _ _ c.args.pass.now c.call_once-reply.new.pass c.requires c.call_once-reply.ensures).its

pub returns : goal.returns
returns g c = has_stays c.args.member.now 8 _ _ c.call_once-reply.new.pass c.peek_once-seen.new.pass
    (has_stays c.args.member.now 8 _ _ c.args.pass.now c.call_once-reply.new.pass c.requires c.call_once-reply.ensures)
    c.peek_once-seen.ensures
