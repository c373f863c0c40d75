use Rattle.std.proofs.Common.{◌≡◌, length, arith}
use Rattle.gr_runner.proofs.Posting.{popped_all}
use Rattle.gr_runner.proofs.mailing.Mailing.last_sender.Goals as goal

pub returns-clause-own : goal.returns-clause-own
returns-clause-own c =
    let all : c.loop-k.k ≡ length c.args.self.now.sends.items =
    omega (arith, c.loop-k-test.false, c.loop-k.auto.k-end, c.len-k-end.ensures, c.args.self.now.sends.ok) in
    λ rings left h.
    popped_all rings left c.args.self.now.sends.items c.loop-k.self.sends.items c.loop-k.own c.loop-k.k c.loop-k.invariant.popped all h
