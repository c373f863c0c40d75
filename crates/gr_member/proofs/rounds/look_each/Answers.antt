use Rattle.std.proofs.Common.{◌<◌, length, arith}
use Rattle.gr_member.proofs.Going.{up_none, up_more, up_all}
use Rattle.gr_member.proofs.Passing.{look_up_stays}
use Rattle.gr_member.proofs.rounds.look_each.Goals as goal

pub loop-k-init : goal.loop-k-init
loop-k-init g c = up_none c.args.shards.now.items

pub loop-k-preserved : goal.loop-k-preserved
loop-k-preserved g c =
    let below : c.loop-k.k < length c.args.shards.now.items =
    omega (arith, c.args.shards.now.ok, c.len-k-end.ensures, c.loop-k-test.true) in
    up_more c.args.shards.now.items c.loop-k.shards.items c.loop-k.k c.index_mut.result.now c.look.new.self below c.loop-k.invariant
    c.index_mut.ensures.value c.look.ensures

pub returns-clause-looks : goal.returns-clause-looks
returns-clause-looks g c =
    up_all c.args.shards.now.items c.loop-k.shards.items c.loop-k.k c.loop-k.invariant
    (omega (arith, c.args.shards.now.ok, c.len-k-end.ensures, c.loop-k-test.false, c.loop-k.auto.k-end))

pub returns-clause-stays : goal.returns-clause-stays
returns-clause-stays g c =
    look_up_stays c.args.shards.now.items c.loop-k.shards.items
    (up_all c.args.shards.now.items c.loop-k.shards.items c.loop-k.k c.loop-k.invariant
    (omega (arith, c.args.shards.now.ok, c.len-k-end.ensures, c.loop-k-test.false, c.loop-k.auto.k-end)))
