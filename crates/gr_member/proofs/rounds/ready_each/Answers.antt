use Rattle.std.proofs.Common.{◌<◌, length, arith}
use Rattle.gr_member.proofs.Going.{looked_none, looked_more, looked_looks, looked_waits, looked_all, looked_each}
use Rattle.gr_member.proofs.rounds.ready_each.Goals as goal

pub loop-k-init : goal.loop-k-init
loop-k-init g c = looked_none c.args.shards.now.items

pub loop-k-preserved : goal.loop-k-preserved
loop-k-preserved g c =
    let below : c.loop-k.k < length c.args.shards.now.items =
    omega (arith, c.args.shards.now.ok, c.len-k-end.ensures, c.loop-k-test.true) in
    looked_more c.args.shards.now.items c.loop-k.shards.items c.loop-k.k c.index_mut.result.now c.ready.new.self below c.loop-k.invariant
    c.index_mut.ensures.value c.if-not-ready.ensures.looks c.if-not-ready.ensures.ready

pub returns-then-not-ready-clause-looks : goal.returns-then-not-ready-clause-looks
returns-then-not-ready-clause-looks g c =
    let below : c.loop-k.k < length c.args.shards.now.items =
    omega (arith, c.args.shards.now.ok, c.len-k-end.ensures, c.loop-k-test.true) in
    looked_looks c.args.shards.now.items c.loop-k.shards.items c.loop-k.k c.index_mut.result.now c.ready.new.self below c.loop-k.invariant
    c.index_mut.ensures.value c.if-not-ready.ensures.looks

pub returns-then-not-ready-clause-waits : goal.returns-then-not-ready-clause-waits
returns-then-not-ready-clause-waits g c = λ e.
    let below : c.loop-k.k < length c.args.shards.now.items =
    omega (arith, c.args.shards.now.ok, c.len-k-end.ensures, c.loop-k-test.true) in
    looked_waits c.args.shards.now.items c.loop-k.shards.items c.loop-k.k c.index_mut.result.now c.ready.new.self below c.loop-k.invariant
    c.index_mut.ensures.value c.if-not-ready.ensures.looks c.if-not-ready.ensures.ready c.if-not-ready.ensures.won

pub returns-clause-looks : goal.returns-clause-looks
returns-clause-looks g c =
    looked_each c.args.shards.now.items c.loop-k.shards.items c.loop-k.k c.loop-k.invariant
    (omega (arith, c.args.shards.now.ok, c.len-k-end.ensures, c.loop-k-test.false, c.loop-k.auto.k-end))

pub returns-clause-ready : goal.returns-clause-ready
returns-clause-ready g c = λ e.
    looked_all c.args.shards.now.items c.loop-k.shards.items c.loop-k.k c.loop-k.invariant
    (omega (arith, c.args.shards.now.ok, c.len-k-end.ensures, c.loop-k-test.false, c.loop-k.auto.k-end))
