use Rattle.std.proofs.Common.{◌<◌, length, arith}
use Rattle.gr_history.specs.declared.deed.Deed.TheVariants.{Swept}
use Rattle.gr_member.proofs.Acting.{acts_swept}
use Rattle.gr_member.proofs.Going.{swept_none, swept_more, swept_all, turned_stays, turned_refused, turned_until, on_err}
use Rattle.gr_member.proofs.rounds.sweep_each.Goals as goal

pub loop-k-init : goal.loop-k-init
loop-k-init g c = swept_none c.args.moment c.args.shards.now.items

pub count_in-requires : goal.count_in-requires
count_in-requires g c = (_, c.in_ok-came.ensures.done.gives.0)

pub loop-k-preserved : goal.loop-k-preserved
loop-k-preserved g c =
    let below : c.loop-k.k < length c.args.shards.now.items =
    omega (arith, c.args.shards.now.ok, c.len-k-end.ensures, c.loop-k-test.true) in
    swept_more c.args.moment c.loop-k.count c.saturating_add-count.result c.count_in.result c.args.shards.now.items
    c.loop-k.shards.items c.loop-k.k c.index_mut.result.now c.act.new.self below c.loop-k.invariant c.index_mut.ensures.value
    (acts_swept c.index_mut.result.now c.act.new.self c.args.moment c.in_ok-came.came c.count_in.result c.in_ok-came.ensures.done
    c.count_in.ensures)
    c.saturating_add-count.ensures

pub returns-in_err-came-clause-stays : goal.returns-in_err-came-clause-stays
returns-in_err-came-clause-stays g c =
    let below : c.loop-k.k < length c.args.shards.now.items =
    omega (arith, c.args.shards.now.ok, c.len-k-end.ensures, c.loop-k-test.true) in
    turned_refused (Swept c.args.moment) c.args.shards.now.items c.loop-k.shards.items c.loop-k.invariant.expired c.loop-k.k
    c.index_mut.result.now c.act.new.self below c.loop-k.invariant.turned c.index_mut.ensures.value c.act.ensures.stays

pub returns-in_err-came-clause-refused : goal.returns-in_err-came-clause-refused
returns-in_err-came-clause-refused g c =
    let below : c.loop-k.k < length c.args.shards.now.items =
    omega (arith, c.args.shards.now.ok, c.len-k-end.ensures, c.loop-k-test.true) in
    on_err c.from_residual.result _ (turned_until (Swept c.args.moment) c.args.shards.now.items c.loop-k.shards.items
    c.loop-k.invariant.expired c.loop-k.k c.index_mut.result.now
    c.act.new.self below c.loop-k.invariant.turned c.index_mut.ensures.value c.in_err-came.ensures.refused)

pub returns-clause-stays : goal.returns-clause-stays
returns-clause-stays g c =
    turned_stays (Swept c.args.moment) c.args.shards.now.items c.loop-k.shards.items c.loop-k.invariant.expired c.loop-k.k
    c.loop-k.invariant.turned

pub returns-clause-done : goal.returns-clause-done
returns-clause-done g c =
    swept_all c.args.moment c.loop-k.count c.args.shards.now.items c.loop-k.shards.items c.loop-k.k c.loop-k.invariant
    (omega (arith, c.args.shards.now.ok, c.len-k-end.ensures, c.loop-k-test.false, c.loop-k.auto.k-end))
