use Rattle.std.proofs.Common.{List, [], ◌<◌, length, refl, sym, subst, arith}
use Rattle.gr_history.specs.declared.deed.Deed.TheVariants.{Reported}
use Rattle.gr_member.specs.Passes.{TurnsAll}
use Rattle.gr_member.proofs.Acting.{acts_reported}
use Rattle.gr_member.proofs.Going.{turned_none, turned_more, turned_stays, turned_all, turned_refused, turned_some, turned_until, on_err}
use Rattle.gr_member.proofs.rounds.report_each.Goals as goal

pub loop-k-preserved : goal.loop-k-preserved
loop-k-preserved g c =
    let ok = c.args.shards.now.ok in
    let end = c.len-k-end.ensures in
    let test = c.loop-k-test.true in
    let below : c.loop-k.k < length c.args.shards.now.items = omega arith in
    record {
      held = let room = c.loop-k.invariant.held in let same = c.push_reserved.ensures.capacity in omega arith;
      turned = turned_more Reported c.args.shards.now.items c.loop-k.shards.items c.loop-k.reports.items
          c.push_reserved.new.self.items c.loop-k.k c.report_in.result c.index_mut.result.now c.act.new.self below
          c.loop-k.invariant.turned c.index_mut.ensures.value c.push_reserved.ensures.items
          (acts_reported c.index_mut.result.now c.act.new.self c.in_ok-came.came c.report_in.result
          c.in_ok-came.ensures.done c.report_in.ensures);
    }

pub returns-in_err-came-clause-stays : goal.returns-in_err-came-clause-stays
returns-in_err-came-clause-stays g c =
    let below : c.loop-k.k < length c.args.shards.now.items =
    omega (arith, c.args.shards.now.ok, c.len-k-end.ensures, c.loop-k-test.true) in
    turned_refused Reported c.args.shards.now.items c.loop-k.shards.items c.loop-k.reports.items c.loop-k.k
    c.index_mut.result.now c.act.new.self below c.loop-k.invariant.turned
    c.index_mut.ensures.value c.act.ensures.stays

pub returns-in_err-came-clause-refused : goal.returns-in_err-came-clause-refused
returns-in_err-came-clause-refused g c =
    let below : c.loop-k.k < length c.args.shards.now.items =
    omega (arith, c.args.shards.now.ok, c.len-k-end.ensures, c.loop-k-test.true) in
    on_err c.from_residual-in_err-came.result _ (turned_until Reported c.args.shards.now.items
    c.loop-k.shards.items c.loop-k.reports.items c.loop-k.k c.index_mut.result.now c.act.new.self below c.loop-k.invariant.turned
    c.index_mut.ensures.value c.in_err-came.ensures.refused)

pub returns-clause-stays : goal.returns-clause-stays
returns-clause-stays g c = turned_stays Reported c.args.shards.now.items c.loop-k.shards.items
    c.loop-k.reports.items c.loop-k.k c.loop-k.invariant.turned

pub returns-clause-done : goal.returns-clause-done
returns-clause-done g c =
    subst (λ (told : List _). TurnsAll Reported c.args.shards.now.items told c.loop-k.shards.items) (sym c.from_vec.ensures)
    (turned_all Reported c.args.shards.now.items c.loop-k.shards.items c.loop-k.reports.items c.loop-k.k
    c.loop-k.invariant.turned (omega (arith, c.args.shards.now.ok, c.len-k-end.ensures, c.loop-k-test.false, c.loop-k.auto.k-end)))

pub returns-in_err-reports-clause-refused : goal.returns-in_err-reports-clause-refused
returns-in_err-reports-clause-refused g c =
    on_err c.from_residual.result _
    (turned_some Reported c.args.shards.now.items c.args.shards.now.items [] 0
    (turned_none Reported c.args.shards.now.items [] refl) (omega (arith, c.args.shards.now.ok, c.requires.some)))

pub loop-k-init : goal.loop-k-init
loop-k-init g c = record {
  held = let room = c.in_ok-reports.ensures.capacity in let long = c.len.ensures in omega arith;
  turned = turned_none Reported c.args.shards.now.items _ c.in_ok-reports.ensures.items;
}

pub push_reserved-requires : goal.push_reserved-requires
push_reserved-requires g c =
    omega (arith, c.args.shards.now.ok, c.loop-k.reports.ok, c.len-k-end.ensures, c.loop-k-test.true, c.loop-k.invariant.held, c.loop-k.invariant.turned.told_so_far)

pub report_in-requires : goal.report_in-requires
report_in-requires g c = (c.in_ok-came.ensures.done.gives.0, c.in_ok-came.ensures.done.gives.1)
