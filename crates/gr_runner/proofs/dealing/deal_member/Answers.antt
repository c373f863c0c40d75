use Rattle.std.proofs.Common.{refl, arith}
use Rattle.gr_runner.proofs.Dealings.{dealt_member, fewer_member}
use Rattle.gr_runner.proofs.dealing.deal_member.Goals as goal

pub returns-clause-slot : goal.returns-clause-slot
returns-clause-slot c = record {
  host = record {
    plan = c.args.kit.plan;
    duties = c.args.kit.duties;
    pass = c.take_at-pass.result;
    visits = c.visits_of-visits.result;
    take = c.args.kit.take;
    courier = c.args.kit.courier;
    ends = c.args.kit.ends;
  };
  worker_is = refl;
  home_is = refl;
  nothing_left = refl;
  plan_is = refl;
  duties_are = refl;
  take_is = refl;
  courier_is = refl;
  ends_are = refl;
  visits_all = λ e. (let ok = c.args.passes.now.ok in let all = c.visits_of-visits.ensures.all e in omega arith);
  visits_none = c.visits_of-visits.ensures.none;
}

pub returns-clause-dealt : goal.returns-clause-dealt
returns-clause-dealt c =
    dealt_member c.args.joins c.args.passes.now.items c.visits_of-visits.new.passes.items c.take_at-pass.new.passes.items c.args.home
    c.visits_of-visits.result.items c.take_at-pass.result _ c.visits_of-visits.ensures c.take_at-pass.ensures (λ k. refl)

pub returns-clause-fewer : goal.returns-clause-fewer
returns-clause-fewer c =
    fewer_member c.args.joins c.args.passes.now.items c.visits_of-visits.new.passes.items c.take_at-pass.new.passes.items c.args.home
    c.visits_of-visits.result.items c.take_at-pass.result c.visits_of-visits.ensures c.take_at-pass.ensures
