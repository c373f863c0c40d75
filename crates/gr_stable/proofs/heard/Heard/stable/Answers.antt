use Rattle.std.proofs.Common.{◌≡◌, ◌≤◌, ◌-◌, ◌∙◌, sym, arith}
use Rattle.gr_vector.specs.Ids.{Id}
use Rattle.gr_stable.proofs.Counting.{stable_all, stable_fails, stable_goes_on, stable_none}
use Rattle.gr_stable.proofs.heard.Heard.stable.Goals as goal

pub loop-member-init : goal.loop-member-init
loop-member-init c =
    let tombstone : Id = record { member = c.args.tombstone.now.member; rv = c.args.tombstone.now.rv } in
    record {
      most = omega arith;
      so_far = stable_all c.args.me c.args.founders c.args.given tombstone c.args.self.now c.args.vector.now.ids;
    }

pub loop-member-preserved : goal.loop-member-preserved
loop-member-preserved c =
    let tombstone : Id = record { member = c.args.tombstone.now.member; rv = c.args.tombstone.now.rv } in
    let most = c.loop-member.invariant.most in
    record {
      most = omega (arith, most);
      so_far = stable_goes_on c.args.me c.args.founders c.args.given c.loop-member.member tombstone c.args.self.now
          c.args.vector.now.ids _ c.loop-member-test.true (sym c.passes.ensures ∙ c.if-not-passes.false) c.loop-member.invariant.so_far;
    }

pub returns-then-not-passes : goal.returns-then-not-passes
returns-then-not-passes c =
    let tombstone : Id = record { member = c.args.tombstone.now.member; rv = c.args.tombstone.now.rv } in
    stable_fails c.args.me c.args.founders c.args.given c.loop-member.member tombstone c.args.self.now c.args.vector.now.ids _
    c.loop-member-test.true (sym c.passes.ensures ∙ c.if-not-passes.true) c.loop-member.invariant.so_far

pub returns : goal.returns
returns c =
    let tombstone : Id = record { member = c.args.tombstone.now.member; rv = c.args.tombstone.now.rv } in
    let low = c.loop-member-test.false in
    sym (stable_none c.args.me c.args.founders c.args.given c.loop-member.member tombstone c.args.self.now c.args.vector.now.ids
    (omega (arith, low)))
    ∙ c.loop-member.invariant.so_far
