use Rattle.std.proofs.Common.{◌≡◌, List, ◌<◌, length, refl, ap, ◌∙◌, arith}
use Rattle.gr_value.specs.Shard.{shard_of}
use Rattle.gr_member.specs.Seats.{Place, Peeks}
use Rattle.gr_member.specs.Passes.{House}
use Rattle.gr_member.proofs.Passing.{at_turn, at_stays, peek_stays, shard_below}
use Rattle.gr_member.proofs.member.Member.peek.Goals as goal

pub returns-clause-stays : goal.returns-clause-stays
returns-clause-stays c =
    let at : c.from-at.result ≡ shard_of c.args.key.now c.self.inside.plan.shards = c.from-at.ensures ∙ c.shard.ensures in
    let long = ap (λ (h : House). length h.locks) c.self.view_is in
    let ok = c.self.inside.locks.ok in
    let some = c.self.invariant.1.some_shard in
    let same = ap (λ (l : List Place). length l) c.pass.view_is in
    let less = shard_below c.args.key.now c.self.inside.plan.shards some in
    let below : c.from-at.result < length c.pass.inside.shards.items = omega (arith, c.self.invariant.0, c.requires.many) in
    at_stays (Peeks c.args.key.now c.peek.result) (peek_stays c.args.key.now c.peek.result) c.from-at.result c.args.pass.now _
    (at_turn (Peeks c.args.key.now c.peek.result) c.from-at.result c.from-at.result c.args.pass.now c.pass.inside.shards.items
    c.index_mut.result.now c.peek.new.self below c.pass.view_is refl c.index_mut.ensures.value c.peek.ensures)

pub returns-clause-peeks : goal.returns-clause-peeks
returns-clause-peeks c =
    let at : c.from-at.result ≡ shard_of c.args.key.now c.self.inside.plan.shards = c.from-at.ensures ∙ c.shard.ensures in
    let long = ap (λ (h : House). length h.locks) c.self.view_is in
    let ok = c.self.inside.locks.ok in
    let some = c.self.invariant.1.some_shard in
    let same = ap (λ (l : List Place). length l) c.pass.view_is in
    let less = shard_below c.args.key.now c.self.inside.plan.shards some in
    let below : c.from-at.result < length c.pass.inside.shards.items = omega (arith, c.self.invariant.0, c.requires.many) in
    at_turn (Peeks c.args.key.now c.peek.result) c.from-at.result (shard_of c.args.key.now c.args.self.now.plan.shards) c.args.pass.now
    c.pass.inside.shards.items c.index_mut.result.now c.peek.new.self below c.pass.view_is
    (at ∙ ap (λ (h : House). shard_of c.args.key.now h.plan.shards) c.self.view_is) c.index_mut.ensures.value c.peek.ensures
