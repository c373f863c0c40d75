use Rattle.std.proofs.Common.{◌≡◌, ◌+◌, ◌<◌, length, [], ◌∷◌, refl, ap, ◌∙◌, arith, length-append}
use Rattle.gr_member.proofs.Handing.{handed_more, handed_pair}
use Rattle.gr_member.proofs.Leaving.{empty_of}
use Rattle.gr_member.proofs.dealing.deal.Goals as goal

pub invariant_of-push_reserved : goal.invariant_of-push_reserved
invariant_of-push_reserved c =
    let long : length c.loop-k.rest ≡ length c.pop.new.self + 1 =
    ap length c.in-Some.ensures.seat ∙ length-append c.pop.new.self (c.in-Some.seat ∷ []) in
    let below : length c.pop.new.self < length c.args.seats =
    omega (arith, c.args.passes.now.ok, c.requires.many.0, c.loop-k.invariant.left) in (
      refl,
      handed_pair c.args.passes.now.items c.loop-k.passes.items c.args.seats c.loop-k.rest c.pop.new.self c.args.watches.items
          c.loop-k.watches.items c.pop-in-loop-k.new.self.items c.in-Some.seat c.in-Some-pop.watch c.loop-k.invariant.handed
          c.in-Some.ensures.seat c.in-Some-pop.ensures.items below c.requires.pairs,
    )

pub loop-k-preserved : goal.loop-k-preserved
loop-k-preserved c =
    let left = c.loop-k.invariant.left in
    let at = c.len-at.ensures in
    let long : length c.loop-k.rest ≡ length c.pop.new.self + 1 =
    ap length c.in-Some.ensures.seat ∙ length-append c.pop.new.self (c.in-Some.seat ∷ []) in
    let below : c.len-at.result < length c.args.passes.now.items = omega arith in
    record {
      left = omega arith;
      handed = handed_more c.args.passes.now.items c.loop-k.passes.items c.args.seats c.loop-k.rest c.pop.new.self c.args.watches.items
          c.loop-k.watches.items c.pop-in-loop-k.new.self.items c.in-Some.seat c.in-Some-pop.watch c.loop-k.invariant.handed
          c.in-Some.ensures.seat c.in-Some-pop.ensures.items c.len-at.result c.index_mut.result.now c.push_reserved.new.self at below
          c.index_mut.ensures.value c.push_reserved.ensures.items c.push_reserved.ensures.capacity;
    }

pub destroy_empty-requires : goal.destroy_empty-requires
destroy_empty-requires c =
    empty_of c.loop-k.rest (omega (arith, c.args.passes.now.ok, c.loop-k.invariant.left, c.len-k-end.ensures, c.loop-k-test.false))
