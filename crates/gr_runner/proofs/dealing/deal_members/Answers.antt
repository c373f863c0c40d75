use Rattle.std.proofs.Common.{◌≡◌, ◌<◌, ◌∷◌, [], length, refl, sym, subst, arith, length-append}
use Rattle.std.specs.Prelude.{vec_len}
use lib.Dec.{leb}
use Rattle.gr_script.specs.Scripts.{heading_of}
use Rattle.gr_runner.specs.Dealing.{AreToCome, HaveEnough, HaveFewer, IsMemberSlot, IsRoom}
use Rattle.gr_runner.proofs.Dealings.{at_place, come_enough, come_more, dealt_then, member_slots_more}
use Rattle.gr_runner.proofs.Ends.{one_longer}
use Rattle.gr_runner.proofs.Gathered.{all_last}
use Rattle.gr_runner.proofs.dealing.deal_members.Goals as goal

pub deal_member-slot-requires-clause-enough : goal.deal_member-slot-requires-clause-enough
deal_member-slot-requires-clause-enough c =
    let ok = c.loop-kit.slots.ok in
    let len = c.len-home.ensures in
    let many = c.loop-kit.invariant.slots.many in
    let rooms = c.loop-kit.invariant.rooms in
    let longer = one_longer c.loop-kit.rooms.items c.pop.new.self.items c.in-Some-pop.room c.in-Some-pop.ensures.items in
    let below : length c.loop-kit.yielded < c.args.script.now.members = omega (arith, rooms, longer) in
    let home : c.len-home.result ≡ length c.loop-kit.yielded = omega (arith, ok, len, many) in
    at_place (λ i j. HaveEnough i j c.loop-kit.passes.items) (length c.loop-kit.yielded) c.len-home.result c.args.script.now.founders
    c.from-founders.result (sym home) (sym c.from-founders.ensures)
    (come_enough (heading_of c.args.script.now) (length c.loop-kit.yielded) c.loop-kit.passes.items below c.loop-kit.invariant.come)

pub loop-kit-preserved : goal.loop-kit-preserved
loop-kit-preserved c =
    let ok = c.loop-kit.slots.ok in
    let len = c.len-home.ensures in
    let many = c.loop-kit.invariant.slots.many in
    let rooms = c.loop-kit.invariant.rooms in
    let held = c.loop-kit.invariant.held in
    let capacity = c.push_reserved.ensures.capacity in
    let longer = one_longer c.loop-kit.rooms.items c.pop.new.self.items c.in-Some-pop.room c.in-Some-pop.ensures.items in
    let more = length-append c.loop-kit.yielded (c.in-Some.kit ∷ []) in
    let below : length c.loop-kit.yielded < c.args.script.now.members = omega (arith, rooms, longer) in
    let home : c.len-home.result ≡ length c.loop-kit.yielded = omega (arith, ok, len, many) in
    let lists = c.loop-kit.passes.ok in
    let counted = c.loop-kit.invariant.come.many in
    let all : vec_len c.loop-kit.passes ≡ c.args.script.now.members = omega (arith, lists, counted) in
    record {
      rooms = omega (arith, rooms, longer, more);
      empty = (all_last (IsRoom c.args.script.now.members) c.loop-kit.rooms.items c.pop.new.self.items c.in-Some-pop.room
          c.loop-kit.invariant.empty c.in-Some-pop.ensures.items).0;
      held = omega (arith, held, capacity);
      come = subst (λ i. AreToCome (heading_of c.args.script.now) i c.deal_member-slot.new.passes.items) (sym more)
          (come_more (heading_of c.args.script.now) (length c.loop-kit.yielded) c.loop-kit.passes.items c.deal_member-slot.new.passes.items
          below c.loop-kit.invariant.come c.deal_member-slot.ensures.dealt.many
          (at_place (λ i j. HaveFewer i j c.loop-kit.passes.items c.deal_member-slot.new.passes.items) c.len-home.result
          (length c.loop-kit.yielded) c.from-founders.result c.args.script.now.founders home c.from-founders.ensures
          c.deal_member-slot.ensures.fewer));
      slots = member_slots_more (heading_of c.args.script.now) c.loop-kit.yielded _ c.loop-kit.slots.items c.push_reserved.new.self.items
          c.in-Some.kit c.deal_member-slot.result c.loop-kit.invariant.slots
          (subst (λ n. IsMemberSlot n (length c.loop-kit.yielded) (leb c.args.script.now.founders (length c.loop-kit.yielded)) c.in-Some.kit c.deal_member-slot.result) all
          (at_place (λ i j. IsMemberSlot (vec_len c.loop-kit.passes) i j c.in-Some.kit c.deal_member-slot.result) c.len-home.result
          (length c.loop-kit.yielded) c.from-founders.result c.args.script.now.founders home c.from-founders.ensures
          c.deal_member-slot.ensures.slot))
          refl c.push_reserved.ensures.items;
      dealt = dealt_then c.args.passes.now.items c.loop-kit.passes.items c.deal_member-slot.new.passes.items c.loop-kit.slots.items
          (c.deal_member-slot.result ∷ []) c.push_reserved.new.self.items c.loop-kit.invariant.dealt c.deal_member-slot.ensures.dealt
          c.push_reserved.ensures.items;
    }
