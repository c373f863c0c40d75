use Rattle.std.proofs.Common.{◌∷◌, ◌++◌, [], length, sym, subst, arith, ◌∙◌, ap, length-append}
use Rattle.gr_script.specs.Scripts.{heading_of}
use Rattle.gr_runner.specs.Dealing.{AreForClients}
use Rattle.gr_runner.proofs.ForClients.{added_more, client_enough, client_more, for_clients_none, kit_below, kit_home, kit_within, kits_more}
use Rattle.gr_runner.proofs.dealing.deal_clients.Goals as goal

pub deal_client-slot-requires-clause-some : goal.deal_client-slot-requires-clause-some
deal_client-slot-requires-clause-some c =
    (kit_within (heading_of c.args.script.now) c.args.kits.items c.loop-kit.yielded c.next.new.self.rest.items c.in-Some.kit c.requires.kits
    (c.loop-kit.invariant.kits ∙ ap (λ ks. c.loop-kit.yielded ++ ks) c.in-Some.ensures.steps.0) c.args.script.now.ruled.heading.at_members).0

pub deal_client-slot-requires-clause-there : goal.deal_client-slot-requires-clause-there
deal_client-slot-requires-clause-there c =
    let ok = c.loop-kit.passes.ok in
    let many = c.loop-kit.invariant.come.many in
    let most = (kit_within (heading_of c.args.script.now) c.args.kits.items c.loop-kit.yielded c.next.new.self.rest.items c.in-Some.kit
    c.requires.kits (c.loop-kit.invariant.kits ∙ ap (λ ks. c.loop-kit.yielded ++ ks) c.in-Some.ensures.steps.0)
    c.args.script.now.ruled.heading.at_members).1 in
    omega (arith, ok, many, most)

pub deal_client-slot-requires-clause-enough : goal.deal_client-slot-requires-clause-enough
deal_client-slot-requires-clause-enough c =
    let is = c.loop-kit.invariant.kits ∙ ap (λ ks. c.loop-kit.yielded ++ ks) c.in-Some.ensures.steps.0 in
    let h = heading_of c.args.script.now in
    let within = kit_within h c.args.kits.items c.loop-kit.yielded c.next.new.self.rest.items c.in-Some.kit c.requires.kits is
    c.args.script.now.ruled.heading.at_members in
    client_enough h (length c.loop-kit.yielded) c.loop-kit.passes.items c.in-Some.kit
    (kit_below h c.args.kits.items c.loop-kit.yielded c.next.new.self.rest.items c.in-Some.kit c.requires.kits is)
    c.loop-kit.invariant.come within.0
    (kit_home h c.args.kits.items c.loop-kit.yielded c.next.new.self.rest.items c.in-Some.kit c.requires.kits is) within.1

pub loop-kit-preserved : goal.loop-kit-preserved
loop-kit-preserved c =
    let is = c.loop-kit.invariant.kits ∙ ap (λ ks. c.loop-kit.yielded ++ ks) c.in-Some.ensures.steps.0 in
    let h = heading_of c.args.script.now in
    let within = kit_within h c.args.kits.items c.loop-kit.yielded c.next.new.self.rest.items c.in-Some.kit c.requires.kits is
    c.args.script.now.ruled.heading.at_members in
    let held = c.loop-kit.invariant.held in
    let capacity = c.push_reserved.ensures.capacity in
    record {
      kits = kits_more c.args.kits.items c.loop-kit.yielded c.loop-kit.kit-iterator.rest.items c.next.new.self.rest.items c.in-Some.kit
          c.loop-kit.invariant.kits c.in-Some.ensures.steps.0;
      held = omega (arith, held, capacity);
      come = subst (λ i. AreForClients h i c.deal_client-slot.new.passes.items)
          (sym (length-append c.loop-kit.yielded (c.in-Some.kit ∷ [])))
          (client_more h (length c.loop-kit.yielded) c.loop-kit.passes.items c.in-Some.kit
          (kit_below h c.args.kits.items c.loop-kit.yielded c.next.new.self.rest.items c.in-Some.kit c.requires.kits is)
          c.loop-kit.invariant.come within.0
          (kit_home h c.args.kits.items c.loop-kit.yielded c.next.new.self.rest.items c.in-Some.kit c.requires.kits is)
          c.deal_client-slot.result c.deal_client-slot.new.passes.items c.deal_client-slot.ensures.slot c.deal_client-slot.ensures.dealt);
      added = added_more c.args.passes.now.items c.loop-kit.passes.items c.deal_client-slot.new.passes.items c.loop-kit.yielded
          c.in-Some.kit c.args.front.items c.loop-kit.slots.items c.push_reserved.new.self.items c.deal_client-slot.result
          c.loop-kit.invariant.added c.deal_client-slot.ensures.slot c.deal_client-slot.ensures.dealt c.push_reserved.ensures.items;
    }

pub returns-clause-none : goal.returns-clause-none
returns-clause-none c =
    let rest = c.loop-kit.kit-iterator.rest.ok in
    let none = c.in-None.ensures.steps.0 in
    let many = c.requires.kits.many in
    let long = ap length c.loop-kit.invariant.kits ∙ length-append c.loop-kit.yielded c.loop-kit.kit-iterator.rest.items in
    for_clients_none (heading_of c.args.script.now) (length c.loop-kit.yielded) c.loop-kit.passes.items (omega (arith, rest, none, many, long))
    c.loop-kit.invariant.come
