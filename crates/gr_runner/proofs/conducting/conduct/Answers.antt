use Rattle.std.proofs.Common.{arith, reverse}
use Rattle.gr_runner.proofs.Conducts.{all_left, has_played, lefts_many, lefts_right, sends_of_rings, some_weaker, takes_of_rings}
use Rattle.gr_runner.proofs.Readying.{slots_empty, slots_ready}
use Rattle.gr_runner.proofs.conducting.conduct.Goals as goal

pub play_all-slots-requires-clause-at : goal.play_all-slots-requires-clause-at
play_all-slots-requires-clause-at g c κs within =
    let r = c.requires.ready in slots_ready r.0 r.1 c.args.members.now c.args.inboxes.now c.args.dealt r.2

pub play_all-slots-requires-clause-left : goal.play_all-slots-requires-clause-left
play_all-slots-requires-clause-left g c κs within =
    let r = c.requires.ready in slots_empty r.0 r.1 c.args.members.now c.args.inboxes.now c.args.dealt r.2

pub lefts_of-lefts-requires-clause-left : goal.lefts_of-lefts-requires-clause-left
lefts_of-lefts-requires-clause-left g c =
    let r = c.requires.ready in
    all_left r.0 r.1 c.args.members.now c.args.inboxes.now c.args.dealt r.2 c.play_all-slots.result.items c.play_all-slots.ensures.many
    c.play_all-slots.ensures.each

pub gather_all-desks-requires-clause-its : goal.gather_all-desks-requires-clause-its
gather_all-desks-requires-clause-its g c =
    let r = c.requires.ready in
    lefts_right r.0 r.1 c.args.members.now c.args.inboxes.now c.args.dealt r.2 c.play_all-slots.result.items c.play_all-slots.ensures.many
    c.play_all-slots.ensures.each c.lefts_of-lefts.result.items c.lefts_of-lefts.ensures

pub gather_all-desks-requires-clause-room : goal.gather_all-desks-requires-clause-room
gather_all-desks-requires-clause-room g c =
    let r = c.requires.ready in
    let many = lefts_many r.0 r.1 c.args.members.now c.args.inboxes.now c.args.dealt r.2 c.play_all-slots.result.items
    c.play_all-slots.ensures.many c.play_all-slots.ensures.each c.lefts_of-lefts.result.items c.lefts_of-lefts.ensures in
    omega (arith, c.lefts_of-lefts.result.ok, c.args.dealt.slots.ok, c.requires.room)

pub account_if-told-requires-clause-takes : goal.account_if-told-requires-clause-takes
account_if-told-requires-clause-takes g c = λ well.
    let r = c.requires.ready in
    takes_of_rings r.0 r.1 r.2.script c.args.members.now c.args.inboxes.now c.gather_all-desks.result.desks.items (reverse c.gather_all-desks.result.news.items)
    (has_played r.0 r.1 c.args.members.now c.args.inboxes.now c.args.dealt r.2 c.play_all-slots.result.items c.play_all-slots.ensures.many
    c.play_all-slots.ensures.each c.lefts_of-lefts.result.items c.lefts_of-lefts.ensures c.gather_all-desks.result.desks.items
    c.gather_all-desks.result.news.items c.gather_all-desks.ensures.gathers (c.gather_all-desks.ensures.news well))

pub account_if-told-requires-clause-sends : goal.account_if-told-requires-clause-sends
account_if-told-requires-clause-sends g c = λ well.
    let r = c.requires.ready in
    sends_of_rings r.0 r.1 r.2.script c.args.members.now c.args.inboxes.now c.gather_all-desks.result.desks.items (reverse c.gather_all-desks.result.news.items)
    (has_played r.0 r.1 c.args.members.now c.args.inboxes.now c.args.dealt r.2 c.play_all-slots.result.items c.play_all-slots.ensures.many
    c.play_all-slots.ensures.each c.lefts_of-lefts.result.items c.lefts_of-lefts.ensures c.gather_all-desks.result.desks.items
    c.gather_all-desks.result.news.items c.gather_all-desks.ensures.gathers (c.gather_all-desks.ensures.news well))

pub returns-clause-gone : goal.returns-clause-gone
returns-clause-gone g c =
    some_weaker _ _ (λ told was h lines ready. record {
      news = reverse c.gather_all-desks.result.news.items;
      gone = record {
        played = has_played h lines c.args.members.now c.args.inboxes.now c.args.dealt ready c.play_all-slots.result.items
            c.play_all-slots.ensures.many c.play_all-slots.ensures.each c.lefts_of-lefts.result.items c.lefts_of-lefts.ensures
            c.gather_all-desks.result.desks.items c.gather_all-desks.result.news.items c.gather_all-desks.ensures.gathers (c.gather_all-desks.ensures.news was.0);
        takes = was.1.takes;
        taken = was.1.taken;
        receipts = was.1.receipts;
      };
      told_is = was.1.told_is;
    }) c.account_if-told.result c.account_if-told.ensures
