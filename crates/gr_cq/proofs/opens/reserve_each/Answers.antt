use Rattle.std.proofs.Common.{◌∙◌, arith}
use Rattle.gr_cq.proofs.Rooms.{entries_same, room_kept, room_more}
use Rattle.gr_cq.proofs.opens.reserve_each.Goals as goal

pub returns-in_err-reserve-clause-entries : goal.returns-in_err-reserve-clause-entries
returns-in_err-reserve-clause-entries c =
    entries_same c.loop-one.all c.loop-one.one-index c.one-item.result c.reserve.new.self c.reserve.ensures.entry
    ∙ c.loop-one.invariant.entries

pub returns-in_err-reserve-clause-kept : goal.returns-in_err-reserve-clause-kept
returns-in_err-reserve-clause-kept c spare room =
    room_kept spare c.loop-one.all c.loop-one.one-index c.one-item.result c.reserve.new.self c.reserve.ensures.kept
    (c.loop-one.invariant.kept spare room)

pub loop-one-preserved : goal.loop-one-preserved
loop-one-preserved c = record {
  entries = entries_same c.loop-one.all c.loop-one.one-index c.one-item.result c.reserve.new.self c.reserve.ensures.entry
      ∙ c.loop-one.invariant.entries;
  kept = λ spare room. room_kept spare c.loop-one.all c.loop-one.one-index c.one-item.result c.reserve.new.self c.reserve.ensures.kept
      (c.loop-one.invariant.kept spare room);
  room = room_more c.args.room c.loop-one.all c.loop-one.one-index c.reserve.new.self
      (omega (arith, c.loop-one-test.true, c.loop-one.auto.all)) c.loop-one.invariant.room c.in_ok-reserve.ensures.room;
}
