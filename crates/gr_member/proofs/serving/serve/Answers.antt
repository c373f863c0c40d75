use Rattle.std.proofs.Common.{refl, ap}
use Rattle.gr_history.specs.declared.deed.Deed.TheVariants.{Asked, Taken}
use Rattle.gr_shard.specs.Calls.{call_with}
use Rattle.gr_shard.specs.declared.next.Came.TheVariants as came
use Rattle.gr_member.proofs.Publishing.{serves}
use Rattle.gr_member.proofs.serving.serve.Goals as goal
use Rattle.gr_member.proofs.serving.serve.Goals.{in-Call+in_ok-call-in-Call, in-TakeIn+in_ok-take_in-in-TakeIn, in-Query+in_ok-query-in-Query, in-Give+in_ok-give-in-Give, in-Merge+in_ok-merge-in-Merge, in-Tell+in_ok-report-in-Tell, in-Hear+in_ok-hear-in-Hear, in-Sweep+in_ok-sweep-in-Sweep}

pub returns-clause-done : goal.returns-clause-done
returns-clause-done c = elim c.match-next.branch [
  | in-Call+in_ok-call-in-Call w ↦ let given = w.in_ok-call-in-Call.ensures.given in
      serves _ _ _ _ _ _ _ _ w.in-Call.is w.result-is w.shard-is w.in_ok-call-in-Call.ensures.added
      (ap came.Done given, ap (call_with w.in-Call.client w.in-Call.seq w.in-Call.ask.now) given)
  | in-TakeIn+in_ok-take_in-in-TakeIn w ↦ let verdict = w.in_ok-take_in-in-TakeIn.ensures.verdict in
      serves _ _ _ _ _ _ _ _ w.in-TakeIn.is w.result-is w.shard-is w.in_ok-take_in-in-TakeIn.ensures.added
      (ap came.Verdict verdict, ap (Taken w.in-TakeIn.change.now) verdict)
  | in-Query+in_ok-query-in-Query w ↦ let reply = w.in_ok-query-in-Query.ensures.reply in
      serves _ _ _ _ _ _ _ _ w.in-Query.is w.result-is w.shard-is w.in_ok-query-in-Query.ensures.added
      (ap came.Reply reply, ap (Asked w.in-Query.client w.in-Query.seq w.in-Query.ask.now) reply)
  | in-Give+in_ok-give-in-Give w ↦ let given = w.in_ok-give-in-Give.ensures in
      serves _ _ _ _ _ _ _ _ w.in-Give.is w.result-is w.shard-is given.added ((_, refl, given.gift, given.fits, given.room), refl)
  | in-Merge+in_ok-merge-in-Merge w ↦
      serves _ _ _ _ _ _ _ _ w.in-Merge.is w.result-is w.shard-is w.in_ok-merge-in-Merge.ensures.added (refl, refl)
  | in-Tell+in_ok-report-in-Tell w ↦ let told = w.in_ok-report-in-Tell.ensures in
      serves _ _ _ _ _ _ _ _ w.in-Tell.is w.result-is w.shard-is told.added (_, refl, told.report, told.room, refl)
  | in-Hear+in_ok-hear-in-Hear w ↦
      serves _ _ _ _ _ _ _ _ w.in-Hear.is w.result-is w.shard-is w.in_ok-hear-in-Hear.ensures.added (refl, refl)
  | in-Sweep+in_ok-sweep-in-Sweep w ↦
      serves _ _ _ _ _ _ _ _ w.in-Sweep.is w.result-is w.shard-is w.in_ok-sweep-in-Sweep.ensures.added
      (ap came.Swept w.in_ok-sweep-in-Sweep.ensures.expired, refl)
]
