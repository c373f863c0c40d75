use Rattle.std.proofs.Common.{◌≡◌, List, Some, subst, sym}
use Rattle.gr_history.specs.declared.record.Record.{Record}
use Rattle.gr_script.specs.Scripts.{heading_of}
use Rattle.gr_run_law.specs.Records.{IsRecordOfRun}
use Rattle.gr_run_law.specs.Threads.{IsLeftByThreads}
use Rattle.gr_run_law.proofs.Records.{record_of_run}
use Rattle.gr_run_law.proofs.Running.{left_lawful}
use Rattle.gr_member.specs.Passes.{House}
use Rattle.gr_runner.specs.Ending.{AreEnded}
use Rattle.gr_runner.specs.Going.{IsReady}
use Rattle.gr_runner.proofs.Beginnings.{at_home, have_numbers, is_ready, lawful_end, ok_both, ok_then}
use Rattle.gr_runner.proofs.NewPasses.{counted_of}
use Rattle.gr_runner.proofs.runner.run.Goals as goal

pub deal-dealt-requires-clause-passes : goal.deal-dealt-requires-clause-passes
deal-dealt-requires-clause-passes g c = counted_of (heading_of c.args.script.now) c.in-Ok.members.items c.in-Ok.passes.items c.in-Ok.ensures.made

pub deal-dealt-requires-clause-clients : goal.deal-dealt-requires-clause-clients
deal-dealt-requires-clause-clients g c =
    at_home (heading_of c.args.script.now) c.args.script.now.lines c.in_ok-inboxes.field-0.inboxes c.in_ok-inboxes.field-0.kits
    c.in_ok-inboxes.ensures.kits

pub conduct-desks-requires-clause-ready : goal.conduct-desks-requires-clause-ready
conduct-desks-requires-clause-ready g c κs within =
    let h = heading_of c.args.script.now in
    let lines = c.args.script.now.lines in
    let rings = c.in_ok-inboxes.field-0.inboxes in
    let dealt = c.deal-dealt.result in
    let first = is_ready h lines c.in-Ok.members.items rings c.in-Ok.passes.items c.in_ok-inboxes.field-0.kits dealt c.args.script.now.ruled
    c.in-Ok.ensures.made c.in_ok-inboxes.ensures.inboxes c.in_ok-inboxes.ensures.kits c.deal-dealt.ensures.all
    (c.deal-dealt.ensures.new c.in-Ok.members.items c.in-Ok.ensures.made) in
    let ready = subst (λ (hs : List House). IsReady h lines hs rings dealt) (sym c.deref.ensures.value) first in
    (h, lines, ready)

pub end_run-requires-clause-all : goal.end_run-requires-clause-all
end_run-requires-clause-all g c =
    let h = heading_of c.args.script.now in
    let lines = c.args.script.now.lines in
    let rings = c.in_ok-inboxes.field-0.inboxes in
    let dealt = c.deal-dealt.result in
    let first = is_ready h lines c.in-Ok.members.items rings c.in-Ok.passes.items c.in_ok-inboxes.field-0.kits dealt c.args.script.now.ruled
    c.in-Ok.ensures.made c.in_ok-inboxes.ensures.inboxes c.in_ok-inboxes.ensures.kits c.deal-dealt.ensures.all
    (c.deal-dealt.ensures.new c.in-Ok.members.items c.in-Ok.ensures.made) in
    let ready = subst (λ (hs : List House). IsReady h lines hs rings dealt) (sym c.deref.ensures.value) first in
    have_numbers h lines c.deref.result.now rings c.conduct-desks.result.desks.items dealt c.conduct-desks.result.told ready
    c.conduct-desks.ensures.gone

pub returns-clause-left : goal.returns-clause-left
returns-clause-left g c =
    let h = heading_of c.args.script.now in
    let lines = c.args.script.now.lines in
    let rings = c.in_ok-inboxes.field-0.inboxes in
    let dealt = c.deal-dealt.result in
    let first = is_ready h lines c.in-Ok.members.items rings c.in-Ok.passes.items c.in_ok-inboxes.field-0.kits dealt c.args.script.now.ruled
    c.in-Ok.ensures.made c.in_ok-inboxes.ensures.inboxes c.in_ok-inboxes.ensures.kits c.deal-dealt.ensures.all
    (c.deal-dealt.ensures.new c.in-Ok.members.items c.in-Ok.ensures.made) in
    let ready = subst (λ (hs : List House). IsReady h lines hs rings dealt) (sym c.deref.ensures.value) first in
    ok_both (λ (r : Record). c.conduct-desks.result.told ≡ Some r.clients)
    (λ (r : Record). AreEnded c.in-Ok.members.items c.conduct-desks.result.desks.items r.members) (IsLeftByThreads h lines)
    (λ r told ended. lawful_end h lines c.deref.result.now rings c.conduct-desks.result.desks.items dealt c.conduct-desks.result.told r ready
    c.conduct-desks.ensures.gone told
    (subst (λ (hs : List House). AreEnded hs c.conduct-desks.result.desks.items r.members) (sym c.deref.ensures.value) ended))
    c.end_run.result c.end_run.ensures.told c.end_run.ensures.ended

pub returns-clause-lawful : goal.returns-clause-lawful
returns-clause-lawful g c =
    let h = heading_of c.args.script.now in
    let lines = c.args.script.now.lines in
    let ruled = c.args.script.now.ruled in
    ok_then (IsLeftByThreads h lines) (IsRecordOfRun h lines)
    (λ (r : Record) left. record_of_run h lines r ruled (left_lawful h lines r ruled left)) c.end_run.result (returns-clause-left g c)
