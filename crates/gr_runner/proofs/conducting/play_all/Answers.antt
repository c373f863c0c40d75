use Rattle.std.proofs.Common.{◌≡◌, ◌∙◌, ◌<◌, List, length, get_or, ap, sym, subst, arith}
use Rattle.std.specs.Prelude.{All, None}
use Rattle.gr_runner.specs.declared.slots.Slot.{Slot}
use Rattle.gr_runner.specs.Slots.{HasRun}
use Rattle.gr_runner.proofs.Conducts.{written_back}
use Rattle.gr_runner.proofs.conducting.play_all.Goals as goal

pub returns-clause-many : goal.returns-clause-many
returns-clause-many g c =
    let ok = c.args.slots.ok in
    let many = c.play.ensures.many ∙ ap length c.deref_mut.ensures.value in
    ap length (written_back c.play.new.slots c.args.slots.items c.args.slots.len (omega arith)) ∙ many

pub returns-clause-each : goal.returns-clause-each
returns-clause-each g c =
    let ok = c.args.slots.ok in
    let many = c.play.ensures.many ∙ ap length c.deref_mut.ensures.value in
    let back = written_back c.play.new.slots c.args.slots.items c.args.slots.len (omega arith) in
    λ k s less.
    subst (λ (l : List Slot). HasRun (get_or c.args.slots.items k s) (get_or l k s)) (sym back)
    (subst (λ (l : List Slot). HasRun (get_or l k s) (get_or c.play.new.slots k s)) c.deref_mut.ensures.value
    (c.play.ensures.each k s (subst (λ (l : List Slot). k < length l) (sym c.deref_mut.ensures.value) less)))

pub returns-clause-gone : goal.returns-clause-gone
returns-clause-gone g c =
    let ok = c.args.slots.ok in
    let many = c.play.ensures.many ∙ ap length c.deref_mut.ensures.value in
    let back = written_back c.play.new.slots c.args.slots.items c.args.slots.len (omega arith) in
    subst (All (λ (slot : Slot). slot.worker ≡ None)) (sym back) c.play.ensures.gone
