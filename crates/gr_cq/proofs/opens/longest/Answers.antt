use Rattle.std.proofs.Common.{◌≡◌, ◌≤◌, length, take, max, Vec, Global, subst, sym, ap, ◌∙◌, arith}
use Rattle.gr_oql.specs.declared.event.Event.{Event}
use Rattle.gr_cq.specs.Foresight.{longest}
use Rattle.gr_cq.specs.View.{events_in}
use Rattle.gr_cq.proofs.Telling.{longest_more, longest_more_is}
use Rattle.gr_cq.proofs.opens.longest.Goals as goal
use Rattle.gr_cq.proofs.opens.longest.Goals.{then-len-most, else-len-most}

pub loop-events-preserved : goal.loop-events-preserved
loop-events-preserved c =
    let more : c.loop-events.most ≤ c.if-len-most.most = elim c.if-len-most.branch [
      | then-len-most w ↦ omega (arith, w.if-len-most, w.len-most, w.most-is, c.len.ensures)
      | else-len-most w ↦ omega (arith, w.if-len-most, w.most-is)
    ] in
    let this : length c.events-item.result.items ≤ c.if-len-most.most = elim c.if-len-most.branch [
      | then-len-most w ↦ omega (arith, w.if-len-most, w.len-most, w.most-is, c.len.ensures)
      | else-len-most w ↦ omega (arith, w.if-len-most, w.most-is, c.len.ensures, c.events-item.result.ok)
    ] in
    let most : c.if-len-most.most ≡ max c.loop-events.most (length c.events-item.result.items) = elim c.if-len-most.branch [
      | then-len-most w ↦ omega (arith, w.if-len-most, w.len-most, w.most-is, c.len.ensures)
      | else-len-most w ↦ omega (arith, w.if-len-most, w.most-is, c.len.ensures, c.events-item.result.ok)
    ] in
    let before = longest (events_in (take c.loop-events.events-index c.args.lists.now)) in
    record {
      longest = most ∙ ap (λ m. max m (length c.events-item.result.items)) c.loop-events.invariant.longest
          ∙ ap (λ (events : Vec Event Global). max before (length events.items)) c.events-item.is
          ∙ sym (longest_more_is c.args.lists.now c.loop-events.events-index c.events-item.result (omega (arith, c.loop-events-test.true)));
      some = omega (arith, c.loop-events.invariant.some, more);
      within = longest_more c.if-len-most.most c.loop-events.most c.args.lists.now c.loop-events.events-index c.events-item.result
          more (omega (arith, c.loop-events-test.true))
          (subst (λ (v : Vec Event Global). length v.items ≤ c.if-len-most.most) c.events-item.is this) c.loop-events.invariant.within;
    }
