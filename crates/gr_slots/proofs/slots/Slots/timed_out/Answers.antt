use Rattle.std.proofs.Common.{◌≡◌, ◌∙◌, ap, sym, subst, IfOk}
use Rattle.std.specs.Cmp.Lexicographic.{slice_cmp}
use Rattle.std.specs.List.Sorted.{IsStrictlySortedBy}
use Rattle.std.specs.Map.{keys_of}
use Rattle.std.specs.Ordering.{nat_cmp}
use Rattle.gr_slots.specs.Slots.{HeldSlots, timed_out}
use Rattle.gr_slots.specs.Removals.{AreIndexed}
use Rattle.gr_slots.specs.Late.{with_late}
use Rattle.gr_slots.proofs.Due.{due_is}
use Rattle.gr_slots.proofs.Waiting.{late_ordered}
use Rattle.gr_slots.proofs.slots.Slots.timed_out.Goals as goal

pub returns-clause-keys : goal.returns-clause-keys
returns-clause-keys c =
    let rows = c.settle.new.cells in
    let lists = c.settle.new.removals in
    let same : rows ≡ c.args.self.now.entries = ap (λ late. with_late late rows) (sym c.in_ok-settle.ensures.late)
    ∙ c.settle.ensures.rows ∙ ap (λ (held : HeldSlots). held.entries) c.self.view_is in
    subst (λ entries. IfOk c.listed.result (λ keys. keys ≡ timed_out c.args.first c.args.clock entries)) same
    (subst (λ due. IfOk c.listed.result (λ keys. keys ≡ due))
    (due_is c.args.first c.args.clock rows lists c.as_slice.result.now c.in_ok-found.found
    (subst (λ unlisted. AreIndexed unlisted rows lists) c.in_ok-settle.ensures.listed c.settle.ensures.indexed)
    (c.as_slice.ensures.value ∙ c.in_ok-moments.ensures) c.in_ok-found.ensures.found c.in_ok-found.ensures.ordered)
    c.listed.ensures)

pub returns-in_err-settle-clause-ordered : goal.returns-in_err-settle-clause-ordered
returns-in_err-settle-clause-ordered c =
    subst (λ (held : HeldSlots). IsStrictlySortedBy (slice_cmp nat_cmp) (keys_of held.entries)) c.self.view_is
    (late_ordered c.self.inside.late c.self.inside.cells c.self.invariant.indexed.ordered)
