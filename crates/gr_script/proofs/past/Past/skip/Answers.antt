use Rattle.std.proofs.Common.{List, sym, subst}
use Rattle.gr_script.specs.declared.saying.Saying.{Saying}
use Rattle.gr_script.specs.Index.{IsIndex}
use Rattle.gr_script.specs.Taken.{Taken, said, IsNext}
use Rattle.gr_script.proofs.Taking.{ahead_next, said_next, taken_next}
use Rattle.gr_script.proofs.past.Past.skip.Goals as goal

pub invariant_of-self : goal.invariant_of-self
invariant_of-self c =
    let held = c.self.inside in
    let t : Taken = record { runs = held.runs; text = held.text.now; count = held.count } in
    let after = c.args.after.now in
    let next = subst (λ (s : Taken). IsNext s (said s) after) (sym c.self.view_is) c.requires in (
      subst
          (λ (p : List Saying).
          IsIndex held.stage held.setting held.founders held.sizes held.homes held.tallies held.counted held.attendance held.returned p)
          (sym (said_next t (said t) after next)) c.self.invariant.0,
      taken_next t (said t) after c.self.invariant.1 next,
      ahead_next t (said t) after next,
    )
