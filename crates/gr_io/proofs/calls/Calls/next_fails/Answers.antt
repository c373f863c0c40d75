use Rattle.std.proofs.Common.{rules, ◌≡◌}
use Rattle.gr_io.proofs.CallLemmas.{is_ok-searched}
use Rattle.gr_io.proofs.calls.Calls.next_fails.Goals as goal
use Rattle.gr_value.specs.Counts.{next_of}

pub returns-clause-failed : goal.returns-clause-failed
returns-clause-failed c =
    let value = c.deref.ensures.value in
    let looked = rw value at c.binary_search.ensures.position in
    let found = is_ok-searched c.self.inside.fails.items c.saturating_add-self-inside.result c.binary_search.result looked c.self.invariant
    in
    let number : c.saturating_add-self-inside.result ≡ next_of c.self.inside.last = search rules in
    rw (c.is_ok.ensures.value, ← c.self.view_is, ← number) found
