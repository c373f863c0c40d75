use Rattle.std.proofs.Common.{◌≡◌, ◌∙◌, ℕ, List, get_or, length, set, ap}
use Rattle.gr_script.specs.declared.attendance.Presence.{Presence}
use Rattle.gr_script.specs.Absence.{at_first}
use Rattle.gr_durable.specs.declared.numbers.Numbers.{Numbers}
use Rattle.gr_durable.specs.Expanding.{no_numbers, with_added}
use Rattle.gr_durable.proofs.Expanders.{backs, found}
use Rattle.gr_durable.proofs.expander.Expander.back.Goals as goal

pub returns-clause-kept : goal.returns-clause-kept
returns-clause-kept c clients past is few =
    let client = c.args.client in
    let all = c.args.self.now.numbers.items in
    let here = found clients client c.from-3.result all c.index_mut.result.now is.many few c.index_mut.ensures.value c.from-3.ensures in
    let names = c.names-names.ensures ∙ ap (λ (n : ℕ). (get_or c.args.self.now.attendance n at_first).names) c.from-2.ensures
    ∙ ap (λ (p : Presence). p.names) (is.attended client) in
    backs clients client c.args.moment c.args.self.now _ past is few c.in_ok-note.ensures.ok
    (ap (λ (n : ℕ). set all n c.add.new.self) c.from-3.ensures
    ∙ ap (set all client) (c.in_ok-add.ensures ∙ ap (λ (n : Numbers). with_added n (length c.names-names.result.now)) here
    ∙ ap (λ (ns : List (List ℕ)). with_added (get_or all client no_numbers) (length ns)) names))
