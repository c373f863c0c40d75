use Rattle.std.proofs.Common.{◌≡◌, ◌∙◌, ℕ, set, ap}
use Rattle.gr_durable.specs.declared.numbers.Numbers.{Numbers}
use Rattle.gr_durable.specs.Expanding.{stepped}
use Rattle.gr_durable.proofs.Expanders.{found, steps}
use Rattle.gr_durable.proofs.expander.Expander.step.Goals as goal

pub returns-clause-kept : goal.returns-clause-kept
returns-clause-kept c clients past is fits =
    let client = c.args.client in
    let seq = c.args.seq in
    let all = c.args.self.now.numbers.items in
    let here = found clients client c.from.result all c.index_mut.result.now is.many fits.0 c.index_mut.ensures.value c.from.ensures in
    steps clients client seq c.args.act c.args.self.now _ past is fits (λ past before. c.in_ok-note_step.ensures.ok seq past before)
    (ap (λ (n : ℕ). set all n c.step.new.self) c.from.ensures
    ∙ ap (set all client) (c.in_ok-seq.ensures.stepped ∙ ap (λ (n : Numbers). stepped n seq) here))
