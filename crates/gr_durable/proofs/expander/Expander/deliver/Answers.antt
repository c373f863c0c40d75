use Rattle.std.proofs.Common.{◌≡◌, ◌∙◌, ◌-◌, cond, leb, get_or, ap}
use Rattle.gr_script.specs.declared.line.Line.TheVariants as line
use Rattle.gr_durable.specs.declared.numbers.Numbers.{Numbers}
use Rattle.gr_durable.specs.Expanding.{no_numbers}
use Rattle.gr_durable.proofs.Expanders.{found}
use Rattle.gr_durable.proofs.Numbered.{number_of}
use Rattle.gr_durable.proofs.expander.Expander.deliver.Goals as goal

pub returns : goal.returns
returns c clients past is fits =
    let client = c.args.client in
    let seq = c.args.seq in
    let all = c.args.self.now.numbers.items in
    let here = found clients client c.from.result all c.index.result.now is.many fits.0 c.index.ensures c.from.ensures in
    ap (line.Deliver c.args.to client) (c.of-seq.ensures
    ∙ ap (λ (n : Numbers). cond (leb seq n.kept) seq (get_or n.moved (seq - n.kept - 1) 0)) here
    ∙ number_of (get_or all client no_numbers) client seq past (is.numbered client fits.0) fits.1)
