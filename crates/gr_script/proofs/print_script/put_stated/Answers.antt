use Rattle.gr_script.specs.Scripts.{heading_of}
use Rattle.gr_script.proofs.PrintLemmas.{stated_printed}
use Rattle.gr_script.proofs.print_script.put_stated.Goals as goal

pub returns : goal.returns
returns c =
    stated_printed
    (heading_of c.args.script.now) _ _ _ _ _ _ _ c.from.result c.from-2.result c.from-3.result c.from.ensures c.from-2.ensures
    c.from-3.ensures c.in_ok-put_region.ensures c.in_ok-put_members.ensures c.in_ok-put_size.ensures c.in_ok-put_size-2.ensures
    c.in_ok-put_size-3.ensures c.in_ok-put_size-4.ensures
