use Rattle.gr_script.specs.Scripts.{heading_of}
use Rattle.gr_script.proofs.PrintLemmas.{heading_printed}
use Rattle.gr_script.proofs.print_script.put_heading.Goals as goal

pub returns : goal.returns
returns c =
    heading_printed (heading_of c.args.script.now) _ _ _ _ c.as_slice.ensures c.in_ok-put_stated.ensures c.in_ok-put_clients.ensures
