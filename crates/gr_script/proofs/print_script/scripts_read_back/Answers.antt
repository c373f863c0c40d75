use Rattle.gr_script.specs.Printed.{IsLineKept}
use Rattle.gr_script.proofs.HeadingBack.{text_back, each_kept}
use Rattle.gr_script.proofs.print_script.scripts_read_back.Goals as goal

pub returns : goal.returns
returns c h lines is kept few = text_back h lines is (each_kept IsLineKept lines kept) few
