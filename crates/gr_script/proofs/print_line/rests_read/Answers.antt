use Rattle.gr_script.specs.Forms.{fields}
use Rattle.gr_script.proofs.RestsRead.{rests_read}
use Rattle.gr_script.proofs.print_line.rests_read.Goals as goal

pub returns : goal.returns
returns c setting saying text rest read = rests_read setting (fields saying.kind) text saying.items rest read
