use Rattle.gr_script.proofs.PrintedLines.{read_back}
use Rattle.gr_script.proofs.print_line.lines_read_back.Goals as goal

pub returns : goal.returns
returns c = read_back
