use Rattle.gr_value.proofs.OneLine.{text_visible, text_begins}
use Rattle.gr_value.proofs.printing.values_print_on_one_line.Goals as goal

pub returns : goal.returns
returns c = record { brace = text_begins; line = text_visible }
