use Rattle.gr_runner.proofs.Leaving.{lawful_record}
use Rattle.gr_runner.proofs.laws.what_is_left_is_lawful.Goals as goal

pub returns : goal.returns
returns c heading lines left script a = lawful_record heading lines left script a
