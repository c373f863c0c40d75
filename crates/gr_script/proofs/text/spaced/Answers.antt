use Rattle.std.proofs.Common.{sym}
use Rattle.gr_script.proofs.Plainly.{space_joined}
use Rattle.gr_script.proofs.text.spaced.Goals as goal

pub returns : goal.returns
returns c = space_joined c.args.text.now (c.in_ok-front.front.now, c.in_ok-front.rest.now) (sym c.in_ok-front.ensures.parts)
