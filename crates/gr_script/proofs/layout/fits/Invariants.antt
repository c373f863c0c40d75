use Rattle.std.proofs.Common.{◌≡◌, drop}
use Rattle.gr_script.specs.Fields.{fits}
use Rattle.gr_script.proofs.layout.fits.Given as goal

abbrev pub invariant-loop-kind : goal.invariant-loop-kind
invariant-loop-kind l = fits (drop l.kind-index l.kinds) l.rest ≡ fits l.fn.kinds l.fn.text
