use Rattle.std.proofs.Common.{◌≡◌, drop}
use Rattle.gr_script.specs.Steps.{is_gone}
use Rattle.gr_world.proofs.gone.is_gone.Given as goal

abbrev pub invariant-loop-one : goal.invariant-loop-one
invariant-loop-one l = is_gone (drop l.one-index l.fn.gone) l.fn.member ≡ is_gone l.fn.gone l.fn.member
