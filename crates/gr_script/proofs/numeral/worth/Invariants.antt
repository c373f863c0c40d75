use Rattle.std.proofs.Common.{◌≡◌, ◌<◌, ◌^◌, take}
use Rattle.gr_script.specs.Numerals.{worth}
use Rattle.gr_script.proofs.numeral.worth.Given as goal

abbrev pub invariant-loop-digit : goal.invariant-loop-digit
invariant-loop-digit l = record { so_far : l.number ≡ worth (take l.digit-index l.digits); small : l.number < 10 ^ l.digit-index }
