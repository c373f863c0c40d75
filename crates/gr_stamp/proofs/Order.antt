-- Stamps are in a total order.
use Rattle.std.proofs.Common.{◌≡◌, true, false, arith}
use Rattle.std.proofs.lemmas.Bool.Decides.{nat_tests}
use Rattle.gr_stamp.specs.Version.{Version, beats}

pub beats_itself : (a : Version) → beats a a ≡ false
beats_itself a = grind (arith, nat_tests)

pub beats-transitive : (a b c : Version) → beats a b ≡ true → beats b c ≡ true → beats a c ≡ true
beats-transitive a b c one two = grind (arith, nat_tests)

-- what can't beat the loser can't beat the winner
pub beats-greater : (a b c : Version) → beats b c ≡ true → beats a c ≡ false → beats a b ≡ false
beats-greater a b c one two = grind (arith, nat_tests)
