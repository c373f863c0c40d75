use Rattle.std.proofs.Common.{ℕ, ◌≤◌, List, [], ◌∷◌, sym, subst, arith}
use Rattle.gr_script.specs.Rules.{AreWithin}
use Rattle.gr_script.proofs.telling.script_of.Goals as goal

wider : (most more : ℕ) (numbers : List ℕ) → most ≤ more → AreWithin 1 most numbers → AreWithin 1 more numbers
wider most more [] le within = tt
wider most more (number ∷ numbers) le within =
    ((within.0.0, omega (arith, within.0.1, le)), wider most more numbers le within.1)

pub clients_of-requires : goal.clients_of-requires
clients_of-requires c =
    let head = c.requires.heading in
    subst (AreWithin 1 8) (sym c.homes.ensures) (wider _ 8 _ head.members.1 head.at_members)
