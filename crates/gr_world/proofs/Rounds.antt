-- What is done for each number plays as each of its steps does.
use Rattle.std.proofs.Common.{◌≡◌, ℕ, suc, ◌+◌, List, subst, arith}
use Rattle.gr_script.specs.Rules.{Heading}
use Rattle.gr_world.specs.declared.world.World.{World}
use Rattle.gr_world.specs.Courses.{for_each}
use Rattle.gr_world.specs.Events.{Event}
use Rattle.gr_world.specs.Worlds.{Plays}
use Rattle.gr_world.proofs.Worlds.{for_each_plays}

-- one member more, who is numbered from 1
pub each_plays : (heading : Heading) (act : ℕ → List Event → List Event) (n : ℕ) (first now next : World)
    → Plays heading (for_each n (λ k. act (suc k))) first now → Plays heading (act (n + 1)) now next
    → Plays heading (for_each (n + 1) (λ k. act (suc k))) first next
each_plays heading act n first now next so_far more =
    let e : n + 1 ≡ suc n = omega arith in
    for_each_plays heading (λ k. act (suc k)) n first now next so_far (subst (λ k. Plays heading (act k) now next) e more)

-- all of them
pub all_played : (heading : Heading) (act : ℕ → List Event → List Event) (n whole : ℕ) (first now : World) → n ≡ whole
    → Plays heading (for_each n act) first now → Plays heading (for_each whole act) first now
all_played heading act n whole first now e = subst (λ k. Plays heading (for_each k act) first now) e
