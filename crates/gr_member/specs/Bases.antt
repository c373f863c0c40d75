-- What a seat's base allows.
use Rattle.std.specs.Prelude.{◌≡◌, ℕ, Bool, List, reverse, Option, Some}
use Rattle.gr_history.specs.declared.deed.Deed.{Deed}
use Rattle.gr_history.specs.declared.identity.Identity.{Identity}
use Rattle.gr_history.specs.Recipients.{is_ready}
use Rattle.gr_shard.specs.Prepared.{Belongs}
use Rattle.gr_shard.specs.declared.next.Next.{Next}
use Rattle.gr_member.specs.declared.replica.Origin.{Origin}
use Rattle.gr_member.specs.Replicas.{IsBaseOf}

-- it may be done at this shard
abbrev pub BelongsBy : Option Origin → Next → Type 0
BelongsBy base to_do = (o : Origin) → base ≡ Some o → Belongs o.id to_do

-- whether the shard is ready after these deeds
abbrev pub IsReadyBy : Option Origin → List Deed → Bool → Type 0
IsReadyBy base deeds ready = (id : Identity) (opening : ℕ) → IsBaseOf id opening base → ready ≡ is_ready id (reverse deeds)
