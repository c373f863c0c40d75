-- What a world leaves is what its course says.
use Rattle.std.proofs.Common.{zero, suc, ◌≡◌, ◌∙◌, ap, sym, subst, refl, ℕ, List, [], ◌∷◌, length, reverse, map}
use Rattle.std.specs.List.{AllByRecursion}
use Rattle.gr_history.specs.declared.record.ShardRecord.{ShardRecord}
use Rattle.gr_history.specs.declared.record.MemberRecord.{MemberRecord}
use Rattle.gr_history.specs.declared.record.ClientRecord.{ClientRecord}
use Rattle.gr_history.specs.Regions.{IsRegionOf}
use Rattle.gr_shard.specs.Records.{IsRecordOf}
use Rattle.gr_script.specs.Rules.{Heading}
use Rattle.gr_world.specs.declared.world.World.{World}
use Rattle.gr_world.specs.Events.{Event, history}
use Rattle.gr_world.specs.Numbered.{numbers_from, PairsFrom}
use Rattle.gr_world.specs.Records.{HasRegion, HasRegions, IsLeft, MemberHistories, answers, client_left, histories_of, member_left}
use Rattle.gr_world.specs.Worlds.{IsClientOf, IsMemberOf, IsWorld, account_left}
use Rattle.gr_world.proofs.Worlds.{row_left}

shards_leave : (heading : Heading) (events : List Event) (member at from n : ℕ) (left : List ShardRecord)
    → PairsFrom (λ _. IsRecordOf) at (numbers_from from n (account_left heading events member)) left
    → (map (λ shard. shard.history.deeds) left ≡ numbers_from from n (λ shard. reverse (history member shard events)))
    × AllByRecursion (HasRegion heading.floor) left
shards_leave heading events member at from zero [] pairs = (refl, tt)
shards_leave heading events member at from zero (first ∷ rest) pairs = absurd pairs
shards_leave heading events member at from (suc n) [] pairs = absurd pairs
shards_leave heading events member at from (suc n) (first ∷ rest) pairs =
    let later = shards_leave heading events member (suc at) (suc from) n rest pairs.1 in
    let deeds : first.history.deeds ≡ reverse (history member from events) = pairs.0.deeds in (
      ap (λ ds. ds ∷ map (λ shard. shard.history.deeds) rest) deeds ∙ ap (λ all. reverse (history member from events) ∷ all) later.0,
      (subst (λ ds. IsRegionOf heading.floor (reverse ds) first.region) (sym deeds) pairs.0.region, later.1),
    )

members_leave : (heading : Heading) (events : List Event) (from n : ℕ) (left : List MemberRecord)
    → PairsFrom IsMemberOf from (numbers_from from n (row_left heading events)) left
    → (map histories_of left ≡ numbers_from from n (member_left heading events)) × AllByRecursion (HasRegions heading.floor) left
members_leave heading events from zero [] pairs = (refl, tt)
members_leave heading events from zero (first ∷ rest) pairs = absurd pairs
members_leave heading events from (suc n) [] pairs = absurd pairs
members_leave heading events from (suc n) (first ∷ rest) pairs =
    let later = members_leave heading events (suc from) n rest pairs.1 in
    let shards = shards_leave heading events from 0 0 heading.shards first.shards pairs.0.1 in
    let histories : ℕ → _ → MemberHistories = λ number all. record { member = number; shards = all } in
    let here : histories_of first ≡ member_left heading events from =
    ap (λ number. histories number (histories_of first).shards) pairs.0.0 ∙ ap (histories from) shards.0 in (
      ap (λ one. one ∷ map histories_of rest) here ∙ ap (λ all. member_left heading events from ∷ all) later.0,
      (shards.1, later.1),
    )

clients_leave : (heading : Heading) (events : List Event) (from n : ℕ) (left : List ClientRecord)
    → PairsFrom (IsClientOf heading.clients) from (numbers_from from n (λ client. answers client events)) left
    → left ≡ numbers_from from n (client_left heading events)
clients_leave heading events from zero [] pairs = refl
clients_leave heading events from zero (first ∷ rest) pairs = absurd pairs
clients_leave heading events from (suc n) [] pairs = absurd pairs
clients_leave heading events from (suc n) (first ∷ rest) pairs =
    ap (λ one. one ∷ rest) pairs.0
    ∙ ap (λ all. client_left heading events from ∷ all) (clients_leave heading events (suc from) n rest pairs.1)

pub world_leaves : (heading : Heading) (world : World) (members : List MemberRecord) (clients : List ClientRecord)
    → PairsFrom IsMemberOf 1 world.grid members → PairsFrom (IsClientOf heading.clients) 1 world.tellings clients
    → (events : List Event) → IsWorld heading events world
    → IsLeft heading events (record { members = members; clients = clients })
world_leaves heading world members clients grid tellings events is =
    let all = members_leave heading events 1 heading.members members
    (subst (λ rows. PairsFrom IsMemberOf 1 rows members) is.grid_is grid) in
    record {
      members = all.0;
      regions = all.1;
      clients = clients_leave heading events 1 (length heading.clients) clients
          (subst (λ lists. PairsFrom (IsClientOf heading.clients) 1 lists clients) is.tellings_are tellings);
    }
