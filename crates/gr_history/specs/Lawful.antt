-- Which histories are lawful.
use Rattle.std.specs.Prelude.{◌≡◌, ℕ, List, [], ◌∷◌, map}
use Rattle.std.specs.List.{AllByRecursion}
use Rattle.gr_value.specs.Shard.{shard_of}
use Rattle.gr_stamp.specs.declared.change.Change.{Change}
use Rattle.gr_history.specs.declared.identity.Identity.{Identity}
use Rattle.gr_history.specs.declared.deed.Deed.{Deed}
use Rattle.gr_history.specs.declared.deed.Deed.TheVariants.{Call, Asked, Taken, Gave, Imaged, Reported, Heard, Swept}
use Rattle.gr_history.specs.Standing.{changes}
use Rattle.gr_history.specs.Stable.{due}
use Rattle.gr_history.specs.Calls.{call_gives}
use Rattle.gr_history.specs.Verdicts.{verdict}
use Rattle.gr_history.specs.Gifts.{IsReportOf}
use Rattle.gr_history.specs.Queries.{query_gives}
use Rattle.gr_history.specs.Regions.{keys_of}

-- the rows are in the order of their keys, and no two have one key
abbrev pub AreInOrder : List Change → Type 0
AreInOrder rows = map (λ row. row.key) rows ≡ keys_of rows

-- A deed is lawful where it says what comes of it after the past.
abbrev pub IsLawfulDeed : Identity → ℕ → Deed → List Deed → Type 0
IsLawfulDeed id opening (Call client to seq ask reply made) past =
    record { reply = reply; made = made; to = to } ≡ call_gives id opening past ask
IsLawfulDeed id opening (Asked client seq ask reply) past = reply ≡ query_gives client ask past
IsLawfulDeed id opening (Taken change told) past = told ≡ verdict past change
IsLawfulDeed id opening (Gave to what) past = Unit {0}
IsLawfulDeed id opening (Imaged image) past = AreInOrder image.rows
IsLawfulDeed id opening (Reported report) past = IsReportOf id past report
IsLawfulDeed id opening (Heard report) past = Unit {0}
IsLawfulDeed id opening (Swept moment expired) past = expired ≡ due id moment past

abbrev pub IsLawful : Identity → ℕ → List Deed → Type 0
IsLawful id opening [] = Unit {0}
IsLawful id opening (deed ∷ past) = IsLawfulDeed id opening deed past × IsLawful id opening past

-- each change that came in has a key of this shard
abbrev pub IsOfShard : Identity → List Deed → Type 0
IsOfShard id past = AllByRecursion (λ change. shard_of change.key id.shards ≡ id.shard) (changes past)
