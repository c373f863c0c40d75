-- A deed that was prepared, and the call that it is of.
use Rattle.std.specs.Prelude.{◌≡◌, ◌≤◌, ℕ, List, ◌∷◌, length, reverse}
use Rattle.std.specs.Ordering.{nat_cmp}
use Rattle.std.specs.Cmp.Lexicographic.{slice_cmp}
use Rattle.std.specs.List.Sorted.{IsStrictlySortedBy}
use Rattle.std.specs.Map.{keys_of}
use Rattle.gr_value.specs.Shard.{shard_of}
use Rattle.gr_history.specs.declared.deed.Deed.{Deed}
use Rattle.gr_history.specs.declared.deed.Deed.TheVariants.{Asked, Taken, Gave, Imaged, Reported, Heard, Swept}
use Rattle.gr_history.specs.declared.identity.Identity.{Identity}
use Rattle.gr_history.specs.declared.image.Gift.{Gift}
use Rattle.gr_history.specs.Asks.{key_of}
use Rattle.gr_history.specs.Calls.{call_gives}
use Rattle.gr_history.specs.Clock.{clock as clock_of}
use Rattle.gr_history.specs.Gifts.{IsGiftOf, IsReportOf}
use Rattle.gr_history.specs.Queries.{query_gives}
use Rattle.gr_history.specs.Room.{HasNoRoom}
use Rattle.gr_history.specs.Stable.{due}
use Rattle.gr_history.specs.Turned.{turned}
use Rattle.gr_history.specs.Verdicts.{verdict}
use Rattle.gr_vector.specs.declared.report.Report.{Report}
use Rattle.gr_shard.specs.declared.effect.Effect.{Effect}
use Rattle.gr_shard.specs.declared.next.Came.{Came}
use Rattle.gr_shard.specs.declared.next.Came.TheVariants as came
use Rattle.gr_shard.specs.declared.next.Next.{Next}
use Rattle.gr_shard.specs.declared.next.Next.TheVariants as next
use Rattle.gr_shard.specs.declared.prepared.Prepared.{Prepared}
use Rattle.gr_shard.specs.Calls.{call_with}
use Rattle.gr_shard.specs.Effects.{IsMadeAt, IsOneOfEight, IsTimed, effected, needs, queries_after}
use Rattle.gr_shard.specs.InStep.{opened}
use Rattle.gr_shard.specs.Merges.{IsGiftFor, IsImageFor}
use Rattle.gr_shard.specs.View.{Account, IsKept, Kept}

-- A deed with this effect can be added to the account: whatever is kept with its history, the slots in the order of their keys, is
-- kept with the deed once the effect is there, and there is room.
pub record IsFit (account : Account) (deed : Deed) (effect : Effect) : Type 0 where
  pub room : needs effect.queries ≤ account.spare
  pub keeps : (now : Kept) → IsStrictlySortedBy (slice_cmp nat_cmp) (keys_of now.slots) → now.queries ≡ opened (reverse account.deeds)
      → IsKept account.id account.opening now (reverse account.deeds)
      → IsKept account.id account.opening (effected account.id effect now) (deed ∷ reverse account.deeds)
  pub opens : queries_after effect.queries (opened (reverse account.deeds)) ≡ opened (deed ∷ reverse account.deeds)
  pub timed : IsTimed (clock_of (reverse account.deeds)) effect.slots
  pub made : IsMadeAt (opened (reverse account.deeds)) effect.queries
  pub given : IsOneOfEight effect.to

-- It was prepared for the history of this account, where there is room for it.
abbrev pub IsPreparedFor : Account → Prepared → Type 0
IsPreparedFor account prepared = IsFit account prepared.deed prepared.effect

-- ---- what is prepared

-- What each call asks of its caller.
abbrev pub Belongs : Identity → Next → Type 0
Belongs id (next.Call client seq ask) = shard_of (key_of ask.now) id.shards ≡ id.shard
Belongs id (next.TakeIn change) = shard_of change.now.key id.shards ≡ id.shard
Belongs id (next.Query client seq ask) = Unit {0}
Belongs id (next.Give to what) = (1 ≤ to) × (to ≤ id.members)
Belongs id (next.Merge image) = IsImageFor id image.now
Belongs id next.Tell = Unit {0}
Belongs id (next.Hear report) = Unit {0}
Belongs id (next.Sweep moment) = Unit {0}

-- The answer and the deed are those of the call of that name.
abbrev pub Gives : Identity → ℕ → List Deed → Next → Came → Deed → Type 0
Gives id opening past (next.Call client seq ask) answer deed =
    (answer ≡ came.Done (call_gives id opening past ask.now)) × (deed ≡ call_with client seq ask.now (call_gives id opening past ask.now))
Gives id opening past (next.TakeIn change) answer deed =
    (answer ≡ came.Verdict (verdict past change.now)) × (deed ≡ Taken change.now (verdict past change.now))
Gives id opening past (next.Query client seq ask) answer deed =
    (answer ≡ came.Reply (query_gives client ask.now past)) × (deed ≡ Asked client seq ask.now (query_gives client ask.now past))
Gives id opening past (next.Give to what) answer deed =
    ((gift : Gift) × (answer ≡ came.Gift gift) × IsGiftOf id.member opening past what gift × IsGiftFor id gift × HasNoRoom gift)
    × (deed ≡ Gave to what)
Gives id opening past (next.Merge image) answer deed = (answer ≡ came.Merged) × (deed ≡ Imaged image.now)
Gives id opening past next.Tell answer deed =
    (report : Report) × (answer ≡ came.Told report) × IsReportOf id past report × (report.vector.spare ≡ 0)
    × (deed ≡ Reported report)
Gives id opening past (next.Hear report) answer deed = (answer ≡ came.Heard) × (deed ≡ Heard report.now)
Gives id opening past (next.Sweep moment) answer deed =
    (answer ≡ came.Swept (length (due id moment past))) × (deed ≡ Swept moment (due id moment past))

-- With it the keys that the deed turns are told.
pub record IsPrepared (account : Account) (to_do : Next) (prepared : Prepared) : Type 0 where
  pub gives : Gives account.id account.opening (reverse account.deeds) to_do prepared.came prepared.deed
  pub turned_are : prepared.turned.items ≡ turned prepared.deed (reverse account.deeds)
