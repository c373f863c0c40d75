-- What is done at a shard, and the one deed that it gives there.
use Rattle.std.specs.Prelude.{◌≡◌, ℕ, List}
use Rattle.gr_stamp.specs.declared.change.Change.{Change}
use Rattle.gr_vector.specs.declared.report.Report.{Report}
use Rattle.gr_history.specs.declared.ask.Ask.{Ask}
use Rattle.gr_history.specs.declared.identity.Identity.{Identity}
use Rattle.gr_history.specs.declared.image.Image.{Image}
use Rattle.gr_history.specs.declared.image.What.{What}
use Rattle.gr_history.specs.declared.deed.Deed.{Deed}
use Rattle.gr_history.specs.declared.deed.Deed.TheVariants.{Call, Asked, Taken, Gave, Imaged, Reported, Heard, Swept}
use Rattle.gr_history.specs.Calls.{call_gives}
use Rattle.gr_history.specs.declared.query_ask.QueryAsk.{QueryAsk}
use Rattle.gr_history.specs.Queries.{query_gives}
use Rattle.gr_history.specs.Stable.{due}
use Rattle.gr_history.specs.Verdicts.{verdict}
use Rattle.gr_history.specs.Gifts.{report_of}
use Rattle.gr_shard.specs.Calls.{call_with}

-- A client's step calls or asks something of a query, a change is taken in, a joiner is given something, an image
-- is merged, a report is made, a report is heard, or a sweep goes through. What comes of it is told by the history
-- before.
pub data Doing : Type 0 where
  Calls : ℕ → ℕ → Ask → Doing
  Takes : Change → Doing
  Gives : ℕ → What → Doing
  Merges : Image → Doing
  Reports : Doing
  Hears : Report → Doing
  Sweeps : ℕ → Doing
  Asks : ℕ → ℕ → QueryAsk → Doing

-- the one lawful deed
abbrev pub deed_of : Identity → ℕ → List Deed → Doing → Deed
deed_of id opening past (Calls client number ask) = call_with client number ask (call_gives id opening past ask)
deed_of id opening past (Takes change) = Taken change (verdict past change)
deed_of id opening past (Gives to what) = Gave to what
deed_of id opening past (Merges image) = Imaged image
deed_of id opening past Reports = Reported (report_of id past)
deed_of id opening past (Hears report) = Heard report
deed_of id opening past (Sweeps moment) = Swept moment (due id moment past)
deed_of id opening past (Asks client number ask) = Asked client number ask (query_gives client ask past)

-- a deed says that this was done
abbrev pub Says : Deed → Doing → Type 0
Says (Call client to seq ask reply made) doing = doing ≡ Calls client seq ask
Says (Asked client seq ask reply) doing = doing ≡ Asks client seq ask
Says (Taken change told) doing = doing ≡ Takes change
Says (Gave to what) doing = doing ≡ Gives to what
Says (Imaged image) doing = doing ≡ Merges image
Says (Reported report) doing = doing ≡ Reports
Says (Heard report) doing = doing ≡ Hears report
Says (Swept moment expired) doing = doing ≡ Sweeps moment
