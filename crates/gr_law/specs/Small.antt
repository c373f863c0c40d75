-- A small record with a sweep and an image. Member 1 puts, member 2 destroys, and lets the tombstone expire once
-- it has heard of both others. Then it gives member 3 an image without the key: what stood there is dropped, the
-- floor is raised, and the next put at member 3 has a greater version than the removal.
use Rattle.std.specs.Prelude.{ℕ, ◌==◌, List, [], ◌∷◌, Some, if◌then◌else◌}
use Rattle.gr_stamp.specs.declared.change.Change.{Change}
use Rattle.gr_stamp.specs.declared.change.Kind.TheVariants.{Put, Remove}
use Rattle.gr_vector.specs.Ids.{Id}
use Rattle.gr_vector.specs.declared.report.Report.{Report}
use Rattle.gr_history.specs.declared.ask.Ask.TheVariants as asks
use Rattle.gr_history.specs.declared.reply.Reply.TheVariants as replies
use Rattle.gr_history.specs.declared.image.Image.{Image}
use Rattle.gr_history.specs.declared.image.What.TheVariants as what
use Rattle.gr_history.specs.declared.verdict.Verdict.TheVariants.{Applied, Discarded}
use Rattle.gr_history.specs.declared.deed.Deed.{Deed}
use Rattle.gr_history.specs.declared.deed.Deed.TheVariants.{Call, Taken, Gave, Imaged, Reported, Heard, Swept}
use Rattle.gr_law.specs.Grids.{Grid}

abbrev pub key : List ℕ
key = 97 ∷ []

abbrev pub first : Change
first = record { key = key; kind = Put []; stamp = record { ver = 1; member = 1; rv = 1 } }

abbrev pub removal : Change
removal = record { key = key; kind = Remove; stamp = record { ver = 2; member = 2; rv = 1 } }

abbrev pub second : Change
second = record { key = key; kind = Put []; stamp = record { ver = 3; member = 3; rv = 1 } }

abbrev pub first_id : Id
first_id = record { member = 1; rv = 1 }

abbrev pub removal_id : Id
removal_id = record { member = 2; rv = 1 }

abbrev pub report_1 : Report
report_1 = record { member = 1; at = 2; own = 1; to = 2; vector = record { ids = first_id ∷ removal_id ∷ []; spare = 0 } }

abbrev pub report_3 : Report
report_3 = record { member = 3; at = 1; own = 0; to = 3; vector = record { ids = removal_id ∷ []; spare = 0 } }

abbrev pub image : Image
image = record { from = 2; at = 5; rows = []; vector = record { ids = first_id ∷ removal_id ∷ []; spare = 0 }; floor = 2 }

abbrev pub history_1 : List Deed
history_1 = Gave 3 what.Own ∷ Reported report_1 ∷ Taken removal Applied ∷ Call 1 2 1 (asks.Put key []) replies.Null (Some first) ∷ []

abbrev pub history_2 : List Deed
history_2 = Gave 3 what.Image ∷ Swept 600 (key ∷ []) ∷ Heard report_3 ∷ Heard report_1
    ∷ Call 2 1 1 (asks.Destroy key) replies.Done (Some removal) ∷ Taken first Applied
    ∷ []

abbrev pub history_3 : List Deed
history_3 = Call 3 3 1 (asks.Put key []) replies.Null (Some second) ∷ Imaged image ∷ Taken first Discarded ∷ Reported report_3
    ∷ Taken removal Applied ∷ []

abbrev pub history : ℕ → List Deed
history member = if member == 1 then history_1 else if member == 2 then history_2 else if member == 3 then history_3 else []

abbrev pub small : Grid
small = record { members = 3; founders = 2; shard = 0; shards = 1; opening = λ member. 0; history = history }
