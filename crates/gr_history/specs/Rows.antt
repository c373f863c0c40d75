-- Two histories of one key, written down deed by deed: a tombstone that expires at the member that made
-- it, and a put behind it. They are listed the newest deed first.
use Rattle.std.specs.Prelude.{ℕ, List, [], ◌∷◌, true, Some, codes}
use Rattle.gr_value.specs.declared.value.Field.{Field}
use Rattle.gr_value.specs.declared.scalar.Scalar.TheVariants.{Bool as truth}
use Rattle.gr_stamp.specs.declared.change.Change.{Change}
use Rattle.gr_stamp.specs.declared.change.Kind.{Kind}
use Rattle.gr_stamp.specs.declared.change.Kind.TheVariants as kind
use Rattle.gr_vector.specs.declared.report.Report.{Report}
use Rattle.gr_vector.specs.Ids.{Id}
use Rattle.gr_history.specs.declared.ask.Ask.TheVariants as ask
use Rattle.gr_history.specs.declared.reply.Reply.TheVariants as reply
use Rattle.gr_history.specs.declared.verdict.Verdict.TheVariants as verdict
use Rattle.gr_history.specs.declared.identity.Identity.{Identity}
use Rattle.gr_history.specs.declared.image.Image.{Image}
use Rattle.gr_history.specs.declared.deed.Deed.{Deed}
use Rattle.gr_history.specs.declared.deed.Deed.TheVariants.{Call, Taken, Reported, Heard, Swept}

-- a member of so many, all of one shard
abbrev pub member_in : ℕ → ℕ → ℕ → Identity
member_in member members founders = record { member = member; members = members; founders = founders; shard = 0; shards = 1 }

abbrev pub one_key : List ℕ
one_key = codes "a"

abbrev pub some_value : List Field
some_value = record { name = codes "x"; scalar = truth true } ∷ []

abbrev pub id_number : ℕ → ℕ → Id
id_number member rv = record { member = member; rv = rv }

-- a change of the key by the first member
abbrev change_by_first : ℕ → ℕ → Kind → Change
change_by_first ver rv kind = record { key = one_key; kind = kind; stamp = record { ver = ver; member = 1; rv = rv } }

abbrev pub first_put : Change
first_put = change_by_first 1 1 (kind.Put [])

abbrev pub removal : Change
removal = change_by_first 2 2 kind.Remove

abbrev pub last_put : Change
last_put = change_by_first 3 3 (kind.Put some_value)

-- what the second member reports once it has the removal and the first put
abbrev pub second_report : Report
second_report = record {
  member = 2;
  at = 2;
  own = 0;
  to = 1;
  vector = record { ids = id_number 1 2 ∷ id_number 1 1 ∷ []; spare = 0 };
}

-- the first member's two calls
abbrev pub first_called : List Deed
first_called =
    Call 1 2 2 (ask.Destroy one_key) reply.Done (Some removal) ∷ Call 1 2 1 (ask.Put one_key []) reply.Null (Some first_put) ∷ []

-- Behind them it hears the second member, which had made a change that hasn't come.
abbrev pub first_behind : List Deed
first_behind = Heard (record second_report { own = 1 }) ∷ first_called

-- the first member up to its first sweep, which comes too early by a second
abbrev pub first_early : List Deed
first_early = Swept 599 [] ∷ Heard second_report ∷ first_called

-- up to the sweep at which the tombstone expires
abbrev pub first_swept : List Deed
first_swept = Swept 600 (one_key ∷ []) ∷ first_early

abbrev pub first_whole : List Deed
first_whole = Call 1 2 3 (ask.Put one_key some_value) reply.Null (Some last_put) ∷ first_swept

-- an image of nothing, with a floor
abbrev pub bare_image : Image
bare_image = record { from = 1; at = 0; rows = []; vector = record { ids = []; spare = 0 }; floor = 5 }

-- the second member heard no report, so its sweep names nothing
abbrev pub second_swept : List Deed
second_swept =
    Swept 600 [] ∷ Reported second_report ∷ Taken first_put verdict.Discarded ∷ Taken removal verdict.Applied ∷ []

abbrev pub second_whole : List Deed
second_whole = Taken first_put verdict.Repeat ∷ Taken last_put verdict.Applied ∷ second_swept
