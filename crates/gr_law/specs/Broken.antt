-- Small records that break the laws, each by as little as can be: by equal versions, by one stamp, or by values that
-- are the same. A law that is said too weakly would hold of its record.
use Rattle.std.specs.Prelude.{ℕ, ◌==◌, List, [], ◌∷◌, Some, None, if◌then◌else◌}
use Rattle.gr_stamp.specs.declared.change.Change.{Change}
use Rattle.gr_stamp.specs.declared.change.Kind.{Kind}
use Rattle.gr_stamp.specs.declared.change.Kind.TheVariants.{Put, Invalid, Remove}
use Rattle.gr_oql.specs.Question.{Question}
use Rattle.gr_history.specs.declared.ask.Ask.TheVariants as asks
use Rattle.gr_history.specs.declared.reply.Reply.TheVariants as replies
use Rattle.gr_history.specs.declared.query_ask.QueryAsk.TheVariants.{Enrol, Fetch}
use Rattle.gr_history.specs.declared.query_reply.QueryReply.TheVariants.{Opened, Fetched}
use Rattle.gr_history.specs.declared.image.Image.{Image}
use Rattle.gr_history.specs.declared.verdict.Verdict.TheVariants.{Applied, Discarded}
use Rattle.gr_history.specs.declared.deed.Deed.{Deed}
use Rattle.gr_history.specs.declared.deed.Deed.TheVariants.{Call, Asked, Taken, Imaged, Swept}
use Rattle.gr_law.specs.Grids.{Grid}
use Rattle.gr_law.specs.Small.{key}

-- The record doesn't keep the law.
abbrev pub Breaks : (Grid → Type 0) → Grid → Type 0
Breaks law grid = law grid → ⊥

-- a member's first change of the key, with this version
abbrev pub changed : Kind → ℕ → ℕ → Change
changed kind ver member = record { key = key; kind = kind; stamp = record { ver = ver; member = member; rv = 1 } }

-- two members with these histories
abbrev pub two : List Deed → List Deed → Grid
two first second = record {
  members = 2;
  founders = 2;
  shard = 0;
  shards = 1;
  opening = λ member. 0;
  history = λ member. if member == 1 then first else if member == 2 then second else [];
}

-- a call that puts a value at the key, and makes this
abbrev pub puts : Change → Deed
puts change = Call 1 2 1 (asks.Put key []) replies.Null (Some change)

-- what the second member makes
abbrev pub older : Change
older = changed (Put []) 1 2

abbrev pub newer : Change
newer = changed (Put []) 2 2

abbrev pub removed : Change
removed = changed Remove 2 2

-- an image of what the second member made or took in, without a row and with no floor
abbrev pub image : Image
image = record { from = 2; at = 2; rows = []; vector = record { ids = record { member = 2; rv = 1 } ∷ []; spare = 0 }; floor = 0 }

-- Law 0: a change is known, and neither stands nor is under the floor.
abbrev pub known_unseen : Grid
known_unseen = two (Imaged image ∷ []) (puts older ∷ [])

-- Law 1: a new change has the version of one that was taken in, by an image.
abbrev pub equal_versions : Grid
equal_versions = two (puts (changed (Put []) 1 1) ∷ Imaged image ∷ []) (puts older ∷ [])

-- Law 2: a tombstone comes back once it has expired.
abbrev pub tombstone_again : Grid
tombstone_again = two (Taken removed Applied ∷ Swept 600 (key ∷ []) ∷ Taken removed Applied ∷ []) []

-- Laws 3 and 5: a removal that was taken in by an image wins, and yet an older value is present.
abbrev pub removal_ignored : Grid
removal_ignored = two (Taken older Applied ∷ Imaged image ∷ []) (Taken removed Applied ∷ Taken older Applied ∷ [])

-- The same of a put with the value that is present.
abbrev pub put_ignored : Grid
put_ignored = two (Taken older Applied ∷ Imaged image ∷ []) (Taken newer Applied ∷ Taken older Applied ∷ [])

-- an older removal, and an invalidation that beats it
abbrev pub gone : Change
gone = changed Remove 1 2

abbrev pub valueless : Change
valueless = changed Invalid 2 2

-- The same of an invalidation over a removal: no value is present at either, but the key is lost.
abbrev pub key_lost : Grid
key_lost = two (Taken gone Applied ∷ Imaged image ∷ []) (Taken valueless Applied ∷ Taken gone Applied ∷ [])

-- Law 4: a put stands beside a removal with its stamp.
abbrev pub one_stamp : Grid
one_stamp = two (Taken older Applied ∷ Imaged image ∷ []) (Taken (changed Remove 1 2) Discarded ∷ Taken older Applied ∷ [])

abbrev pub name : List ℕ
name = 113 ∷ []

-- that holds of every value
abbrev pub all_values : Question
all_values = record { text = []; asked = record { region = []; alias = None; condition = None } }

-- The law on queries: a query opens without the row that is present.
abbrev pub row_missing : Grid
row_missing = two (Asked 1 1 (Enrol name all_values) (Opened []) ∷ Taken older Applied ∷ []) []

-- An event isn't handed out.
abbrev pub event_missing : Grid
event_missing =
    two (Asked 1 2 (Fetch name) (Fetched []) ∷ Taken older Applied ∷ Asked 1 1 (Enrol name all_values) (Opened []) ∷ []) []
