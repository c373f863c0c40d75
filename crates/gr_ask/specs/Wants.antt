-- The text of what is wanted of a member of a record.
use Rattle.std.specs.Prelude.{◌≡◌, ℕ, List, [], ◌∷◌, ◌++◌, ◌==◌, length, codes, decimal, flat_map, if◌then◌else◌}
use Rattle.gr_history.specs.declared.query_reply.Row.{Row}
use Rattle.gr_history.specs.declared.record.MemberRecord.{MemberRecord}
use Rattle.gr_history.specs.declared.record.Record.{Record}
use Rattle.gr_history.specs.declared.record.ShardRecord.{ShardRecord}
use Rattle.gr_index.specs.Answer.{standing_rows, AreApart, IsAnswer, answer}
use Rattle.gr_oql.specs.Question.{Question}
use Rattle.gr_report.specs.Queries.{row_text}
use Rattle.gr_ask.specs.Told.{openings_at, openings_text}
use Rattle.gr_ask.specs.declared.wanted.Wanted.{Wanted}
use Rattle.gr_ask.specs.declared.wanted.Wanted.TheVariants.{Rows, Events}

-- what is left of the shards of a member
abbrev pub shards_at : ℕ → List MemberRecord → List ShardRecord
shards_at member [] = []
shards_at member (first ∷ rest) = if first.member == member then first.shards else shards_at member rest

-- how many rows there are; each stands behind that on a line of its own
abbrev pub rows_text : List Row → List ℕ
rows_text rows = codes "rows " ++ decimal (length rows) ++ flat_map row_text rows ++ codes "\nend\n"

-- The text of what a query finds in the regions of shards. Where no two rows stand at one key, it finds the values there
-- that match, in the order of their keys.
pub record IsRowsText (question : Question) (shards : List ShardRecord) (text : List ℕ) : Type 0 where
  pub rows : List Row
  pub rows_are : rows ≡ answer question shards
  pub exact : AreApart (standing_rows shards) → IsAnswer question (standing_rows shards) rows
  pub text_is : text ≡ rows_text rows

abbrev pub IsWantedText : ℕ → Wanted → Record → List ℕ → Type 0
IsWantedText member (Rows question) record_of text = IsRowsText question (shards_at member record_of.members) text
IsWantedText member Events record_of text =
    text ≡ openings_text member (openings_at (shards_at member record_of.members)) record_of.clients
