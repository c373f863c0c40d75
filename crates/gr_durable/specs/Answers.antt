-- What answers leave of a client's tables.
use Rattle.std.specs.Prelude.{◌≡◌, ℕ, ◌<◌, List, [], ◌∷◌, Option, None, bytes_eq, get_or, if◌then◌else◌}
use Rattle.std.specs.FinMap as finite
use Rattle.gr_history.specs.declared.query_reply.QueryReply.TheVariants.{Unknown}
use Rattle.gr_history.specs.declared.record.Answer.{Answer}
use Rattle.gr_history.specs.declared.record.Answer.TheVariants as answer
use Rattle.gr_history.specs.declared.record.ClientRecord.{ClientRecord}
use Rattle.gr_history.specs.declared.record.Record.{Record}
use Rattle.gr_history.specs.Queries.{name_of}
use Rattle.gr_law.specs.Grids.{Among}
use Rattle.gr_law.specs.QueryMaps.{Rows}
use Rattle.gr_script.specs.declared.line.Act.{Act}
use Rattle.gr_script.specs.declared.line.Act.TheVariants as act
use Rattle.gr_script.specs.declared.line.Line.{Line}
use Rattle.gr_script.specs.declared.line.Step.{Step}
use Rattle.gr_script.specs.Rules.{Heading}
use Rattle.gr_script.specs.Steps.{steps_of}
use Rattle.gr_world.specs.Served.{histories_in}
use Rattle.gr_durable.specs.Tables.{held_after, with_reply}

-- What the answer to a step leaves of the table of this name, of which one shard's rows are looked at.
abbrev pub with_answer : List ℕ → ℕ → Act → Answer → Option Rows → Option Rows
with_answer name shard (act.Query ask) (answer.Asked replies) before =
    if bytes_eq (name_of ask) name then with_reply (get_or replies shard Unknown) before else before
with_answer name shard _ _ before = before

abbrev pub table_behind : List ℕ → ℕ → Option Rows → List Step → List Answer → Option Rows
table_behind name shard before (step ∷ steps) (told ∷ answers) =
    table_behind name shard (with_answer name shard step.act told before) steps answers
table_behind name shard before _ _ = before

-- By each shard a client holds what the answers to its steps leave, played in their order.
abbrev pub HoldAnswers : Heading → List Line → Record → Type 0
HoldAnswers heading lines left = (client : ClientRecord) → Among client left.clients → (name : List ℕ) (shard : ℕ) → shard < heading.shards
    → finite.get (held_after client.client (histories_in left client.member shard)) name
    ≡ table_behind name shard None (steps_of client.client lines) client.answers
