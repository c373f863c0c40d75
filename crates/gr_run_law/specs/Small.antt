-- A small run of three members, of which the third joins, and two shards, of which the one key has the second. The first
-- member's client puts, opens a query and peeks, and the member sweeps. The second takes the put in, twice by the trouble
-- plan, and reports. The third merges the second's images, takes in what the first gave it, and then its client gets.
-- Histories are listed the newest deed first, all else in order.
use Rattle.std.specs.Prelude.{ℕ, zero, suc, ◌==◌, List, [], ◌∷◌, Some, None, codes, if◌then◌else◌}
use Rattle.gr_vector.specs.declared.report.Report.{Report}
use Rattle.gr_history.specs.QueryRows.{all_rows, query_name, row}
use Rattle.gr_history.specs.declared.ask.Ask.TheVariants as ask
use Rattle.gr_history.specs.declared.reply.Reply.TheVariants as reply
use Rattle.gr_history.specs.declared.query_ask.QueryAsk.{QueryAsk}
use Rattle.gr_history.specs.declared.query_ask.QueryAsk.TheVariants.{Enrol}
use Rattle.gr_history.specs.declared.query_reply.QueryReply.{QueryReply}
use Rattle.gr_history.specs.declared.query_reply.QueryReply.TheVariants.{Opened}
use Rattle.gr_history.specs.declared.verdict.Verdict.TheVariants as verdict
use Rattle.gr_history.specs.declared.image.Image.{Image}
use Rattle.gr_history.specs.declared.image.What.TheVariants as what
use Rattle.gr_history.specs.declared.deed.Deed.{Deed}
use Rattle.gr_history.specs.declared.deed.Deed.TheVariants.{Call, Asked, Taken, Gave, Imaged, Reported, Heard, Swept}
use Rattle.gr_post.specs.declared.mail.Mail.{Mail}
use Rattle.gr_post.specs.declared.mail.Mail.TheVariants as mail
use Rattle.gr_post.specs.declared.mail.Posted.{Posted}
use Rattle.gr_script.specs.declared.line.Act.TheVariants as act
use Rattle.gr_script.specs.declared.line.Line.{Line}
use Rattle.gr_script.specs.declared.line.Line.TheVariants as line
use Rattle.gr_script.specs.Rules.{Heading, heading}
use Rattle.gr_world.specs.Rows.{one_key, put, puts, peeks, id}
use Rattle.gr_world.specs.Served.{Served, Called, Queried, Looked}
use Rattle.gr_run_law.specs.Shares.{Owner, Client, Thread, Giver}
use Rattle.gr_run_law.specs.Threads.{Work, TookIn, HeardOf, ReportedAll, SweptAll, Merged, GotFrom}

-- ---- the script

abbrev pub three : Heading
three = heading (codes "/r") 3 2 2 16 11 0 (1 ∷ 3 ∷ [])

abbrev pub opens : QueryAsk
opens = Enrol query_name all_rows

abbrev pub small_lines : List Line
small_lines =
    puts 1 1 ∷ line.Step 1 2 (act.Query opens) ∷ peeks 1 3 ∷ line.Sweep 1 600 ∷ line.Report 2 ∷ line.Join 3 2
    ∷ line.Step 2 1 (act.Call (ask.Get one_key)) ∷ []

-- ---- histories

-- The put goes to the second member alone.
abbrev first_put : Deed
first_put = Call 1 2 1 (ask.Put one_key []) reply.Null (Some (put 1 1 1))

-- what the two shards answer
abbrev pub rows_0 : QueryReply
rows_0 = Opened []

abbrev rows_1 : QueryReply
rows_1 = Opened (row one_key [] ∷ [])

abbrev get : Deed
get = Call 2 0 1 (ask.Get one_key) (reply.Value []) None

abbrev pub report_0 : Report
report_0 = record { member = 2; at = 0; own = 0; to = 1; vector = record { ids = []; spare = 0 } }

abbrev pub report_1 : Report
report_1 = record { member = 2; at = 1; own = 0; to = 1; vector = record { ids = id 1 1 ∷ []; spare = 0 } }

abbrev pub image_0 : Image
image_0 = record { from = 2; at = 1; rows = []; vector = record { ids = []; spare = 0 }; floor = 0 }

abbrev pub image_1 : Image
image_1 = record { from = 2; at = 2; rows = put 1 1 1 ∷ []; vector = record { ids = id 1 1 ∷ []; spare = 0 }; floor = 0 }

abbrev pub small_histories : ℕ → ℕ → List Deed
small_histories (suc zero) zero =
    Heard report_0 ∷ Gave 3 what.Own ∷ Heard report_0 ∷ Swept 600 [] ∷ Asked 1 2 opens rows_0 ∷ []
small_histories (suc zero) (suc zero) =
    Heard report_1 ∷ Gave 3 what.Own ∷ Swept 600 [] ∷ Asked 1 2 opens rows_1 ∷ first_put ∷ []
small_histories (suc (suc zero)) zero = Gave 3 what.Image ∷ Reported report_0 ∷ []
small_histories (suc (suc zero)) (suc zero) =
    Taken (put 1 1 1) verdict.Repeat ∷ Gave 3 what.Image ∷ Reported report_1 ∷ Taken (put 1 1 1) verdict.Applied ∷ []
small_histories (suc (suc (suc zero))) zero = Heard report_0 ∷ Imaged image_0 ∷ []
small_histories (suc (suc (suc zero))) (suc zero) =
    get ∷ Heard report_1 ∷ Taken (put 1 1 1) verdict.Repeat ∷ Imaged image_1 ∷ []
small_histories _ _ = []

-- ---- who did what

abbrev pub small_served : ℕ → List Served
small_served (suc zero) =
    Called 1 (ask.Put one_key []) reply.Null (Some (put 1 1 1)) 2 ∷ Queried 2 opens (rows_0 ∷ rows_1 ∷ [])
    ∷ Looked 3 (record { key = one_key; value = Some []; at = 2 }) ∷ []
small_served (suc (suc zero)) = Called 1 (ask.Get one_key) (reply.Value []) None 0 ∷ []
small_served _ = []

abbrev pub small_works : ℕ → List Work
small_works (suc zero) = SweptAll 600 ([] ∷ [] ∷ []) ∷ HeardOf 0 report_0 ∷ HeardOf 0 report_0 ∷ HeardOf 1 report_1 ∷ []
small_works (suc (suc zero)) =
    TookIn 1 (put 1 1 1) verdict.Applied ∷ ReportedAll (report_0 ∷ report_1 ∷ []) ∷ TookIn 1 (put 1 1 1) verdict.Repeat ∷ []
small_works (suc (suc (suc zero))) =
    Merged 0 image_0 ∷ Merged 1 image_1 ∷ GotFrom 1 (put 1 1 1) verdict.Repeat ∷ HeardOf 1 report_1 ∷ HeardOf 0 report_0 ∷ []
small_works _ = []

-- ---- the deeds of each owner, and their places

-- these, where the number is this one
abbrev pub only : {A : Type 0} → ℕ → List A → ℕ → List A
only number all own = if own == number then all else []

abbrev first_owned : ℕ → Owner → List Deed
first_owned zero (Client client) = only 1 (Asked 1 2 opens rows_0 ∷ []) client
first_owned zero Thread = Swept 600 [] ∷ Heard report_0 ∷ Heard report_0 ∷ []
first_owned zero (Giver joiner) = only 3 (Gave 3 what.Own ∷ []) joiner
first_owned (suc shard) (Client client) = only 1 (first_put ∷ Asked 1 2 opens rows_1 ∷ []) client
first_owned (suc shard) Thread = Swept 600 [] ∷ Heard report_1 ∷ []
first_owned (suc shard) (Giver joiner) = only 3 (Gave 3 what.Own ∷ []) joiner

abbrev first_places : ℕ → Owner → List ℕ
first_places zero (Client client) = only 1 (0 ∷ []) client
first_places zero Thread = 1 ∷ 2 ∷ 4 ∷ []
first_places zero (Giver joiner) = only 3 (3 ∷ []) joiner
first_places (suc shard) (Client client) = only 1 (0 ∷ 1 ∷ []) client
first_places (suc shard) Thread = 2 ∷ 4 ∷ []
first_places (suc shard) (Giver joiner) = only 3 (3 ∷ []) joiner

abbrev second_owned : ℕ → Owner → List Deed
second_owned shard (Client client) = []
second_owned zero Thread = Reported report_0 ∷ []
second_owned (suc shard) Thread = Taken (put 1 1 1) verdict.Applied ∷ Reported report_1 ∷ Taken (put 1 1 1) verdict.Repeat ∷ []
second_owned shard (Giver joiner) = only 3 (Gave 3 what.Image ∷ []) joiner

abbrev second_places : ℕ → Owner → List ℕ
second_places shard (Client client) = []
second_places zero Thread = 0 ∷ []
second_places (suc shard) Thread = 0 ∷ 1 ∷ 3 ∷ []
second_places zero (Giver joiner) = only 3 (1 ∷ []) joiner
second_places (suc shard) (Giver joiner) = only 3 (2 ∷ []) joiner

abbrev third_owned : ℕ → Owner → List Deed
third_owned zero (Client client) = []
third_owned (suc shard) (Client client) = only 2 (get ∷ []) client
third_owned zero Thread = Imaged image_0 ∷ Heard report_0 ∷ []
third_owned (suc shard) Thread = Imaged image_1 ∷ Taken (put 1 1 1) verdict.Repeat ∷ Heard report_1 ∷ []
third_owned shard (Giver joiner) = []

abbrev third_places : ℕ → Owner → List ℕ
third_places zero (Client client) = []
third_places (suc shard) (Client client) = only 2 (3 ∷ []) client
third_places zero Thread = 0 ∷ 1 ∷ []
third_places (suc shard) Thread = 0 ∷ 1 ∷ 2 ∷ []
third_places shard (Giver joiner) = []

abbrev pub small_owned : ℕ → ℕ → Owner → List Deed
small_owned (suc zero) = first_owned
small_owned (suc (suc zero)) = second_owned
small_owned (suc (suc (suc zero))) = third_owned
small_owned _ = λ shard owner. []

abbrev pub small_places : ℕ → ℕ → Owner → List ℕ
small_places (suc zero) = first_places
small_places (suc (suc zero)) = second_places
small_places (suc (suc (suc zero))) = third_places
small_places _ = λ shard owner. []

-- ---- mail

abbrev came : ℕ → Mail → Posted
came sender mail = record { from = sender; mail = mail }

abbrev put_mail : Posted
put_mail = came 0 (mail.Change 1 (put 1 1 1))

-- Clients send from the places 0 and 1, and members from 2 on. By the plan the put comes twice, and so does the first
-- report to the first member; the third has the reports in the other order.
abbrev pub small_taken : ℕ → List Posted
small_taken (suc zero) =
    came 0 mail.End ∷ came 3 (mail.Report 0 report_0) ∷ came 4 mail.End ∷ came 3 (mail.Report 0 report_0)
    ∷ came 3 (mail.Report 1 report_1) ∷ came 3 mail.End ∷ came 2 mail.End ∷ came 1 mail.End ∷ []
small_taken (suc (suc zero)) =
    came 1 mail.End ∷ put_mail ∷ put_mail ∷ came 2 mail.End ∷ came 3 mail.End ∷ came 0 mail.End ∷ came 4 mail.End ∷ []
small_taken (suc (suc (suc zero))) =
    came 3 (mail.Report 1 report_1) ∷ came 0 mail.End ∷ came 3 (mail.Report 0 report_0) ∷ came 4 mail.End ∷ came 3 mail.End
    ∷ came 2 mail.End ∷ came 1 mail.End ∷ []
small_taken _ = []
