-- What couriers are to carry to a member, and how often the trouble plan brings it.
use Rattle.std.specs.Prelude.{ℕ, zero, suc, ◌+◌, ◌-◌, ◌==◌, ◌&&◌, not, Bool, false, List, [], ◌∷◌, reverse, flat_map, Option, Some, None}
use Rattle.gr_value.specs.Shard.{shard_of}
use Rattle.gr_stamp.specs.declared.change.Change.{Change}
use Rattle.gr_vector.specs.declared.report.Report.{Report}
use Rattle.gr_history.specs.Recipients.{member_bits}
use Rattle.gr_post.specs.declared.mail.Mail.{Mail}
use Rattle.gr_post.specs.declared.mail.Mail.TheVariants as mail
use Rattle.gr_post.specs.declared.mail.Posting.{Posting}
use Rattle.gr_post.specs.Plan.{Draw, draws, first_number}
use Rattle.gr_script.specs.Rules.{Heading}
use Rattle.gr_world.specs.Served.{Served, Called, Queried, Looked}

-- ---- what couriers carry

-- of a client: the changes that its steps made, each to the shard of its key
abbrev pub change_posted : ℕ → Option Change → ℕ → List Posting
change_posted shards None to = []
change_posted shards (Some change) to = (record { mail = mail.Change (shard_of change.key shards) change; to = to }) ∷ []

abbrev pub posted_by : ℕ → Served → List Posting
posted_by shards (Called number ask reply made to) = change_posted shards made to
posted_by shards (Queried number ask replies) = []
posted_by shards (Looked number peek) = []

abbrev pub changes_posted : ℕ → List Served → List Posting
changes_posted shards served = flat_map (posted_by shards) served

-- of a member: in each round the reports of all shards, from shard 0 on, to all other members
abbrev pub others : Heading → ℕ → ℕ
others heading member = member_bits (λ other. not (other == member)) heading.members

abbrev pub posted_from : ℕ → ℕ → List Report → List Posting
posted_from to shard [] = []
posted_from to shard (report ∷ reports) = (record { mail = mail.Report shard report; to = to }) ∷ posted_from to (suc shard) reports

abbrev pub reports_posted : Heading → ℕ → List (List Report) → List Posting
reports_posted heading member rounds = flat_map (posted_from (others heading member) 0) rounds

-- ---- how often

-- what f gives for each number from 1 to n, added up
abbrev pub total_to : ℕ → (ℕ → ℕ) → ℕ
total_to zero f = 0
total_to (suc n) f = total_to n f + f (suc n)

-- A client's courier has the client's number. This is the number of a member's, behind those of 64 clients.
abbrev pub courier_of : ℕ → ℕ
courier_of member = 64 + member

-- what the plan draws for a member, where a courier was posted these mails, the first one first
abbrev pub draws_for : Heading → ℕ → ℕ → List Posting → List Draw
draws_for heading courier member posted =
    draws heading.members (first_number heading.trouble courier) (member - 1) (reverse posted)

-- whether a mail brings the shard a change that passes the test
abbrev pub brings_change : ℕ → (Change → Bool) → Mail → Bool
brings_change shard test (mail.Change at change) = at == shard && test change
brings_change shard test _ = false

-- whether a mail brings the shard a report that passes the test
abbrev pub brings_report : ℕ → (Report → Bool) → Mail → Bool
brings_report shard test (mail.Report at report) = at == shard && test report
brings_report shard test _ = false
