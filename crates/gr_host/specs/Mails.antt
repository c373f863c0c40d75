-- The mail that a member's thread takes and sends.
use Rattle.std.specs.Prelude.{◌≡◌, ℕ, ◌<◌, ◌==◌, not, nat_lt, List, [], ◌∷◌, ◌++◌, if◌then◌else◌}
use Rattle.std.specs.List.{AllByRecursion}
use Rattle.gr_history.specs.Recipients.{member_bits}
use Rattle.gr_history.specs.declared.verdict.Verdict.{Verdict}
use Rattle.gr_post.specs.declared.mail.Mail.{Mail}
use Rattle.gr_post.specs.declared.mail.Mail.TheVariants as mail
use Rattle.gr_post.specs.declared.mail.Posted.{Posted}
use Rattle.gr_post.specs.Passes.{Taking}
use Rattle.gr_run_law.specs.Threads.{Work, TookIn, HeardOf}
use Rattle.gr_member.specs.declared.plan.Plan.{Plan}

-- ---- what is taken

-- These mails were taken behind those that had been taken before.
pub record TakesMore (s t : Taking) (more : List Posted) : Type 0 where
  pub table : t.table ≡ s.table
  pub senders : t.senders ≡ s.senders
  pub met : t.met ≡ s.met
  pub taken : t.taken ≡ s.taken ++ more
  pub known : AllByRecursion (λ (p : Posted). p.from < s.senders) more

-- This mail of one of the senders was taken.
abbrev pub TakesOne : Taking → Mail → Taking → Type 0
TakesOne s mail t = (from : ℕ) × (let one : Posted = record { from = from; mail = mail } in TakesMore s t (one ∷ []))

-- what a thread does about a mail, where it was told this of a change
abbrev pub works_of : ℕ → Verdict → Mail → List Work
works_of shards told (mail.Change at change) = TookIn at change told ∷ []
works_of shards told (mail.Report at report) = if nat_lt at shards then HeardOf at report ∷ [] else []
works_of shards told mail.End = []

-- ---- what is sent

-- all members but the plan's own, each with its bit
abbrev pub others_of : Plan → ℕ
others_of plan = member_bits (λ other. not (other == plan.member)) plan.members
