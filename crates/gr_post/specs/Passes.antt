-- An inbox and its passes, as their callers see them.
use Rattle.std.specs.Prelude.{◌≡◌, ℕ, true, List, [], ◌∷◌, ◌++◌}
use mathlib.Core.Option.{some}
use lib.ListN.{get_elem?}
use Rattle.atomic_table.specs.Seated.{TableId}
use Rattle.crossbeam_queue.specs.Passes.{Pass, view}
use Rattle.gr_post.specs.declared.mail.Mail.{Mail}
use Rattle.gr_post.specs.declared.mail.Posted.{Posted}
use Rattle.gr_post.specs.declared.view.View.{View}
use Rattle.gr_post.specs.declared.view.Met.{Met}
use Rattle.gr_post.specs.Mails.{of}
use Rattle.gr_post.specs.Views.{IsMetInOrder}
use Rattle.gr_value.specs.Counts.{next_of}

-- an inbox: which one it is, and how many mails its ring holds
pub record Ring : Type 0 where
  pub table : TableId
  pub capacity : ℕ

-- a sender's pass: its inbox and number, what it sent, and how often the inbox was full
pub record Sending : Type 0 where
  pub table : TableId
  pub number : ℕ
  pub sent : List Mail
  pub refused : ℕ

-- the taker's pass: its inbox, how many senders there are, what was taken, the senders that were met, and
-- the sender of the mail that was taken last
pub record Taking : Type 0 where
  pub table : TableId
  pub senders : ℕ
  pub taken : List Posted
  pub met : List Met
  pub sender : ℕ

-- what the tokens of passes stand for
abbrev pub sending : Pass Posted View → ℕ → ℕ → Sending
sending token number refused = record { table = token.table_id; number = number; sent = (view token).sent; refused = refused }

abbrev pub taking : Pass Posted View → ℕ → Taking
taking token sender =
    record { table = token.table_id; senders = (view token).made; taken = (view token).taken; met = (view token).met; sender = sender }

-- the token of a sender with the number, and of a taker
abbrev pub IsSender : Pass Posted View → ℕ → Type 0
IsSender token number = (token.me.1 ≡ []) × ((view token).sends ≡ true) × ((view token).from ≡ number)

abbrev pub IsTaker : Pass Posted View → Type 0
IsTaker token = (token.me.1 ≡ []) × ((view token).takes ≡ true)

-- the passes when they are made
abbrev pub sender_of : TableId → ℕ → Sending
sender_of table number = record { table = table; number = number; sent = []; refused = 0 }

abbrev pub taker_of : TableId → ℕ → Taking
taker_of table senders = record { table = table; senders = senders; taken = []; met = []; sender = 0 }

-- after a mail was sent
abbrev pub sent_by : Sending → Mail → Sending
sent_by pass mail = record pass { sent = pass.sent ++ mail ∷ [] }

-- after the inbox was full
abbrev pub refused_by : Sending → Sending
refused_by pass = record pass { refused = next_of pass.refused }

-- after a mail of the sender was taken
abbrev pub taken_by : Taking → ℕ → Mail → Taking
taken_by pass sender mail =
    let posted : Posted = record { from = sender; mail = mail } in
    record pass { taken = pass.taken ++ posted ∷ []; sender = sender }

-- after a sender's pass was met
abbrev pub met_by : Taking → Sending → Taking
met_by pass from =
    let one : Met = record { from = from.number; sent = from.sent } in
    record pass { met = pass.met ++ one ∷ [] }

-- of each sender that was met, what was taken of it begins what it sent
abbrev pub IsInOrder : Taking → Type 0
IsInOrder pass = IsMetInOrder pass.met pass.taken

-- of each sender that was met, all was taken
abbrev pub HasAll : Taking → Type 0
HasAll pass = (i : ℕ) (m : Met) → get_elem? pass.met i ≡ some m → of m.from pass.taken ≡ m.sent
