-- What a pass knows, and what each step tells it.
use Rattle.std.specs.Prelude.{◌≡◌, ℕ, true, false, ◌+◌, ◌<◌, List, [], ◌∷◌, ◌++◌}
use mathlib.Core.Option.{some}
use lib.ListN.{get_elem?}
use Rattle.gr_post.specs.declared.mail.Posted.{Posted}
use Rattle.gr_post.specs.declared.view.View.{View}
use Rattle.gr_post.specs.declared.view.Met.{Met}
use Rattle.gr_post.specs.Mails.{of, EndsWith}
use Rattle.gr_value.specs.Lists.{StartsWith}

-- a pass that was met by the taker
abbrev pub spent : View
spent = record { sends = false; from = 0; sent = []; takes = false; made = 0; taken = []; met = [] }

-- the taker's pass, and that of a sender, when they are made
abbrev pub taker : View
taker = record spent { takes = true }

abbrev pub sender : ℕ → View
sender p = record spent { sends = true; from = p }

-- the taker's pass, after it made one more sender
abbrev pub enlisting : View → View
enlisting v = record v { made = v.made + 1 }

-- the taker's pass v, after it met the sender's pass w
abbrev pub met_of : View → Met
met_of w = record { from = w.from; sent = w.sent }

abbrev pub meeting : View → View → View
meeting v w = record v { met = v.met ++ met_of w ∷ [] }

-- of each sender that was met, what was taken of it, and then its mails in the ring, are what it sent
abbrev pub Balances : View → List Posted → Type 0
Balances v mails = (i : ℕ) (m : Met) → get_elem? v.met i ≡ some m → m.sent ≡ of m.from v.taken ++ of m.from mails

-- of each sender that was met, what was taken begins what it sent
abbrev pub IsMetInOrder : List Met → List Posted → Type 0
IsMetInOrder met taken = (i : ℕ) (m : Met) → get_elem? met i ≡ some m → StartsWith m.sent (of m.from taken)

-- the mail x was put last
abbrev pub Sends : View → Posted → View → Type 0
Sends v x w = w ≡ record v { sent = v.sent ++ x.mail ∷ [] }

-- what this sender has in the ring ends what it sent
abbrev pub Trails : View → List Posted → Type 0
Trails v mails = EndsWith v.sent (of v.from mails)

-- the mail x of a sender that was made was taken
abbrev pub Takes : View → Posted → View → Type 0
Takes v x w = (w ≡ record v { taken = v.taken ++ x ∷ [] }) × IsMetInOrder w.met w.taken × (x.from < v.made)
