-- The trouble plan: what a courier does with each mail, by numbers that are drawn.
use Rattle.std.specs.Prelude.{ℕ, zero, suc, Bool, ◌+◌, ◌-◌, ◌*◌, ◌/◌, ◌%◌, ◌^◌, ◌==◌, if◌then◌else◌, List, [], ◌∷◌, ◌++◌}
use Rattle.gr_value.specs.Drawing.{drawn}
use Rattle.gr_post.specs.declared.mail.Mail.{Mail}
use Rattle.gr_post.specs.declared.mail.Mail.TheVariants.{End}
use Rattle.gr_post.specs.declared.mail.Posting.{Posting}
use Rattle.gr_post.specs.declared.fate.Held.{Held}
use Rattle.gr_post.specs.declared.fate.Fate.{Fate}
use Rattle.gr_post.specs.declared.fate.Fate.TheVariants.{Once, Twice, Hold, Last}

-- ---- numbers

-- the number with which a courier begins; without trouble every number is 0
abbrev pub first_number : ℕ → ℕ → ℕ
first_number trouble sender = if trouble == 0 then 0 else 1 + (trouble + 7919 * sender) % 2147483646

-- whether a mail goes to the inbox at place k, which is that of member k + 1
abbrev pub is_named : ℕ → ℕ → Bool
is_named to k = to / 2 ^ k % 2 == 1

-- the number when the recipients before place k have drawn, one each, in order
abbrev pub number_before : ℕ → ℕ → ℕ → ℕ
number_before x to zero = x
number_before x to (suc k) = if is_named to k then drawn (number_before x to k) else number_before x to k

-- the number after all that was posted to n inboxes, the newest first
abbrev pub number_after : ℕ → ℕ → List Posting → ℕ
number_after n first [] = first
number_after n first (p ∷ past) = number_before (number_after n first past) p.to n

-- a mail with the number that was drawn for it
pub record Draw : Type 0 where
  pub mail : Mail
  pub number : ℕ

-- the mails that go to the inbox at place k, each with its number, the newest first
abbrev pub draws : ℕ → ℕ → ℕ → List Posting → List Draw
draws n first k [] = []
draws n first k (p ∷ past) =
    if is_named p.to k then (record { mail = p.mail; number = drawn (number_before (number_after n first past) p.to k) }) ∷ draws n first
    k past
    else draws n first k past

-- ---- what becomes of a mail

-- released at once, or twice, or held back for a count of mails, or to the end
abbrev pub fate : Mail → ℕ → Fate
fate mail x =
    if x % 4 == 0 then Once mail
    else if x % 4 == 1 then Twice mail mail
    else if x % 4 == 2 then Hold (record { mail = mail; left = 1 + x / 4 % 8 })
    else Hold (record { mail = mail; left = 0 })

abbrev pub mails : List Held → List Mail
mails [] = []
mails (h ∷ hs) = h.mail ∷ mails hs

-- the held mails whose count reaches 0 with the next mail
abbrev pub due : List Held → List Mail
due [] = []
due (h ∷ hs) = if h.left == 1 then h.mail ∷ due hs else due hs

-- the others, with their counts after it
abbrev pub kept : List Held → List Held
kept [] = []
kept (h ∷ hs) = if h.left == 1 then kept hs else (record h { left = h.left - 1 }) ∷ kept hs

-- what a fate releases, where hs is held back, and what is held back after it
abbrev pub released_by : Fate → List Held → List Mail
released_by (Once mail) hs = mail ∷ due hs
released_by (Twice mail copy) hs = mail ∷ copy ∷ due hs
released_by (Hold one) hs = due hs
released_by Last hs = mails hs ++ End ∷ []

abbrev pub held_by : Fate → List Held → List Held
held_by (Once mail) hs = kept hs
held_by (Twice mail copy) hs = kept hs
held_by (Hold one) hs = kept hs ++ one ∷ []
held_by Last hs = []

-- what is held back and what was released after these mails, the newest first
abbrev pub held : List Draw → List Held
held [] = []
held (d ∷ past) = held_by (fate d.mail d.number) (held past)

abbrev pub released : List Draw → List Mail
released [] = []
released (d ∷ past) = released past ++ released_by (fate d.mail d.number) (held past)

-- all that these mails come to, when the last was posted
abbrev pub delivered : List Draw → List Mail
delivered ds = released ds ++ released_by Last (held ds)
