-- What holds between any two steps of an inbox: what was taken of a sender, and then its mails in the ring, are what it sent.
use Rattle.std.specs.Prelude.{◌≡◌, ℕ, true, ◌<◌, ◌≤◌, List, [], ◌++◌, Option, Some, None}
use mathlib.Core.Option.{some}
use lib.ListN.{get_elem?}
use Rattle.gr_post.specs.declared.mail.Mail.{Mail}
use Rattle.gr_post.specs.declared.mail.Posted.{Posted}
use Rattle.gr_post.specs.declared.view.View.{View}
use Rattle.gr_post.specs.declared.view.Met.{Met}
use Rattle.gr_post.specs.Mails.{of}

-- each sender has one pass, which knows what was sent
abbrev pub FitsSender : (ℕ → Option ℕ) → (ℕ → List Mail) → ℕ → View → Type 0
FitsSender seat sent pass v = v.sends ≡ true → (seat v.from ≡ Some pass) × (v.sent ≡ sent v.from)

-- a sender that was met has no pass, and what it sent stays
abbrev pub FitsMet : (ℕ → Option ℕ) → (ℕ → List Mail) → ℕ → Met → Type 0
FitsMet seat sent made m = (m.from < made) × (seat m.from ≡ None) × (m.sent ≡ sent m.from)

-- the one taker knows what was taken, what those sent that it met, and that later senders have sent nothing
pub record FitsTaker (reader : ℕ) (seat : ℕ → Option ℕ) (sent : ℕ → List Mail) (taken : List Posted) (pass : ℕ) (v : View) : Type 0 where
  pub place : pass ≡ reader
  pub same : v.taken ≡ taken
  pub later : (p : ℕ) → v.made ≤ p → (seat p ≡ None) × (sent p ≡ [])
  pub fits : (i : ℕ) (m : Met) → get_elem? v.met i ≡ some m → FitsMet seat sent v.made m

-- there are a taker, a pass for each sender, what each has sent, and what was taken
pub record Delivers (mails : List Posted) (views : List View) : Type 0 where
  pub reader : ℕ
  pub seat : ℕ → Option ℕ
  pub sent : ℕ → List Mail
  pub taken : List Posted
  pub whole : (p : ℕ) → of p (taken ++ mails) ≡ sent p
  pub senders : (pass : ℕ) (v : View) → get_elem? views pass ≡ some v → FitsSender seat sent pass v
  pub taker : (pass : ℕ) (v : View) → get_elem? views pass ≡ some v → v.takes ≡ true → FitsTaker reader seat sent taken pass v
