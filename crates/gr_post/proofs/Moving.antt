-- What waited was sent.
use Rattle.std.proofs.Common.{◌≡◌, ◌≤◌, ℕ, List, [], ◌∷◌, ◌++◌, Option, refl, sym, ap, ◌∙◌, subst, append-nil}
use Rattle.gr_post.specs.declared.mail.Mail.{Mail}
use Rattle.gr_post.specs.declared.fate.Held.{Held}
use Rattle.gr_post.specs.declared.fate.Fate.{Fate}
use Rattle.gr_post.specs.Passes.{Sending, refused_by}
use Rattle.gr_post.specs.Lanes.{Moves}

-- after some mails went, the next one found the inbox full
pub full_moves : (pass before after : Sending) (waited left behind now : List Mail) (held0 held : List Held) (ready0 ready : Option Fate)
    (gone : List Mail) (mail back : Mail) → waited ≡ gone ++ left → before ≡ record pass { sent = pass.sent ++ gone } → held ≡ held0
    → left ≡ mail ∷ behind → back ≡ mail → after ≡ refused_by before → before.refused ≤ after.refused → now ≡ back ∷ behind
    → Moves (record { pass = pass; waiting = waited; held = held0; ready = ready0 })
    (record { pass = after; waiting = now; held = held; ready = ready })
full_moves pass before after waited left behind now held0 held ready0 ready gone mail back a b c d e f g h = record {
  gone = gone;
  waiting = a ∙ ap (λ (l : List Mail). gone ++ l) (d ∙ ap (λ (x : Mail). x ∷ behind) (sym e) ∙ sym h);
  pass =
      let table = ap (λ (s : Sending). s.table) (f ∙ ap refused_by b) in
      let number = ap (λ (s : Sending). s.number) (f ∙ ap refused_by b) in
      let sent = ap (λ (s : Sending). s.sent) (f ∙ ap refused_by b) in
      λ i. record { table = table i; number = number i; sent = sent i; refused = after.refused };
  rises = subst (λ (n : ℕ). n ≤ after.refused) (ap (λ (s : Sending). s.refused) b) g;
  held = c;
}

-- the inbox was full at once
pub refused_moves : (pass after : Sending) (waiting : List Mail) (held : List Held) (ready : Option Fate) → after ≡ refused_by pass
    → pass.refused ≤ after.refused
    → Moves (record { pass = pass; waiting = waiting; held = held; ready = ready })
    (record { pass = after; waiting = waiting; held = held; ready = ready })
refused_moves pass after waiting held ready a b = record {
  gone = [];
  waiting = refl;
  pass =
      let table = ap (λ (s : Sending). s.table) a in
      let number = ap (λ (s : Sending). s.number) a in
      let sent = ap (λ (s : Sending). s.sent) a ∙ sym (append-nil pass.sent) in
      λ i. record { table = table i; number = number i; sent = sent i; refused = after.refused };
  rises = b;
  held = refl;
}
